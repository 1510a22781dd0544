-- `translate::cells::encode_cells` meets its contract.
use native.Mathlib.Omega.{arith}
use Rattle.translate.proofs.Encoding.{parts_surveyed}
use Rattle.translate.proofs.cells.encode_cells.Goals as goal

pub returns : goal.returns
returns c =
    let sizes = c.args.laid.sizes in
    let survey = c.survey_cells in
    let parts = parts_surveyed survey.ensures sizes.0 sizes.1 c.requires.0 c.requires.1 (omega arith) (omega arith) survey.auto.homes survey.auto.counted in
    record { homes = survey.new.homes; sets = survey.new.counted; home_array = parts.0; set_array = parts.1; codes = c.write_codes.ensures.1; first_key = c.write_codes.ensures.0 }
