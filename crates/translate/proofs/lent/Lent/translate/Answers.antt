-- `translate::lent::Lent::translate` meets its contract: each return is one law of `Promises`, and demand 3 follows from it.
use mathlib.Core.Path.{◌≡◌, ◌∙◌, refl, sym}
use native.Mathlib.Omega.{arith}
use Rattle.rules.proofs.Numbered.{refusal_numbered}
use Rattle.std.proofs.Common.{rules}
use lib.ListN.{length, length-replicate}
use Rattle.std.proofs.lemmas.Result.{err_from_is_err_and}
use Rattle.rules.specs.Tables.{table_of}
use Rattle.rules.proofs.Refusals.{ArrayFacts, array_facts}
use Rattle.tables.specs.Parts.{WellFormed}
use Rattle.survey.proofs.Laying.{is_table}
use Rattle.survey.proofs.Tables.{LaidTable, lay_fault_lem, laid_table, laid_formed}
use Rattle.translate.proofs.Encoding.{codes_encoded}
use Rattle.translate.proofs.Promises.{kept_few, kept_sources, kept_is, told, translate_refused, translate_short, translate_explored, promised}
use Rattle.translate.proofs.lent.Lent.translate.Given.{Over}
use Rattle.translate.proofs.lent.Lent.translate.Goals as goal
use Rattle.translate.proofs.lent.Lent.translate.Goals.{In_ok-laid, Else-short}

pub returns-in_err-laid : goal.returns-in_err-laid
returns-in_err-laid g c =
    let out = err_from_is_err_and c.from_residual.result c.from_residual.ensures.1 in
    let fault = c.in_err-laid.ensures.refusal ∙ lay_fault_lem c.args.table.now _ _ (simp length-replicate c.requires.1) (simp length-replicate c.requires.1) in
    let p = promised (translate_refused _ _ _ _ _ _ _ fault (refusal_numbered _)) in
    rw (out.1, out.2) (record { says = p.0; agrees = p.1.0; means = p.1.1; same = search rules })

-- the table is laid out
formed : (g : Over) (c : In_ok-laid g) → WellFormed c.args.table.now
formed g c = laid_formed (simp length-replicate c.requires.1) (simp length-replicate c.requires.1) c.in_ok-laid.ensures

laid : (g : Over) (c : In_ok-laid g) → let x = c.in_ok-laid.laid in LaidTable (table_of c.args.table.now) x.states x.letters x.start c.lay_table.new.targets c.lay_table.new.marks
laid g c =
    laid_table (formed g c) refl c.lay_table.auto.targets c.lay_table.auto.marks (simp length-replicate c.requires.1) (simp length-replicate c.requires.1) c.in_ok-laid.ensures

pub returns-then-short : goal.returns-then-short
returns-then-short g c =
    let short = rw c.letters_of.ensures at (sym c.are_short-short.ensures ∙ c.if-short.true) in
    let p = promised (translate_short _ _ _ _ _ _ (formed g (goal.at.returns-then-short g c).In_ok-laid) short) in
    record { says = p.0; agrees = p.1.0; means = p.1.1; same = search rules }

pub encode_cells-start-requires : goal.encode_cells-start-requires
encode_cells-start-requires g c =
    let ok = (goal.at.encode_cells-start-requires g c).In_ok-laid in
    let x = laid g ok in
    rw (x.states, x.letters) (x.targets.enough, x.marks.enough, simp length-replicate (c.requires.1 (formed g ok)))

-- the arrays are long enough
enough : (g : Over) (c : Else-short g) → let a = c.args.self.now in let m = c.in_ok-laid.laid.letters in m ≡ (table_of c.args.table.now).letters
    → ArrayFacts a.capacity m (length a.targets.now) (length a.priorities.now) (length a.sources.now) (length a.records.now)
enough g c same = array_facts _ _ _ _ _ _ (rw (c.letters_of.ensures ∙ sym same) at (sym c.are_short-short.ensures ∙ c.if-short.false))

pub leave_rows-requires : goal.leave_rows-requires
leave_rows-requires g c =
    let at = goal.at.leave_rows-requires g c in
    let good = formed g at.In_ok-laid in
    let x = laid g at.In_ok-laid in
    let room = enough g at.Else-short x.letters in
    let codes = codes_encoded (is_table _ good) x c.encode_cells-start.ensures in
    let found = c.find_rows-found in
    let n = kept_is found.result c.unwrap_or.ensures in
    let few = kept_few _ _ _ _ _ c.args.self.now.sources.now _ good x.letters room codes.0 codes.2 found.ensures n in
    (omega (arith, room, few, c.in_ok-laid.laid.sizes.1, found.auto), kept_sources _ _ _ _ _ c.args.self.now.sources.now _ good x.letters room codes.0 codes.2 found.ensures n)

pub returns : goal.returns
returns g c =
    let at = goal.at.returns g c in
    let good = formed g at.In_ok-laid in
    let x = laid g at.In_ok-laid in
    let room = enough g at.Else-short x.letters in
    let codes = codes_encoded (is_table _ good) x c.encode_cells-start.ensures in
    let n = kept_is c.find_rows-found.result c.unwrap_or.ensures in
    let answer = told _ _ c.map_err.ensures.cases in
    let left = rw (n ∙ sym answer.1) at c.leave_rows.ensures.rows in
    let p = promised (translate_explored _ _ _ _ _ _ _ good x.letters room codes.0 codes.2 c.find_rows-found.ensures answer.0 answer.1 left) in
    record { says = p.0; agrees = p.1.0; means = p.1.1; same = search rules }
