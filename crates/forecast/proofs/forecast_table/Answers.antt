-- `forecast::forecast_table` meets its contract: a refusal is the table's, and so are the figures.
use Rattle.rules.proofs.Numbered.{refusal_numbered}
use Rattle.std.proofs.lemmas.Result.{err_from_is_err_and}
use Rattle.forecast.proofs.Counting.{refused_says, forecast_says}
use Rattle.forecast.proofs.forecast_table.Goals as goal

pub returns : goal.returns
returns c =
    let e = c.in_ok-table.ensures in
    let p = forecast_says e.says (rw e.same at c.figures_of.ensures) in
    record { says = p.0; means = p.1 }

pub returns-in_err-table : goal.returns-in_err-table
returns-in_err-table c =
    let p = err_from_is_err_and c.from_residual.result c.from_residual.ensures.1 in
    let q = refused_says c.in_err-table.ensures.says (refusal_numbered c.in_err-table.field-0.0) in
    rw (p.1, p.2) (record { says = q.0; means = q.1 })
