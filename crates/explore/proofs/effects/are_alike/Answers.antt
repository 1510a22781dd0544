-- `explore::effects::are_alike` meets its contract: it folds over the codes.
use borrow.Author.Rules.{rules}
use mathlib.Core.Path.{sym, ◌∙◌}
use mathlib.Core.Bool.{Bool, true, ◌&&◌}
use Prim.Native.Nat.{ℕ}
use lib.Dec.{eqb}
use lib.ListN.{get_or}
use borrow.Author.Tests.{eqb-true}
use Rattle.std.proofs.lemmas.Iterator.{YieldsList-from_slice}
use Rattle.std.proofs.lemmas.Iterator.Consumers.{fold_from_yields_List}
use Rattle.explore.specs.Cells.{marks_in}
use Rattle.explore.proofs.Folds.{fold_all}
use Rattle.explore.proofs.effects.are_alike.Goals as goal

pub returns : goal.returns
returns c same a l =
    let b : ℕ → Bool = λ w. eqb (marks_in w) c.marks_of-marks.result in
    let all = fold_from_yields_List _ (λ s w. s && b w) true c.fold.result c.fold.ensures.ran (YieldsList-from_slice c.args.row.now cc) (λ s x r q k. search rules) in
    let each = fold_all b true c.args.row.now (sym all ∙ same) in
    eqb-true (marks_in (get_or c.args.row.now a 0)) c.marks_of-marks.result (each.1 a l) ∙ c.marks_of-marks.ensures
