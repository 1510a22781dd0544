-- `explore::check::any_strays` meets its contract: it folds over the codes.
use borrow.Author.Rules.{rules}
use mathlib.Core.Path.{◌∙◌}
use mathlib.Core.Bool.{false, ◌||◌}
use Rattle.std.proofs.lemmas.Iterator.{YieldsList-from_slice}
use Rattle.std.proofs.lemmas.Iterator.Consumers.{fold_from_yields_List}
use Rattle.explore.specs.Cells.{strays}
use Rattle.explore.proofs.Folds.{fold_any}
use Rattle.explore.proofs.check.any_strays.Goals as goal

pub returns : goal.returns
returns c =
    let b = strays c.args.n in
    fold_from_yields_List _ (λ found w. found || b w) false c.fold.result c.fold.ensures.ran (YieldsList-from_slice c.args.cells.now cc) (λ a x r q k. search rules)
    ∙ fold_any b false c.args.cells.now
