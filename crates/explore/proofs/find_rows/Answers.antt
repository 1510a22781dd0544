-- `explore::find_rows` meets its contract: each answer is one law of `Answers`.
use borrow.Author.Rules.{rules}
use mathlib.Core.Path.{sym}
use Rattle.explore.proofs.Answers.{fit_sizes, answer_explored}
use Rattle.explore.proofs.find_rows.Goals as goal

pub invariant_of-checked : goal.invariant_of-checked
invariant_of-checked g c = record { closed = (fit_sizes _ _ _ c.args.keys.now c.args.targets.now c.args.priorities.now (sym c.if-is_unfit.ensures)).0 }

pub explore-requires : goal.explore-requires
explore-requires g c = (fit_sizes _ _ _ c.args.keys.now c.args.targets.now c.args.priorities.now (sym c.if-is_unfit.ensures)).1

pub returns : goal.returns
returns g c =
    rw c.ok_or.ensures.value (answer_explored g.R.Rule.effect _ _ _ _ _ _ (sym c.if-is_unfit.ensures) _ _ _ _ _ _ _ (search rules) (search rules) (search rules) c.explore.ensures.all)
