-- `explore::check::is_unfit` meets its contract: the tests in their order.
use lib.Dec.{eqb, ltb}
use Rattle.rules.specs.Limits.{max_letters}
use Rattle.rules.proofs.Bools.{by, or_cases, or_none}
use Rattle.explore.specs.Exploring.{is_unfit}
use Rattle.explore.proofs.check.is_unfit.Goals as goal

pub returns-then-m-from : goal.returns-then-m-from
unfolding is_unfit
returns-then-m-from c =
    let m = c.args.task.letters in
    or_cases (eqb m 0) (ltb max_letters m) (rw c.from.ensures at c.if-m-from.true) (λ e. rw e) (λ e. by (eqb m 0) (λ f. rw f) (λ f. rw (f, e)))

pub returns : goal.returns
unfolding is_unfit
returns c =
    let m = c.args.task.letters in
    let r = or_none (eqb m 0) (ltb max_letters m) (rw c.from.ensures at c.if-m-from.false) in
    rw (r.0, r.1, c.any_strays.ensures, c.are_short-short.ensures)
