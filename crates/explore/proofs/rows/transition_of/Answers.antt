-- `explore::rows::transition_of` meets its contract, by the kind of the transition.
use mathlib.Core.Path.{◌≡◌, refl, ◌∙◌}
use Prim.Native.Nat.{◌/◌, ◌%◌}
use native.Mathlib.Omega.{arith}
use borrow.Author.Tests.{lt-ltb, le-ltb}
use Rattle.explore.specs.Cells.{step_in, key_of, span, crossing_kind}
use Rattle.explore.proofs.rows.transition_of.Goals as goal

pub returns-then-code-lt-CROSSING : goal.returns-then-code-lt-CROSSING
unfolding step_in
returns-then-code-lt-CROSSING c = rw (lt-ltb _ _ c.if-code-lt-CROSSING.true) (refl, refl)

pub returns-then-code-lt-INSIDE : goal.returns-then-code-lt-INSIDE
unfolding step_in
returns-then-code-lt-INSIDE c =
    let code = c.args.code in
    let whole : key_of (code % crossing_kind / span) (code % span) ≡ code % crossing_kind = omega arith in
    rw (le-ltb _ _ c.if-code-lt-CROSSING.false, lt-ltb _ _ c.if-code-lt-INSIDE.true) (refl, c.key_of-key.ensures ∙ whole, refl)

pub returns : goal.returns
unfolding step_in
returns c = rw (le-ltb _ _ c.if-code-lt-CROSSING.false, le-ltb _ _ c.if-code-lt-INSIDE.false) (refl, c.key_of-key-2.ensures, refl)
