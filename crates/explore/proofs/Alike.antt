-- The effects of a row's codes.
--     effects_all    the effect of each letter, where one serves for all or each has its own
use mathlib.Core.Path.{◌≡◌}
use mathlib.Core.List.{List}
use Prim.Native.Nat.{ℕ, ◌*◌, ◌<◌, ◌≤◌}
use native.Mathlib.Nat.{mul-zero, mul-one}
use native.Mathlib.Omega.{arith}
use lib.Dec.{eqb}
use lib.ListN.{get_or}
use borrow.Author.Tests.{eqb-true, eqb-false}
use Rattle.rules.proofs.Bools.{by}
use Rattle.explore.specs.Cells.{marks_in}
use Rattle.explore.specs.Effects.{IsEffect, SameMarks, EffectsTo, EffectsOn}

pub effects_all : (rule : ℕ → ℕ → ℕ) (order m r : ℕ) (row effects : List ℕ) → r ≤ 1 → (r ≡ 0 → SameMarks m row × EffectsTo rule order 1 row effects)
    → (r ≡ 1 → EffectsTo rule order m row effects) → EffectsOn rule order m r row effects
effects_all rule order m r row effects most alike apart =
    record { most = most; each = λ a l. by (eqb r 0) (λ e. one a l (eqb-true r 0 e)) (λ e. own a l (omega (arith, eqb-false r 0 e))) }
  where
    one : (a : ℕ) → a < m → r ≡ 0 → IsEffect rule order (marks_in (get_or row a 0)) (get_or effects (a * r) 0)
    one a l z = let s = alike z in rw (z, mul-zero a, s.0 a l) (s.1 0 (omega arith))

    own : (a : ℕ) → a < m → r ≡ 1 → IsEffect rule order (marks_in (get_or row a 0)) (get_or effects (a * r) 0)
    own a l z = rw (z, mul-one a) (apart z a l)
