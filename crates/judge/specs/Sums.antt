-- Numbers that sum up others, by tests.
--     largest_joins, union_joins    the larger of two numbers; the union of two sets
--     nothing_above                 no number is below 0
--     sums_more                     one thing more is summed up
use mathlib.Core.Path.{◌≡◌, sym, ◌∙◌}
use mathlib.Core.Bool.{Bool, false, or-false}
use mathlib.Core.List.{List, [], ◌∷◌, ◌++◌}
use Prim.Native.Nat.{ℕ, max}
use native.Mathlib.Omega.{arith}
use lib.Bits.{bit_or}
use lib.Dec.{ltb}
use borrow.Author.Tests.{ltb-true, ltb-false, lt-ltb, le-ltb}
use Rattle.rules.specs.Basics.{bit}
use Rattle.rules.proofs.Bools.{by}
use Rattle.rules.proofs.Bits.{bit_or_lem}
use Rattle.rules.proofs.Sets.{any_append}
use Rattle.judge.specs.Passes.{SumsUp, Joins}

pub largest_joins : Joins ltb max
largest_joins i u v =
    by
    (ltb i u)
    (λ e. rw e (lt-ltb i (max u v) (omega (arith, ltb-true i u e))))
    (λ e. by (ltb i v) (λ f. rw (e, f) (lt-ltb i (max u v) (omega (arith, ltb-true i v f)))) (λ f. rw (e, f) (le-ltb i (max u v) (omega (arith, ltb-false i u e, ltb-false i v f)))))

pub nothing_above : (i : ℕ) → ltb i 0 ≡ false
nothing_above i = le-ltb i 0 (omega arith)

pub union_joins : Joins bit bit_or
union_joins i u v = bit_or_lem i u v

module _ {A : Type 0} (t : ℕ → ℕ → Bool) (g : A → ℕ) where
  pub sums_more : (j : ℕ → ℕ → ℕ) → Joins t j → (xs : List A) (x : A) (u : ℕ) → SumsUp t g xs u → SumsUp t g (xs ++ (x ∷ [])) (j u (g x))
  sums_more j joins xs x u h i = joins i u (g x) ∙ rw (h i) (sym (any_append (λ x. t i (g x)) xs (x ∷ []) ∙ rw (or-false (t i (g x)))))
