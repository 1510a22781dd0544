-- Sums and maxima over what is done, once more is handed over.
--     Handed n f v xs d d'       claim: xs, whose members are below n and have the value v, are handed over: d was done and d' is
--     sum_handed, most_handed    the sum of the values of what is done has v more for each member, and the largest is v or what it was
use mathlib.Core.Path.{◌≡◌, refl, sym, ◌∙◌}
use mathlib.Core.Bool.{Bool, false, ◌||◌}
use mathlib.Core.List.{List, [], ◌∷◌}
use Prim.Native.Nat.{ℕ, zero, suc, ◌+◌, ◌*◌, ◌<◌, max}
use native.Mathlib.Omega.{arith}
use lib.Dec.{eqb, ltb}
use lib.ListN.{length}
use borrow.Author.Tests.{eqb-true, eqb-false, eq-eqb, ne_eqb, lt-ltb}
use Rattle.rules.specs.Basics.{when, sum_below, most_below}
use Rattle.rules.proofs.Bools.{by}
use Rattle.rules.proofs.Forecasts.{sum_same, most_same}
use Rattle.components.specs.Places.{at}
use Rattle.components.specs.Handing.{HandedOver}

module _ (n : ℕ) (f : ℕ → ℕ) (v : ℕ) where
  pub record Handed (xs : List ℕ) (d d' : ℕ → Bool) : Type 0 where
    pub over : HandedOver xs d d'
    pub apart : (i j : ℕ) → i < j → j < length xs → at xs i ≡ at xs j → ⊥
    pub below : (i : ℕ) → i < length xs → at xs i < n
    pub value : (i : ℕ) → i < length xs → f (at xs i) ≡ v

-- ---- one number more
abbrev with_one : ℕ → (ℕ → Bool) → ℕ → Bool
with_one x b q = eqb q x || b q

module _ (f : ℕ → ℕ) (x : ℕ) (b : ℕ → Bool) where
  -- the value of what is done, else 0
  before : ℕ → ℕ
  before q = when (b q) (f q)

  after : ℕ → ℕ
  after q = when (with_one x b q) (f q)

  beside : (q : ℕ) → (q ≡ x → ⊥) → after q ≡ before q
  unfolding before after
  beside q d = rw (ne_eqb q x d)

  new_value : b x ≡ false → (q : ℕ) → q ≡ x → (after q ≡ f x) × (before q ≡ 0)
  unfolding before after
  new_value h q z = rw (z, eq-eqb x x refl, h) (refl, refl)

  sum_one : (n : ℕ) → x < n → b x ≡ false → sum_below n after ≡ sum_below n before + f x
  sum_one zero l h = absurd (omega arith)
  sum_one (suc n) l h =
      by
      (eqb n x)
      (λ e. let z = eqb-true n x e in omega (arith, new_value h n z, sum_same n after before (λ i k. beside i (λ w. omega arith))))
      (λ e. let d = eqb-false n x e in omega (arith, beside n d, sum_one n (omega arith) h))

  most_one : (n : ℕ) → x < n → b x ≡ false → most_below n after ≡ max (f x) (most_below n before)
  most_one zero l h = absurd (omega arith)
  most_one (suc n) l h =
      by
      (eqb n x)
      (λ e. let z = eqb-true n x e in omega (arith, new_value h n z, most_same n after before (λ i k. beside i (λ w. omega arith))))
      (λ e. let d = eqb-false n x e in omega (arith, beside n d, most_one n (omega arith) h))

-- ---- member by member
module _ (n : ℕ) (f : ℕ → ℕ) (v : ℕ) where
  -- what is handed over after the first member
  later : (x : ℕ) (xs : List ℕ) (d d' : ℕ → Bool) → Handed n f v (x ∷ xs) d d' → Handed n f v xs (with_one x d) d'
  later x xs d d' h =
      record {
        over = record { fresh = fresh; now = λ i l. h.over.now (suc i) (omega arith); others = others };
        apart = λ i j l k e. h.apart (suc i) (suc j) (omega arith) (omega arith) e;
        below = λ i l. h.below (suc i) (omega arith);
        value = λ i l. h.value (suc i) (omega arith);
      }
    where
      fresh : (i : ℕ) → i < length xs → with_one x d (at xs i) ≡ false
      fresh i l = rw (ne_eqb (at xs i) x (λ e. h.apart 0 (suc i) (omega arith) (omega arith) (sym e))) (h.over.fresh (suc i) (omega arith))

      others : (q : ℕ) → ((i : ℕ) → i < length xs → at xs i ≡ q → ⊥) → d' q ≡ with_one x d q
      others q none =
          by
          (eqb q x)
          (λ e. rw e (rw (eqb-true q x e) (h.over.now 0 (omega arith))))
          (λ e. rw e (h.over.others q (without (eqb-false q x e))))
        where
          without : (q ≡ x → ⊥) → (i : ℕ) → i < length (x ∷ xs) → at (x ∷ xs) i ≡ q → ⊥
          without d zero l e = d (sym e)
          without d (suc i) l e = none i (omega arith) e

  -- where nothing is handed over nothing changes
  nothing : (d d' : ℕ → Bool) → Handed n f v [] d d' → (q : ℕ) → when (d' q) (f q) ≡ when (d q) (f q)
  nothing d d' h q = rw (h.over.others q (λ i k e. absurd (omega arith)))

  pub sum_handed : (xs : List ℕ) (d d' : ℕ → Bool) → Handed n f v xs d d'
      → sum_below n (λ q. when (d' q) (f q)) ≡ sum_below n (λ q. when (d q) (f q)) + length xs * v
  unfolding before after
  sum_handed [] d d' h = sum_same n _ _ (λ q l. nothing d d' h q) ∙ omega arith
  sum_handed (x ∷ xs) d d' h =
      sum_handed xs (with_one x d) d' (later x xs d d' h)
      ∙ omega (arith, sum_one f x d n (h.below 0 (omega arith)) (h.over.fresh 0 (omega arith)), h.value 0 (omega arith))

  most_listed : (xs : List ℕ) (d d' : ℕ → Bool) → Handed n f v xs d d'
      → most_below n (λ q. when (d' q) (f q)) ≡ max (when (ltb 0 (length xs)) v) (most_below n (λ q. when (d q) (f q)))
  unfolding before after
  most_listed [] d d' h = most_same n _ _ (λ q l. nothing d d' h q) ∙ omega arith
  most_listed (x ∷ xs) d d' h =
      let rest = most_listed xs (with_one x d) d' (later x xs d d' h) in
      let one = most_one f x d n (h.below 0 (omega arith)) (h.over.fresh 0 (omega arith)) in
      let first = h.value 0 (omega arith) in
      rw (lt-ltb 0 (length (x ∷ xs)) (omega arith))
      (by (ltb 0 (length xs)) (λ e. let z = rw e at rest in omega arith) (λ e. let z = rw e at rest in omega arith))

  pub most_handed : (xs : List ℕ) (d d' : ℕ → Bool) → Handed n f v xs d d' → 0 < length xs
      → most_below n (λ q. when (d' q) (f q)) ≡ max v (most_below n (λ q. when (d q) (f q)))
  most_handed xs d d' h some = rw (lt-ltb 0 (length xs) some) at (most_listed xs d d' h)
