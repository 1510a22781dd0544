-- The pigeonhole principle: of n + 1 numbers below n two are equal.
use mathlib.Core.Path.{◌≡◌}
use mathlib.Core.Bool.{true, false}
use Prim.Native.Nat.{ℕ, zero, suc, ◌-◌, ◌≤◌, ◌<◌}
use native.Mathlib.Omega.{arith}
use lib.Dec.{eqb, ltb}
use borrow.Author.Tests.{eqb-true, eq-eqb, ltb-true, ltb-false}
use Rattle.rules.specs.Basics.{pick, any_below}
use Rattle.rules.proofs.Bools.{by, clash}
use Rattle.rules.proofs.Sets.{below_find, below_intro}

-- the numbers without v, closed up
without : ℕ → ℕ → ℕ
without v x = pick (ltb x v) x (x - 1)

without_below : (v x n : ℕ) → x < suc n → v < suc n → (x ≡ v → ⊥) → without v x < n
unfolding without
without_below v x n l k d = by (ltb x v) (λ e. rw e (omega (arith, ltb-true x v e))) (λ e. rw e (omega (arith, ltb-false x v e)))

without_same : (v x y : ℕ) → (x ≡ v → ⊥) → (y ≡ v → ⊥) → without v x ≡ without v y → x ≡ y
unfolding without
without_same v x y dx dy h =
    by
    (ltb x v)
    (λ e. by (ltb y v) (λ f. rw (e, f) at h) (λ f. omega (arith, rw (e, f) at h, ltb-true x v e, ltb-false y v f)))
    (λ e. by (ltb y v) (λ f. omega (arith, rw (e, f) at h, ltb-false x v e, ltb-true y v f)) (λ f. omega (arith, rw (e, f) at h, ltb-false x v e, ltb-false y v f)))

pub pigeonhole : (n : ℕ) (f : ℕ → ℕ) → ((r : ℕ) → r ≤ n → f r < n) → (i j : ℕ) × (i < j) × (j ≤ n) × (f i ≡ f j)
pigeonhole zero f below = absurd (omega (arith, below 0 (omega arith)))
pigeonhole (suc n) f below =
    by
    (any_below (suc n) (λ i. eqb (f i) (f (suc n))))
    found
    (λ h. fewer h (pigeonhole n (λ r. without (f (suc n)) (f r)) (λ r l. without_below (f (suc n)) (f r) n (below r (omega arith)) (below (suc n) (omega arith)) (new h r l))))
  where
    found : any_below (suc n) (λ i. eqb (f i) (f (suc n))) ≡ true → (i j : ℕ) × (i < j) × (j ≤ suc n) × (f i ≡ f j)
    found h =
        let r = below_find (suc n) (λ i. eqb (f i) (f (suc n))) h in
        (r.0, suc n, r.1, omega arith, eqb-true (f r.0) (f (suc n)) r.2)

    new : any_below (suc n) (λ i. eqb (f i) (f (suc n))) ≡ false → (r : ℕ) → r ≤ n → f r ≡ f (suc n) → ⊥
    new h r l e = clash (below_intro (suc n) (λ i. eqb (f i) (f (suc n))) r (omega arith) (eq-eqb (f r) (f (suc n)) e)) h

    fewer : any_below (suc n) (λ i. eqb (f i) (f (suc n))) ≡ false
        → ((i j : ℕ) × (i < j) × (j ≤ n) × (without (f (suc n)) (f i) ≡ without (f (suc n)) (f j)))
        → (i j : ℕ) × (i < j) × (j ≤ suc n) × (f i ≡ f j)
    fewer h r =
        (r.0, r.1, r.2, omega arith, without_same (f (suc n)) (f r.0) (f r.1) (new h r.0 (omega arith)) (new h r.1 r.3) r.4)
