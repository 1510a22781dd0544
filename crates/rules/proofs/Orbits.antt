-- One function applied to a number again and again: what comes back, and when.
--     iter_shift, iter_add       applied once more at either end; r and then k times
--     round_later                what d times lead back to, they lead back to from there on
--     comes_from, comes_again    from there on each number is one of the first d, and comes again
--     Recur                      for every r, what passes the test c comes after r or more times
--     window                     if d times lead back, any w ≥ d times on from there show exactly what recurs
use mathlib.Core.Path.{◌≡◌, refl, sym, ap, ◌∙◌}
use mathlib.Core.Logic.{◌↔◌}
use mathlib.Core.Bool.{Bool, true}
use Prim.Native.Nat.{ℕ, zero, suc, ◌+◌, ◌-◌, ◌≤◌, ◌<◌}
use native.Mathlib.Nat.{zero-add, suc-add, add_comm}
use native.Mathlib.Omega.{arith}
use lib.Dec.{ltb}
use borrow.Author.Tests.{ltb-true, ltb-false}
use Rattle.rules.specs.Basics.{iter}
use Rattle.rules.proofs.Bools.{by}

module _ (f : ℕ → ℕ) where
  pub iter_shift : (r p : ℕ) → iter f r (f p) ≡ iter f (suc r) p
  iter_shift zero p = refl
  iter_shift (suc r) p = ap f (iter_shift r p)

  pub iter_add : (k r p : ℕ) → iter f (k + r) p ≡ iter f k (iter f r p)
  iter_add zero r p = rw zero-add
  iter_add (suc k) r p = rw suc-add (ap f (iter_add k r p))

  pub round_later : (d i j p : ℕ) → i ≤ j → iter f d (iter f i p) ≡ iter f i p → iter f d (iter f j p) ≡ iter f j p
  round_later d i j p h round =
      let e : j - i + i ≡ j = omega arith in
      let on : iter f j p ≡ iter f (j - i) (iter f i p) = ap (λ (z : ℕ). iter f z p) (sym e) ∙ iter_add (j - i) i p in
      ap (iter f d) on ∙ sym (iter_add d (j - i) (iter f i p)) ∙ ap (λ (z : ℕ). iter f z (iter f i p)) (add_comm d (j - i)) ∙ iter_add (j - i) d (iter f i p) ∙ ap (iter f (j - i)) round ∙ sym on

  -- from a number to which d times lead back
  module _ (p d : ℕ) (some : 0 < d) (round : iter f d p ≡ p) where
    pub comes_from : (s : ℕ) → (k : ℕ) × (k < d) × (iter f s p ≡ iter f k p)
    comes_from zero = (0, some, refl)
    comes_from (suc s) =
        let r = comes_from s in
        by (ltb (suc r.0) d) (λ e. (suc r.0, ltb-true (suc r.0) d e, ap f r.2)) (λ e. let z : suc r.0 ≡ d = omega (arith, ltb-false (suc r.0) d e) in (0, some, ap f r.2 ∙ ap (λ (k : ℕ). iter f k p) z ∙ round))

    pub comes_again : (s r : ℕ) → (t : ℕ) × (r ≤ t) × (iter f t p ≡ iter f s p)
    comes_again s zero = (s, omega arith, refl)
    comes_again s (suc r) = let t = comes_again s r in (t.0 + d, omega arith, iter_add t.0 d p ∙ ap (iter f t.0) round ∙ t.2)

  module _ (c : ℕ → Bool) (p : ℕ) where
    abbrev pub Recur : Type 0
    Recur = (r : ℕ) → (k : ℕ) × (r ≤ k) × (c (iter f k p) ≡ true)

    pub window : (i d w : ℕ) → 0 < d → d ≤ w → iter f d (iter f i p) ≡ iter f i p
        → Recur ↔ ((k : ℕ) × (k < w) × (c (iter f k (iter f i p)) ≡ true))
    window i d w some wide round = (shown, recurs)
      where
        shown : Recur → (k : ℕ) × (k < w) × (c (iter f k (iter f i p)) ≡ true)
        shown h =
            let r = h i in
            let b = comes_from (iter f i p) d some round (r.0 - i) in
            let e : r.0 - i + i ≡ r.0 = omega arith in
            (b.0, omega arith, ap c (sym b.2 ∙ sym (iter_add (r.0 - i) i p) ∙ ap (λ (z : ℕ). iter f z p) e) ∙ r.2)

        recurs : (k : ℕ) × (k < w) × (c (iter f k (iter f i p)) ≡ true) → Recur
        recurs h r =
            let t = comes_again (iter f i p) d some round h.0 r in (t.0 + i, omega arith, ap c (iter_add t.0 i p ∙ t.2) ∙ h.2)
