-- The entries of an array that joins one list for each row, whatever entries follow.
--     get_d_any                                                     below the length the default is not looked at
--     tabulate_length, tabulate_at, tabulate_last, tabulate_same    a tabulated list
--     cell_before, cell_same, cell_split                            a place is the cell of one row and one letter only
--     cell_within, row_ends                                         a cell, and the cells of a row, are among the cells of all rows
--     joined_length, joined_at                                      lists of one length, joined: the cell of row i and letter a is number i · m + a
--     cells_length, cells_at                                        one number for each letter of each row, joined
--     tabulate_none, joined_none                                    where nothing passes a test, in each place or in each list
--     mapped_at                                                     one number for each row
use mathlib.Core.Path.{◌≡◌, refl, sym, ap, ◌∙◌}
use mathlib.Core.Bool.{Bool, false}
use mathlib.Core.List.{List, [], ◌∷◌, ◌++◌, append_assoc, map}
use Prim.Native.Nat.{ℕ, zero, suc, ◌+◌, ◌*◌, ◌/◌, ◌%◌, ◌≤◌, ◌<◌}
use native.Mathlib.Nat.{suc-mul, zero-mul, mul-le-mul, mul-le-mul_right, le_refl, div-add-mod', div-lt_iff_lt-mul, mod-lt}
use native.Mathlib.Omega.{arith}
use lib.Dec.{ltb}
use lib.ListN.{length, get_or, length-append, get_or-append}
use lib.Seq.{get_or-append-add}
use borrow.Author.Tests.{ltb-true, ltb-false}
use Rattle.rules.specs.Basics.{any, tabulate, joined}
use Rattle.rules.specs.Systems.{cell}
use Rattle.rules.proofs.Bools.{by}
use Rattle.rules.proofs.Sets.{any_append}

pub get_d_any : (xs : List ℕ) (i d e : ℕ) → i < length xs → get_or xs i d ≡ get_or xs i e
get_d_any [] i d e l = absurd (omega arith)
get_d_any (x ∷ xs) zero d e l = refl
get_d_any (x ∷ xs) (suc i) d e l = get_d_any xs i d e (omega arith)

pub cell_within : (n m q a : ℕ) → q < n → a < m → cell m q a < n * m
cell_within n m q a l r = let h : suc q * m ≤ n * m = mul-le-mul l (le_refl m) in omega (arith, suc-mul q m)

pub row_ends : (n m i : ℕ) → i < n → cell m i m ≤ n * m
row_ends n m i l = let rows : suc i * m ≤ n * m = mul-le-mul_right m l in omega (arith, suc-mul i m)

module _ {B : Type 0} (h : ℕ → B) where
  pub tabulate_length : (n i : ℕ) → length (tabulate n i h) ≡ n
  tabulate_length zero i = refl
  tabulate_length (suc n) i = ap suc (tabulate_length n (suc i))

  pub tabulate_at : (n i a : ℕ) (d : B) → a < n → get_or (tabulate n i h) a d ≡ h (i + a)
  tabulate_at zero i a d l = absurd (omega arith)
  tabulate_at (suc n) i zero d l = ap h (omega arith)
  tabulate_at (suc n) i (suc a) d l = tabulate_at n (suc i) a d (omega arith) ∙ ap h (omega arith)

pub tabulate_last : {B : Type 0} (h : ℕ → B) (n i : ℕ) → tabulate (suc n) i h ≡ tabulate n i h ++ (h (i + n) ∷ [])
tabulate_last h zero i = let e : i + 0 ≡ i = omega arith in rw e
tabulate_last h (suc n) i = let e : suc i + n ≡ i + suc n = omega arith in ap (λ (z : List _). h i ∷ z) (tabulate_last h n (suc i) ∙ rw e)

pub tabulate_same : {B : Type 0} (g h : ℕ → B) (n i : ℕ) → ((a : ℕ) → i ≤ a → a < i + n → g a ≡ h a) → tabulate n i g ≡ tabulate n i h
tabulate_same g h zero i f = refl
tabulate_same g h (suc n) i f =
    rw (f i (omega arith) (omega arith), tabulate_same g h n (suc i) (λ a l u. f a (omega arith) (omega arith)))

-- ---- cells
pub cell_before : (m q q' a a' : ℕ) → a < m → q < q' → cell m q a < cell m q' a'
cell_before m q q' a a' l h = let rows : suc q * m ≤ q' * m = mul-le-mul h (le_refl m) in omega (arith, suc-mul q m)

pub cell_same : (m q q' a a' : ℕ) → a < m → a' < m → cell m q a ≡ cell m q' a' → (q ≡ q') × (a ≡ a')
cell_same m q q' a a' l l' e = (same, letters same)
  where
    same : q ≡ q'
    same =
        by
        (ltb q q')
        (λ f. absurd (omega (arith, cell_before m q q' a a' l (ltb-true q q' f))))
        (λ f. by (ltb q' q) (λ g. absurd (omega (arith, cell_before m q' q a' a l' (ltb-true q' q g)))) (λ g. omega (arith, ltb-false q q' f, ltb-false q' q g)))

    letters : q ≡ q' → a ≡ a'
    letters z = let f : cell m q a ≡ cell m q a' = rw (← z) at e in omega arith

pub cell_split : (m n p : ℕ) → 0 < m → p < n * m → (q a : ℕ) × (a < m) × (q < n) × (p ≡ cell m q a)
cell_split m n p l h = (p / m, p % m, mod-lt p l, (div-lt_iff_lt-mul l).1 h, sym (div-add-mod' p m))

module _ {A B : Type 0} (h : A → List B) (m : ℕ) (even : (x : A) → length (h x) ≡ m) where
  pub joined_length : (xs : List A) → length (joined h xs) ≡ length xs * m
  joined_length [] = sym (zero-mul m)
  joined_length (x ∷ xs) = simp length-append (rw suc-mul (omega (arith, even x, joined_length xs)))

  pub joined_at : (xs : List A) (z : List B) (i a : ℕ) (d : B) (d' : A) → i < length xs → a < m
      → get_or (joined h xs ++ z) (cell m i a) d ≡ get_or (h (get_or xs i d')) a d
  joined_at [] z i a d d' l la = absurd (omega arith)
  joined_at (x ∷ xs) z zero a d d' l la =
      rw (append_assoc (h x) (joined h xs) z, zero-mul m)
      (ap (λ (n : ℕ). get_or (h x ++ (joined h xs ++ z)) n d) (omega arith) ∙ get_or-append (h x) (joined h xs ++ z) d a (omega (arith, even x)))
  joined_at (x ∷ xs) z (suc i) a d d' l la =
      let e : cell m (suc i) a ≡ length (h x) + cell m i a = rw suc-mul (omega (arith, even x)) in
      rw (append_assoc (h x) (joined h xs) z, e) (get_or-append-add (h x) (joined h xs ++ z) (cell m i a) d ∙ joined_at xs z i a d d' (omega arith) la)

-- one number for each letter of each row
module _ {A : Type 0} (h : A → ℕ → ℕ) (m : ℕ) where
  even_rows : (r : A) → length (tabulate m 0 (h r)) ≡ m
  even_rows r = tabulate_length (h r) m 0

  pub cells_length : (rs : List A) → length (joined (λ r. tabulate m 0 (h r)) rs) ≡ length rs * m
  cells_length rs = joined_length (λ r. tabulate m 0 (h r)) m even_rows rs

  pub cells_at : (rs : List A) (z : List ℕ) (i a d : ℕ) (d' : A) → i < length rs → a < m
      → get_or (joined (λ r. tabulate m 0 (h r)) rs ++ z) (cell m i a) d ≡ h (get_or rs i d') a
  cells_at rs z i a d d' l la =
      joined_at (λ r. tabulate m 0 (h r)) m even_rows rs z i a d d' l la ∙ tabulate_at (h (get_or rs i d')) m 0 a d la
      ∙ ap (h (get_or rs i d')) (omega arith)

-- tests that nothing passes
pub tabulate_none : {B : Type 0} (b : B → Bool) (h : ℕ → B) (n i : ℕ) → ((a : ℕ) → i ≤ a → a < i + n → b (h a) ≡ false)
    → any b (tabulate n i h) ≡ false
tabulate_none b h zero i f = refl
tabulate_none b h (suc n) i f =
    rw (f i (omega arith) (omega arith)) (tabulate_none b h n (suc i) (λ a l u. f a (omega arith) (omega arith)))

pub joined_none : {A B : Type 0} (b : B → Bool) (h : A → List B) (d : A) (xs : List A)
    → ((i : ℕ) → i < length xs → any b (h (get_or xs i d)) ≡ false) → any b (joined h xs) ≡ false
joined_none b h d [] f = refl
joined_none b h d (x ∷ xs) f =
    any_append b (h x) (joined h xs) ∙ rw (f 0 (omega arith)) (joined_none b h d xs (λ i l. f (suc i) (omega arith)))

pub mapped_at : {A B : Type 0} (h : A → B) (xs : List A) (z : List B) (i : ℕ) (d : B) (d' : A) → i < length xs
    → get_or (map h xs ++ z) i d ≡ h (get_or xs i d')
mapped_at h [] z i d d' l = absurd (omega arith)
mapped_at h (x ∷ xs) z zero d d' l = refl
mapped_at h (x ∷ xs) z (suc i) d d' l = mapped_at h xs z i d d' (omega arith)
