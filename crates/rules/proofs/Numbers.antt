-- A record's number determines the record, and has as many digits as the record has pairs.
--     is_digit i            1 to 9: what can stand for a pair in a decimal number, so that no pair is lost at the front
--     decimal_determines    two lists of digits with the same decimal number are the same
--     decimal_below         the decimal number of n digits is below the n-th power of ten
--     record_determined     two orderings of pairs 1 to 9 with the same number are the same record
use mathlib.Core.Path.{◌≡◌, refl, sym, ap, ap₂, ◌∙◌}
use mathlib.Core.Bool.{Bool, true, false, not, ◌&&◌}
use mathlib.Core.List.{List, [], ◌∷◌, reverse, reverse_aux, reverse-reverse}
use Prim.Native.Nat.{ℕ, suc, ◌+◌, ◌*◌, ◌%◌, ◌^◌, ◌≤◌, ◌<◌}
use native.Mathlib.Nat.{mul_assoc, mul-le-mul_right, pow-succ'}
use native.Mathlib.Omega.{arith}
use lib.Dec.{leb}
use lib.ListN.{length}
use borrow.Author.Tests.{leb-true, le-leb, not-false, not-true}
use Rattle.rules.specs.Basics.{any, is_in}
use Rattle.rules.specs.Records.{decimal_from, decimal}
use Rattle.rules.specs.Tables.{Table, IsOrdering}
use Rattle.rules.proofs.Bools.{by, clash, or_none, and_both, and_parts}
use Rattle.rules.proofs.Sets.{any_find}
use Rattle.rules.proofs.RabinTables.{counted_parts, ordering_holds}

abbrev pub is_digit : ℕ → Bool
is_digit i = leb 1 i && leb i 9

abbrev pub AllDigits : List ℕ → Type 0
AllDigits o = any (λ i. not (is_digit i)) o ≡ false

digit_bounds : (i : ℕ) → is_digit i ≡ true → (1 ≤ i) × (i ≤ 9)
digit_bounds i h = let r = and_parts (leb 1 i) (leb i 9) h in (leb-true 1 i r.0, leb-true i 9 r.1)

digits_split : (i : ℕ) (o : List ℕ) → AllDigits (i ∷ o) → (1 ≤ i) × (i ≤ 9) × AllDigits o
digits_split i o h =
    let r = or_none (not (is_digit i)) (any (λ j. not (is_digit j)) o) h in
    let b = digit_bounds i (not-false (is_digit i) r.0) in (b.0, b.1, r.1)

digits_turned : (o acc : List ℕ) → AllDigits o → AllDigits acc → AllDigits (reverse_aux o acc)
digits_turned [] acc h g = g
digits_turned (i ∷ o) acc h g =
    let r = or_none (not (is_digit i)) (any (λ j. not (is_digit j)) o) h in digits_turned o (i ∷ acc) r.1 (rw r.0 g)

-- the number of a list read from its end: the first element is the last digit
abbrev from_end : List ℕ → ℕ
from_end [] = 0
from_end (i ∷ o) = 10 * from_end o + i

from_end_same : (o o' : List ℕ) → AllDigits o → AllDigits o' → from_end o ≡ from_end o' → o ≡ o'
from_end_same [] [] h g e = refl
from_end_same [] (j ∷ o') h g e = absurd (omega (arith, (digits_split j o' g).0))
from_end_same (i ∷ o) [] h g e = absurd (omega (arith, (digits_split i o h).0))
from_end_same (i ∷ o) (j ∷ o') h g e =
    let p = digits_split i o h in
    let q = digits_split j o' g in
    let last : i ≡ j = omega (arith, p.0, p.1, q.0, q.1, ap (λ (n : ℕ). n % 10) e) in
    ap₂ (λ (x : ℕ) (z : List ℕ). x ∷ z) last (from_end_same o o' p.2 q.2 (omega arith))

decimal_turned : (o acc : List ℕ) → decimal_from (from_end acc) o ≡ from_end (reverse_aux o acc)
decimal_turned [] acc = refl
decimal_turned (i ∷ o) acc = decimal_turned o (i ∷ acc)

pub decimal_determines : (o o' : List ℕ) → AllDigits o → AllDigits o' → decimal o ≡ decimal o' → o ≡ o'
decimal_determines o o' h g e =
    sym (reverse-reverse o)
    ∙ ap reverse (from_end_same (reverse o) (reverse o') (digits_turned o [] h refl) (digits_turned o' [] g refl) (sym (decimal_turned o []) ∙ e ∙ decimal_turned o' []))
    ∙ reverse-reverse o'

decimal_from_below : (v : ℕ) (o : List ℕ) → AllDigits o → decimal_from v o < suc v * 10 ^ length o
decimal_from_below v [] h = omega arith
decimal_from_below v (i ∷ o) h =
    let d = digits_split i o h in
    let more : suc (10 * v + i) * 10 ^ length o ≤ suc v * 10 * 10 ^ length o = mul-le-mul_right (10 ^ length o) (omega (arith, d.1)) in
    rw (pow-succ', ← mul_assoc) (omega (arith, decimal_from_below (10 * v + i) o d.2))

pub decimal_below : (o : List ℕ) → AllDigits o → decimal o < 10 ^ length o
decimal_below o h = omega (arith, decimal_from_below 0 o h)

module _ (t : Table) (few : t.pairs ≤ 9) where
  pub ordering_digits : (q : ℕ) (o : List ℕ) → IsOrdering t q o → AllDigits o
  ordering_digits q o f = by (any (λ i. not (is_digit i)) o) (λ h. stray (any_find (λ i. not (is_digit i)) o h)) (λ h. h)
    where
      stray : (i : ℕ) × (is_in i o ≡ true) × (not (is_digit i) ≡ true) → AllDigits o
      stray r =
          let i = r.0 in
          let c = counted_parts t q i (sym (ordering_holds t q i o f) ∙ r.1) in
          clash (and_both (leb 1 i) (leb i 9) (le-leb 1 i c.0) (le-leb i 9 (omega (arith, c.1)))) (not-true (is_digit i) r.2)

  pub record_determined : (q q' : ℕ) (o o' : List ℕ) → IsOrdering t q o → IsOrdering t q' o' → decimal o ≡ decimal o' → o ≡ o'
  record_determined q q' o o' f g e = decimal_determines o o' (ordering_digits q o f) (ordering_digits q' o' g) e
