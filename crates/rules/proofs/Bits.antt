-- Sets of numbers as the bits of a number.
--     bit_or_lem, bit_and_lem      the bits of two numbers together, and those that both have
--     bit_one                      the bits of a number with one bit
--     bit_masked                   a bit, as a mask with that bit alone finds it
--     bit_none, bit_over           no bit of 0 is set, nor one above a number
--     one_shifted                  a number with one bit, as a shift makes it
--     as_bits_below, as_bits_at    the number whose bits pass a test, and its bits
--     bits_determine, bits_are     numbers with the same bits are equal
--     both_below                   two bytes, as one mask, have no bit from j on: both are below 2 ^ j
use mathlib.Core.Path.{◌≡◌, refl, sym, ap, ◌∙◌}
use mathlib.Core.Bool.{Bool, true, false, not, ◌&&◌, ◌||◌}
use Prim.Native.Nat.{ℕ, zero, suc, ◌+◌, ◌-◌, ◌*◌, ◌/◌, ◌%◌, ◌^◌, max, min, ◌<◌, ◌≤◌}
use native.Mathlib.Nat.{one-mul, one-le-pow, pow-suc, div-eq_of_lt, zero-div, div-one, zero-add, not-suc-le-zero, zero-mul, mod-lt}
use native.Mathlib.Omega.{arith}
use lib.Dec.{eqb, ltb, lit<, eqb-suc-zero}
use lib.Bits.{bit_and, bit_or, and_step, or_step, and_shr, or_shr, and_le_r, or_shifted, and_block, and_high}
use lib.Pow.{pow-lt, pow-add, shl_exact, shl-shr, shr-shr, pow_pos, shr_mod, split}
use borrow.Author.Tests.{eqb-true, eqb-false, eq-eqb, ne_eqb, ltb-true, ltb-false}
use Rattle.rules.specs.Basics.{bit, when, as_bits}
use Rattle.rules.proofs.Bools.{by, clash}

-- what holds of two digits, case by case
two_digits : (P : ℕ → ℕ → Type 0) → P 0 0 → P 0 1 → P 1 0 → P 1 1 → (x y : ℕ) → x < 2 → y < 2 → P x y
two_digits P a b c d zero zero l r = a
two_digits P a b c d zero (suc zero) l r = b
two_digits P a b c d (suc zero) zero l r = c
two_digits P a b c d (suc zero) (suc zero) l r = d
two_digits P a b c d (suc (suc x)) y l r = absurd (omega arith)
two_digits P a b c d zero (suc (suc y)) l r = absurd (omega arith)
two_digits P a b c d (suc zero) (suc (suc y)) l r = absurd (omega arith)

pub bit_or_lem : (j a b : ℕ) → bit j (bit_or a b) ≡ bit j a || bit j b
bit_or_lem j a b =
    let x = a / 2 ^ j in
    let y = b / 2 ^ j in
    let step = or_step x y in
    let e : bit_or a b / 2 ^ j % 2 ≡ max (x % 2) (y % 2) = rw (or_shr a b j) (omega arith) in
    rw e (two_digits (λ u v. eqb (max u v) 1 ≡ eqb u 1 || eqb v 1) refl refl refl refl (x % 2) (y % 2) (omega arith) (omega arith))

pub bit_and_lem : (j a b : ℕ) → bit j (bit_and a b) ≡ bit j a && bit j b
bit_and_lem j a b =
    let x = a / 2 ^ j in
    let y = b / 2 ^ j in
    let step = and_step x y in
    let e : bit_and a b / 2 ^ j % 2 ≡ min (x % 2) (y % 2) = rw (and_shr a b j) (omega arith) in
    rw e (two_digits (λ u v. eqb (min u v) 1 ≡ eqb u 1 && eqb v 1) refl refl refl refl (x % 2) (y % 2) (omega arith) (omega arith))

pub bit_none : (j : ℕ) → bit j 0 ≡ false
bit_none j = rw (zero-div (2 ^ j))

bit_same : (q : ℕ) → bit q (2 ^ q) ≡ true
bit_same q = let e : 2 ^ q / 2 ^ q ≡ 1 = ap (λ (x : ℕ). x / 2 ^ q) (sym (one-mul (2 ^ q))) ∙ shl-shr 1 q in rw e

bit_above : (q j : ℕ) → q < j → bit j (2 ^ q) ≡ false
bit_above q j l = rw (div-eq_of_lt (pow-lt l))

bit_below : (q j : ℕ) → j < q → bit j (2 ^ q) ≡ false
bit_below q j l =
    let d = q - suc j in
    let e : q ≡ suc d + j = omega arith in
    let h : 2 ^ q / 2 ^ j ≡ 2 ^ d * 2 = ap (λ (x : ℕ). 2 ^ x / 2 ^ j) e ∙ ap (λ (x : ℕ). x / 2 ^ j) (pow-add 2 (suc d) j) ∙ shl-shr (2 ^ suc d) j ∙ pow-suc 2 d in
    let z : 2 ^ q / 2 ^ j % 2 ≡ 0 = rw h (omega arith) in
    rw z

pub bit_one : (q j : ℕ) → bit j (2 ^ q) ≡ eqb q j
bit_one q j =
    by
    (eqb q j)
    (λ e. rw (e, ← eqb-true q j e) (bit_same q))
    (λ e. let d = eqb-false q j e in by (ltb q j) (λ l. rw e (bit_above q j (ltb-true q j l))) (λ l. let g = ltb-false q j l in rw e (bit_below q j (omega arith))))

-- the number with one bit, as a shift makes it
pub one_shifted : (w q : ℕ) → q < w → 1 * 2 ^ q % 2 ^ w ≡ 2 ^ q
one_shifted w q l = shl_exact 1 q w (lit< tt) (omega arith) ∙ one-mul (2 ^ q)

-- the number whose bits are the numbers that pass a test
pub bit_over : (k w : ℕ) → w < 2 ^ k → bit k w ≡ false
bit_over k w l = rw (div-eq_of_lt l)

bit_more : (k w j : ℕ) → w < 2 ^ k → bit j (2 ^ k + w) ≡ eqb k j || bit j w
bit_more k w j l =
    let e : bit_or (1 * 2 ^ k) w ≡ 1 * 2 ^ k + w = or_shifted 1 k w l in
    let d : bit_or (2 ^ k) w ≡ 2 ^ k + w = rw (one-mul (2 ^ k)) at e in
    rw (← d, bit_or_lem j (2 ^ k) w, bit_one k j)

module _ (b : ℕ → Bool) where
  pub as_bits_below : (k : ℕ) → as_bits k b < 2 ^ k
  as_bits_below zero = lit< tt
  as_bits_below (suc k) =
      rw (pow-suc 2 k) (by (b k) (λ e. rw e (omega (arith, as_bits_below k))) (λ e. rw e (omega (arith, as_bits_below k))))

  pub as_bits_at : (k j : ℕ) → j < k → bit j (as_bits k b) ≡ b j
  as_bits_at zero j l = absurd (not-suc-le-zero l)
  as_bits_at (suc k) j l =
      by
      (eqb j k)
      (λ e. rw (eqb-true j k e) top)
      (λ e. let d = eqb-false j k e in lower (omega arith) ∙ as_bits_at k j (omega arith))
    where
      w : ℕ
      w = as_bits k b

      top : bit k (when (b k) (2 ^ k) + w) ≡ b k
      top =
          by
          (b k)
          (λ e. rw e (bit_more k w k (as_bits_below k) ∙ rw (eq-eqb k k refl)))
          (λ e. rw (e, zero-add w) (bit_over k w (as_bits_below k)))

      lower : j < k → bit j (when (b k) (2 ^ k) + w) ≡ bit j w
      lower h =
          by
          (b k)
          (λ e. rw e (bit_more k w j (as_bits_below k) ∙ rw (ne_eqb k j (λ d. omega arith))))
          (λ e. rw (e, zero-add w))

-- numbers with the same bits are equal
digits_same : (x y : ℕ) → x < 2 → y < 2 → eqb x 1 ≡ eqb y 1 → x ≡ y
digits_same x y l r h =
    by
    (eqb x 1)
    (λ e. eqb-true x 1 e ∙ sym (eqb-true y 1 (sym h ∙ e)))
    (λ e. let d = eqb-false x 1 e in let f = eqb-false y 1 (sym h ∙ e) in omega arith)

pub bits_determine : (k v w : ℕ) → v < 2 ^ k → w < 2 ^ k → ((j : ℕ) → j < k → bit j v ≡ bit j w) → v ≡ w
bits_determine zero v w lv lw h = omega arith
bits_determine (suc k) v w lv lw h =
    let p = pow-suc 2 k in
    let low : v % 2 ≡ w % 2 = digits_same (v % 2) (w % 2) (omega arith) (omega arith) (rw (div-one v, div-one w) at (h 0 (omega arith))) in
    let up : v / 2 ≡ w / 2 = bits_determine k (v / 2) (w / 2) (omega arith) (omega arith) (λ j l. half v j ∙ h (suc j) (omega arith) ∙ sym (half w j)) in
    omega arith
  where
    half : (x j : ℕ) → bit j (x / 2) ≡ bit (suc j) x
    half x j = let e : x / 2 / 2 ^ j ≡ x / 2 ^ suc j = shr-shr x 1 j ∙ ap (λ (i : ℕ). x / 2 ^ i) (omega arith) in rw e

pub bits_are : (k v : ℕ) (b : ℕ → Bool) → v < 2 ^ k → ((j : ℕ) → j < k → bit j v ≡ b j) → v ≡ as_bits k b
bits_are k v b l h = bits_determine k v (as_bits k b) l (as_bits_below b k) (λ j i. h j i ∙ sym (as_bits_at b k j i))

-- a bit, as the mask that has it alone finds it
pub bit_masked : (q v : ℕ) → not (eqb (bit_and v (2 ^ q)) 0) ≡ bit q v
bit_masked q v =
    by
    (bit q v)
    (λ e. rw (e, ne_eqb (bit_and v (2 ^ q)) 0 (λ z. clash (sym (ap (bit q) z) ∙ masked q ∙ rw (e, eq-eqb q q refl)) (bit_none q))))
    (λ e. rw (e, eq-eqb (bit_and v (2 ^ q)) 0 (bits_determine (suc q) (bit_and v (2 ^ q)) 0 small (one-le-pow (suc q) 2 (omega arith)) (nothing e))))
  where
    masked : (j : ℕ) → bit j (bit_and v (2 ^ q)) ≡ bit j v && eqb q j
    masked j = bit_and_lem j v (2 ^ q) ∙ rw (bit_one q j)

    small : bit_and v (2 ^ q) < 2 ^ suc q
    small = rw (pow-suc 2 q) (omega (arith, and_le_r v (2 ^ q), one-le-pow q 2 (omega arith)))

    nothing : bit q v ≡ false → (j : ℕ) → j < suc q → bit j (bit_and v (2 ^ q)) ≡ bit j 0
    nothing e j l =
        masked j
        ∙ by (eqb q j) (λ h. rw (h, ← eqb-true q j h, e, bit_none q)) (λ h. rw (h, bit_none j) (by (bit j v) (λ g. rw g) (λ g. rw g)))

-- two bytes as one mask: what is left of it by the bits from j on, in both
high_none : (d j n : ℕ) → n < 2 ^ (d + j) → eqb (bit_and n (2 ^ (d + j) - 2 ^ j)) 0 ≡ ltb n (2 ^ j)
high_none d j n l =
    rw (and_high n d j, shr_mod d j l)
    (by
    (ltb n (2 ^ j))
    (λ e. rw (e, div-eq_of_lt (ltb-true n (2 ^ j) e)) (eq-eqb (0 * 2 ^ j) 0 (zero-mul (2 ^ j))))
    (λ e. rw e (ne_eqb (n / 2 ^ j * 2 ^ j) 0 (λ h. absurd (omega (arith, ltb-false n (2 ^ j) e, split n j, mod-lt n (pow_pos j)))))))

both_none : (a b : ℕ) → eqb (a * 256 + b) 0 ≡ eqb b 0 && eqb a 0
both_none zero zero = refl
both_none zero (suc b) = rw (eqb-suc-zero b) (ne_eqb (0 * 256 + suc b) 0 (λ h. omega arith))
both_none (suc a) zero = rw (eqb-suc-zero a) (ne_eqb (suc a * 256 + 0) 0 (λ h. omega arith))
both_none (suc a) (suc b) = rw (eqb-suc-zero b) (ne_eqb (suc a * 256 + suc b) 0 (λ h. omega arith))

pub both_below : (j u v : ℕ) → j ≤ 8 → u < 256 → v < 256
    → eqb (bit_and (v * 256 + u) ((256 - 2 ^ j) * 256 + (256 - 2 ^ j))) 0 ≡ ltb u (2 ^ j) && ltb v (2 ^ j)
both_below j u v l lu lv =
    let m = 256 - 2 ^ j in
    let e : (8 - j) + j ≡ 8 = omega arith in
    let h : (n : ℕ) → n < 256 → eqb (bit_and n m) 0 ≡ ltb n (2 ^ j) = λ n i. rw e at (high_none (8 - j) j n (rw e i)) in
    ap (λ (x : ℕ). eqb x 0) (and_block 8 v m u m lu (omega (arith, pow_pos j)))
    ∙ both_none (bit_and v m) (bit_and u m)
    ∙ rw (h u lu, h v lv)
