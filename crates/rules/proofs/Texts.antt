-- Texts: numbers in decimal, texts one after the other, and writing them into an array.
--     numeral_one, numeral_more    one digit; the digits before the last, then the last
--     numeral_length               a number below a power of ten has no more digits than the power says
--     each_split, each_more        some texts and those after them; one text more
--     each_same                    texts that are equal one by one
--     each_length                  texts of a bounded length
--     put_append                   a text in two parts is written part by part
--     put_front                    a text that fits is the front of the array, whole
use mathlib.Core.Path.{◌≡◌, refl, ◌∙◌}
use mathlib.Core.List.{List, [], ◌∷◌, ◌++◌, append_assoc, append-nil}
use Prim.Native.Nat.{ℕ, zero, suc, ◌+◌, ◌*◌, ◌/◌, ◌%◌, ◌^◌, ◌≤◌, ◌<◌}
use native.Mathlib.Nat.{suc-mul}
use native.Mathlib.Omega.{arith}
use lib.Dec.{ltb}
use lib.ListN.{length, take, drop, set, length-append}
use lib.Seq.{sets-eq, take_at}
use borrow.Author.Tests.{ltb-false, lt-ltb, le-ltb}
use Rattle.rules.specs.Texts.{digit, numeral_within, numeral, each, put}
use Rattle.rules.proofs.Bools.{by}
use Rattle.rules.proofs.Arrays.{tabulate_same}

-- ---- numbers in decimal
-- any bound that is no less than the number gives the same digits
within_same : (f g n : ℕ) → n ≤ f → n ≤ g → numeral_within f n ≡ numeral_within g n
within_same zero zero n l h = refl
within_same zero (suc g) n l h = rw (lt-ltb n 10 (omega arith))
within_same (suc f) zero n l h = rw (lt-ltb n 10 (omega arith))
within_same (suc f) (suc g) n l h =
    by (ltb n 10) (λ e. rw e) (λ e. rw (e, within_same f g (n / 10) (omega (arith, ltb-false n 10 e)) (omega (arith, ltb-false n 10 e))))

pub numeral_one : (n : ℕ) → n < 10 → numeral n ≡ digit n ∷ []
unfolding numeral
numeral_one zero l = refl
numeral_one (suc n) l = rw (lt-ltb (suc n) 10 l)

pub numeral_more : (n : ℕ) → 10 ≤ n → numeral n ≡ numeral (n / 10) ++ (digit (n % 10) ∷ [])
unfolding numeral
numeral_more zero l = absurd (omega arith)
numeral_more (suc n) l = rw (le-ltb (suc n) 10 l, within_same n (suc n / 10) (suc n / 10) (omega arith) (omega arith))

within_length : (f k n : ℕ) → n < 10 ^ suc k → length (numeral_within f n) ≤ suc k
within_length zero k n l = omega arith
within_length (suc f) zero n l = rw (lt-ltb n 10 (omega arith)) (omega arith)
within_length (suc f) (suc k) n l =
    by (ltb n 10) (λ e. rw e (omega arith)) (λ e. rw e (simp length-append (omega (arith, within_length f k (n / 10) (omega arith)))))

pub numeral_length : (k n : ℕ) → n < 10 ^ suc k → length (numeral n) ≤ suc k
unfolding numeral
numeral_length k n l = within_length n k n l

-- ---- texts one after the other
module _ (g : ℕ → List ℕ) where
  pub each_split : (n k i : ℕ) → each (n + k) i g ≡ each n i g ++ each k (i + n) g
  unfolding each
  each_split zero k i =
      let e : 0 + k ≡ k = omega arith in
      let z : i + 0 ≡ i = omega arith in
      rw (e, z)
  each_split (suc n) k i =
      let e : suc n + k ≡ suc (n + k) = omega arith in
      let z : i + suc n ≡ suc i + n = omega arith in
      rw (e, z, append_assoc, each_split n k (suc i))

  pub each_more : (i : ℕ) → each (i + 1) 0 g ≡ each i 0 g ++ g i
  unfolding each
  each_more i = let z : 0 + i ≡ i = omega arith in each_split i 1 0 ∙ rw (z, append-nil)

  pub each_length : (b n i : ℕ) → ((a : ℕ) → a < i + n → length (g a) ≤ b) → length (each n i g) ≤ n * b
  unfolding each
  each_length b zero i h = omega arith
  each_length b (suc n) i h =
      rw suc-mul (simp length-append (omega (arith, h i (omega arith), each_length b n (suc i) (λ a l. h a (omega arith)))))

pub each_same : (g h : ℕ → List ℕ) (n : ℕ) → ((a : ℕ) → a < n → g a ≡ h a) → each n 0 g ≡ each n 0 h
unfolding each
each_same g h n f = rw (tabulate_same g h n 0 (λ a l u. f a (omega arith)))

-- ---- writing
pub put_append : (at : ℕ) (s t o : List ℕ) → put at (s ++ t) o ≡ put (at + length s) t (put at s o)
put_append at [] t o = let e : at + 0 ≡ at = omega arith in rw e
put_append at (x ∷ s) t o = let e : at + suc (length s) ≡ suc at + length s = omega arith in rw e (put_append (suc at) s t (set o at x))

pub put_front : (t o : List ℕ) → length t ≤ length o → take (length t) (put 0 t o) ≡ t
put_front t o l = rw (sets-eq t o 0 (omega arith)) (take_at t (drop (0 + length t) o) (length t) refl)
