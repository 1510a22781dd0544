-- Records as codes: what a code keeps of an ordering, and a turn of each loop over the positions of a record.
--     AllPairs o                                        every element of o is the number of a pair that a place can hold
--     AllBelow o                                        every element of o is a number that a place can hold
--     packed_below                                      the code of at most n elements is below base ^ n
--     kept_below                                        the code of those elements past a position that pass a test
--     in_rear b v o                                     the code v after those elements of o that pass have gone into its last place, one after the other
--     rear_code, rear_below                             what that code is, from nothing, and that it stays small
--     packed_append                                     the code of two lists, one after the other
--     moved_joined, moved_small                         the code after a move, from the codes of its two parts, and its bound
--     places_length, places_at_lem, places_below        how many places are read, what they hold, and that it is below base
--     position_within                                   a position that is not refused is one of the record
--     no_pair_at, pair_shifted, pair_below              the pair at a position: none, as a shift finds it, and below base
--     places_packed, pairs_packed, packed_small         the code of an ordering holds it, and nothing else
--     moved_packed, priority_packed                     a move and a priority are the same for the places of that code
--     marked_shifted, marked_masked                     a pair is in a set, as a shift finds it, and as a mask with its bit alone
--     from_here, from_before                            the places from a position on, and from the one before it
--     kept_turn, rear_turn, decided_turn, digit_turn    a turn at one position
--     digit_below                                       a number with one digit more stays below the next power of ten
use mathlib.Core.Path.{◌≡◌, refl, sym, ap, ◌∙◌}
use mathlib.Core.Bool.{Bool, true, false, not, ◌&&◌, ◌||◌, false≢true}
use mathlib.Core.List.{List, [], ◌∷◌, ◌++◌, append-nil, append_assoc}
use Prim.Native.Nat.{ℕ, zero, suc, ◌+◌, ◌-◌, ◌*◌, ◌/◌, ◌%◌, ◌^◌, ◌≤◌, ◌<◌}
use native.Mathlib.Nat.{div-one, zero-div, div-eq_of_lt, div-div-eq-div-mul, add-mul-div_left, mod-eq_of_lt, mul-zero, mul-add, mul_assoc, pow-suc, pow-succ', one-le-pow, one-mul}
use native.Mathlib.Omega.{arith}
use lib.Bits.{bit_and}
use lib.Dec.{eqb, ltb}
use lib.ListN.{length, get_or, take, drop, replicate, length-append, length-drop, take-append-drop, get_or-eq_default}
use lib.Pow.{pow-add, shr-shr, pow_mono}
use lib.Seq.{drop-cons}
use borrow.Author.Tests.{eqb-true, eqb-false, eq-eqb, ne_eqb, ltb-true, ltb-false}
use Rattle.rules.specs.Basics.{pick, any, is_in, keep}
use Rattle.rules.specs.Records.{Marks, as_they_stood, moved, priority_with, priority_from, priority, decimal_from}
use Rattle.rules.proofs.Bools.{by, clash, or_cases, or_left, or_right, or_none}
use Rattle.rules.proofs.Bits.{bit_masked, one_shifted}
use Rattle.rules.proofs.Sets.{any_append, any_find}
use Rattle.rules.proofs.Appearance.{kept_length, keep_append, keep_free, keep_hold, others_all, moved_length}
use Rattle.rules.proofs.RabinTables.{stood_rearranges}
use Rattle.records.specs.Packed.{limit, base, is_pair, is_marked, packed, places_of, places, pairs_in}

abbrev pub AllPairs : List ℕ → Type 0
AllPairs o = (i : ℕ) → is_in i o ≡ true → (0 < i) × (i < base)

abbrev pub AllBelow : List ℕ → Type 0
AllBelow o = (i : ℕ) → is_in i o ≡ true → i < base

-- ---- parts of a list
first_in : (i : ℕ) (o : List ℕ) → is_in i (i ∷ o) ≡ true
first_in i o = or_left (eqb i i) (is_in i o) (eq-eqb i i refl)

kept_in : (b : ℕ → Bool) (i : ℕ) (o : List ℕ) → is_in i (keep b o) ≡ true → is_in i o ≡ true
kept_in b i o h = by (b i) (λ e. sym (keep_hold b i o e) ∙ h) (λ e. clash h (keep_free b i o e))

drop_below : (k : ℕ) (o : List ℕ) → AllBelow o → AllBelow (drop k o)
drop_below k o all i h =
    all i
    (ap (is_in i) (sym (take-append-drop k o)) ∙ any_append (λ y. eqb i y) (take k o) (drop k o) ∙ or_right (is_in i (take k o)) (is_in i (drop k o)) h)

moved_below : (b : ℕ → Bool) (o : List ℕ) → AllBelow o → AllBelow (moved as_they_stood b o)
moved_below b o all i h =
    let nots : List ℕ = keep (λ x. not (b x)) o in
    all i
    (or_cases (is_in i (keep b o)) (is_in i nots) (sym (any_append (λ y. eqb i y) (keep b o) nots) ∙ h) (kept_in b i o) (kept_in (λ x. not (b x)) i o))

-- ---- packed codes
pub packed_below : (o : List ℕ) (n : ℕ) → AllBelow o → length o ≤ n → packed o < base ^ n
packed_below [] n all l = one-le-pow n 8 (omega arith)
packed_below (i ∷ o) zero all l = absurd (omega arith)
packed_below (i ∷ o) (suc n) all l =
    rw (pow-suc 8 n)
    (omega (arith, all i (first_in i o), packed_below o n (λ j h. all j (or_right (eqb j i) (is_in j o) h)) (omega arith)))

-- past position p there are at most n pairs
pub kept_below : (b : ℕ → Bool) (o : List ℕ) (p n : ℕ) → length o ≤ p + n → AllBelow o → packed (keep b (drop p o)) < base ^ n
kept_below b o p n few all =
    packed_below (keep b (drop p o)) n (λ i h. drop_below p o all i (kept_in b i (drop p o) h)) (omega (arith, kept_length b (drop p o), length-drop p o))

pub packed_append : (o o' : List ℕ) → packed (o ++ o') ≡ packed o + base ^ length o * packed o'
packed_append [] o' = omega (arith, one-mul (packed o'))
packed_append (i ∷ o) o' =
    rw (pow-succ' 8 (length o), mul_assoc 8 (8 ^ length o) (packed o')) (omega (arith, packed_append o o'))

module _ (b : ℕ → Bool) (o : List ℕ) where
  pub moved_joined : (front rear : ℕ) → front ≡ packed (keep b o)
      → rear ≡ base ^ length (keep b o) * packed (keep (λ i. not (b i)) o) → front + rear ≡ packed (moved as_they_stood b o)
  moved_joined front rear e f = rw (e, f) (sym (packed_append (keep b o) (keep (λ i. not (b i)) o)))

  pub moved_small : (n : ℕ) → AllBelow o → length o ≤ n → packed (moved as_they_stood b o) < base ^ n
  moved_small n all l =
      packed_below (moved as_they_stood b o) n (moved_below b o all) (omega (arith, moved_length as_they_stood stood_rearranges b o))

-- ---- elements that go into the last of six places
abbrev pub in_rear : (ℕ → Bool) → ℕ → List ℕ → ℕ
in_rear b v [] = v
in_rear b v (i ∷ o) = in_rear b (pick (b i) (v / base + 32768 * i) v) o

module _ (b : ℕ → Bool) where
  rear_from : (o : List ℕ) (v e : ℕ) → length (keep b o) + e ≡ 6
      → in_rear b v o ≡ v / base ^ length (keep b o) + base ^ e * packed (keep b o)
  rear_from [] v e l = rw (div-one v, mul-zero (8 ^ e)) (omega arith)
  rear_from (i ∷ o) v e l =
      by
      (b i)
      (λ t. let h : suc (length (keep b o)) + e ≡ 6 = rw t at l in rw t (goes h (rear_from o (v / 8 + 32768 * i) (suc e) (omega arith))))
      (λ t. rw t (rear_from o v e (rw t at l)))
    where
      k : ℕ
      k = length (keep b o)

      w : ℕ
      w = packed (keep b o)

      -- the unit of the last place, by the places before it
      last : suc k + e ≡ 6 → 32768 ≡ 8 ^ k * 8 ^ e
      last h = let five : 5 ≡ k + e = omega arith in ap (λ (x : ℕ). 8 ^ x) five ∙ pow-add 8 k e

      nearer : suc k + e ≡ 6 → (v / 8 + 32768 * i) / 8 ^ k ≡ v / 8 ^ suc k + 8 ^ e * i
      nearer h =
          ap (λ (x : ℕ). (v / 8 + x * i) / 8 ^ k) (last h)
          ∙ rw (mul_assoc (8 ^ k) (8 ^ e) i) (add-mul-div_left (v / 8) (8 ^ e * i) (one-le-pow k 8 (omega arith)))
          ∙ ap (λ (x : ℕ). x + 8 ^ e * i) (div-div-eq-div-mul v 8 (8 ^ k) ∙ ap (λ (x : ℕ). v / x) (sym (pow-succ' 8 k)))

      goes : suc k + e ≡ 6 → in_rear b (v / 8 + 32768 * i) o ≡ (v / 8 + 32768 * i) / 8 ^ k + 8 ^ suc e * w
          → in_rear b (v / 8 + 32768 * i) o ≡ v / 8 ^ suc k + 8 ^ e * (i + 8 * w)
      goes h r = r ∙ rw (nearer h, pow-suc 8 e, mul_assoc (8 ^ e) 8 w, mul-add (8 ^ e) i (8 * w)) (omega arith)

pub rear_code : (b : ℕ → Bool) (o : List ℕ) → length o ≡ 6
    → in_rear (λ i. not (b i)) 0 o ≡ base ^ length (keep b o) * packed (keep (λ i. not (b i)) o)
rear_code b o six =
    let nots : List ℕ = keep (λ i. not (b i)) o in
    let all = moved_length as_they_stood stood_rearranges b o ∙ six in
    rear_from (λ i. not (b i)) o 0 (length (keep b o)) (omega (arith, length-append (keep b o) nots, all))
    ∙ rw (zero-div (8 ^ length nots)) (omega arith)

pub rear_below : (goes : Bool) (v i w : ℕ) → v < 262144 → i < base → w ≡ pick goes (v / base + 32768 * i) v → w < 262144
rear_below goes v i w l m e = by goes (λ t. omega (arith, rw t at e)) (λ t. omega (arith, rw t at e))

packed_padded : (o : List ℕ) (k : ℕ) → packed (o ++ replicate k 0) ≡ packed o
packed_padded [] zero = refl
packed_padded [] (suc k) = rw (packed_padded [] k)
packed_padded (i ∷ o) k = rw (packed_padded o k)

-- ---- places
pub places_length : (n w : ℕ) → length (places_of n w) ≡ n
places_length zero w = refl
places_length (suc n) w = ap suc (places_length n (w / base))

pub places_at_lem : (n w j : ℕ) → j < n → get_or (places_of n w) j 0 ≡ w / 2 ^ (3 * j) % base
places_at_lem zero w j l = absurd (omega arith)
places_at_lem (suc n) w zero l = rw (div-one w)
places_at_lem (suc n) w (suc j) l =
    let e : w / 8 / 2 ^ (3 * j) ≡ w / 2 ^ (3 * suc j) = shr-shr w 3 (3 * j) ∙ ap (λ (s : ℕ). w / 2 ^ s) (omega arith) in
    places_at_lem n (w / base) j (omega arith) ∙ ap (λ (x : ℕ). x % base) e

pub places_below : (n w : ℕ) → AllBelow (places_of n w)
places_below zero w i h = absurd (false≢true h)
places_below (suc n) w i h =
    or_cases (eqb i (w % base)) (is_in i (places_of n (w / base))) h (λ e. omega (arith, eqb-true i (w % base) e)) (places_below n (w / base) i)

pub position_within : (n p : ℕ) → eqb p 0 || ltb n p ≡ false → (1 ≤ p) × (p ≤ n)
position_within n p h =
    let r = or_none (eqb p 0) (ltb n p) h in
    let d = eqb-false p 0 r.0 in
    (omega arith, ltb-false n p r.1)

-- the pair at a position, as a shift finds it
module _ (n w p : ℕ) where
  pub no_pair_at : eqb p 0 || ltb n p ≡ true → get_or (0 ∷ places_of n w) p 0 ≡ 0
  no_pair_at h =
      or_cases (eqb p 0) (ltb n p) h (λ e. rw (eqb-true p 0 e))
      (λ e. get_or-eq_default (0 ∷ places_of n w) 0 {n = p} (omega (arith, places_length n w, ltb-true n p e)))

  pub pair_shifted : eqb p 0 || ltb n p ≡ false → w / 2 ^ (3 * (p - 1)) % base ≡ get_or (0 ∷ places_of n w) p 0
  pair_shifted h =
      let r = position_within n p h in
      let e : p ≡ suc (p - 1) = omega arith in
      sym (places_at_lem n w (p - 1) (omega arith)) ∙ ap (λ (j : ℕ). get_or (0 ∷ places_of n w) j 0) (sym e)

  pub pair_below : get_or (0 ∷ places_of n w) p 0 < base
  pair_below = by (eqb p 0 || ltb n p) (λ e. omega (arith, no_pair_at e)) (λ e. omega (arith, pair_shifted e))

places_none : (n : ℕ) → places_of n 0 ≡ replicate n 0
places_none zero = refl
places_none (suc n) = rw (places_none n)

places_padded : (o : List ℕ) (n k : ℕ) → length o + k ≡ n → AllBelow o → places_of n (packed o) ≡ o ++ replicate k 0
places_padded [] n k e all = let f : n ≡ k = omega arith in rw f (places_none k)
places_padded (i ∷ o) zero k e all = absurd (omega arith)
places_padded (i ∷ o) (suc n) k e all =
    let l = all i (first_in i o) in
    let low : (i + 8 * packed o) % 8 ≡ i = omega arith in
    let high : (i + 8 * packed o) / 8 ≡ packed o = omega arith in
    rw (low, high, places_padded o n k (omega arith) (λ j h. all j (or_right (eqb j i) (is_in j o) h)))

-- ---- places that are not used
zeros_fail : (b : ℕ → Bool) (k : ℕ) → b 0 ≡ false → any b (replicate k 0) ≡ false
zeros_fail b zero h = refl
zeros_fail b (suc k) h = rw (h, zeros_fail b k h)

none_kept : (b : ℕ → Bool) (o : List ℕ) → any b o ≡ false → keep b o ≡ []
none_kept b [] h = refl
none_kept b (i ∷ o) h = let r = or_none (b i) (any b o) h in rw (r.0, none_kept b o r.1)

module _ (b : ℕ → Bool) (o : List ℕ) (k : ℕ) (fails : b 0 ≡ false) where
  abbrev zeros : List ℕ
  zeros = replicate k 0

  kept_padded : keep b (o ++ zeros) ≡ keep b o
  kept_padded = keep_append b o zeros ∙ rw (none_kept b zeros (zeros_fail b k fails)) (append-nil (keep b o))

  others_padded : keep (λ i. not (b i)) (o ++ zeros) ≡ keep (λ i. not (b i)) o ++ zeros
  others_padded = keep_append (λ i. not (b i)) o zeros ∙ rw (others_all b zeros (zeros_fail b k fails))

  moved_padded : moved as_they_stood b (o ++ zeros) ≡ moved as_they_stood b o ++ zeros
  moved_padded = rw (kept_padded, others_padded) (sym (append_assoc (keep b o) (keep (λ i. not (b i)) o) zeros))

priority_padded : (m : Marks) (o : List ℕ) (k p best : ℕ) → m.prohibited 0 ≡ false → m.required 0 ≡ false
    → priority_from p m (o ++ replicate k 0) best ≡ priority_from p m o best
priority_padded m [] zero p best f g = refl
priority_padded m [] (suc k) p best f g =
    let e : priority_with p m 0 best ≡ best = rw (f, g) in
    ap (priority_from (suc p) m (replicate k 0)) e ∙ priority_padded m [] k (suc p) best f g
priority_padded m (i ∷ o) k p best f g = priority_padded m o k (suc p) (priority_with p m i best) f g

module _ (o : List ℕ) (few : length o ≤ limit) (pairs : AllPairs o) where
  pub places_packed : places (packed o) ≡ o ++ replicate (limit - length o) 0
  places_packed = places_padded o limit (limit - length o) (omega arith) (λ i h. (pairs i h).1)

  none_zero : any (λ i. eqb i 0) o ≡ false
  none_zero =
      by
      (any (λ i. eqb i 0) o)
      (λ h. let r = any_find (λ i. eqb i 0) o h in absurd (omega (arith, eqb-true r.0 0 r.2, (pairs r.0 r.1).0)))
      (λ h. h)

  pub pairs_packed : pairs_in (packed o) ≡ o
  pairs_packed = ap (keep is_pair) places_packed ∙ kept_padded is_pair o (limit - length o) refl ∙ others_all (λ i. eqb i 0) o none_zero

  pub packed_small : packed o < base ^ limit
  packed_small = packed_below o limit (λ i h. (pairs i h).1) few

  pub moved_packed : (b : ℕ → Bool) → b 0 ≡ false → packed (moved as_they_stood b (places (packed o))) ≡ packed (moved as_they_stood b o)
  moved_packed b h =
      ap (λ (z : List ℕ). packed (moved as_they_stood b z)) places_packed ∙ ap packed (moved_padded b o (limit - length o) h)
      ∙ packed_padded (moved as_they_stood b o) (limit - length o)

  pub priority_packed : (m : Marks) → m.prohibited 0 ≡ false → m.required 0 ≡ false → priority m (places (packed o)) ≡ priority m o
  priority_packed m f g = ap (priority m) places_packed ∙ priority_padded m o (limit - length o) 1 1 f g

-- ---- sets of pairs
-- the bits of a byte, moved up by one so that pair 0 has one too
pub marked_shifted : (set i : ℕ) → set < 256 → ltb i 16 && eqb (2 * set / 2 ^ (i % 16) % 2) 1 ≡ is_marked set i
marked_shifted set zero l = let e : 2 * set / 1 % 2 ≡ 0 = rw (div-one (2 * set)) (omega arith) in rw e
marked_shifted set (suc j) l =
    by
    (ltb (suc j) 16)
    (λ e. let small = ltb-true (suc j) 16 e in rw (e, mod-eq_of_lt small, shifted, pair, lower))
    (λ e. let large = ltb-false (suc j) 16 e in let over : set < 2 ^ j = omega (arith, pow_mono {i = 8} {j = j} (omega arith)) in rw (e, pair, lower, div-eq_of_lt over))
  where
    pair : eqb (suc j) 0 ≡ false
    pair = ne_eqb (suc j) 0 (λ e. omega arith)

    lower : suc j - 1 ≡ j
    lower = omega arith

    shifted : 2 * set / 2 ^ suc j ≡ set / 2 ^ j
    shifted =
        ap (λ (s : ℕ). 2 * set / 2 ^ s) (omega arith) ∙ sym (shr-shr (2 * set) 1 j) ∙ ap (λ (x : ℕ). x / 2 ^ j) (omega arith)

pub marked_masked : (set i : ℕ) → set < 256
    → ltb i 16 && not (eqb (bit_and (2 * set) (1 * 2 ^ (i % 16) % 2 ^ 32)) 0) ≡ is_marked set i
marked_masked set i l = rw (one_shifted 32 (i % 16) (omega arith), bit_masked (i % 16) (2 * set)) (marked_shifted set i l)

-- ---- a turn at position p, whose pair is i
module _ (o : List ℕ) (p i : ℕ) (within : p ≤ length o) (here : i ≡ get_or (0 ∷ o) p 0) where
  pub from_here : drop p (0 ∷ o) ≡ i ∷ drop p o
  from_here = rw here (drop-cons (0 ∷ o) p 0 (omega arith))

  pub from_before : (k : ℕ) → suc k ≡ p → drop k o ≡ i ∷ drop p o
  from_before k before = ap (λ (j : ℕ). drop j (0 ∷ o)) before ∙ from_here

  -- backwards: the code of those that pass past position p, and the code with the pair in front
  pub kept_turn : (b : ℕ → Bool) (goes : Bool) → goes ≡ b i → (v w k : ℕ) → suc k ≡ p
      → v ≡ packed (keep b (drop p o)) → w ≡ pick goes (i + base * v) v → w ≡ packed (keep b (drop k o))
  kept_turn b goes tested v w k before e f = f ∙ rw (from_before k before, e, tested) (by (b i) (λ t. rw t) (λ t. rw t))

  -- forwards: what is still to be found past position p, and from p on
  pub decided_turn : (m : Marks) (odd even : Bool) → odd ≡ m.prohibited i → even ≡ m.required i
      → (v w : ℕ) → w ≡ pick odd (suc (2 * p)) (pick even (2 * p) v) → priority_from (suc p) m (drop p o) w ≡ priority_from p m (drop p (0 ∷ o)) v
  decided_turn m odd even o_is e-is v w f = let decided : w ≡ priority_with p m i v = f ∙ rw (o_is, e-is) in ap (priority_from (suc p) m (drop p o)) decided ∙ rw from_here

  pub rear_turn : (b : ℕ → Bool) (goes : Bool) → goes ≡ b i → (v w : ℕ) → w ≡ pick goes (v / base + 32768 * i) v
      → in_rear b w (drop p o) ≡ in_rear b v (drop p (0 ∷ o))
  rear_turn b goes tested v w f = rw (from_here, f, tested)

  pub digit_turn : (v w : ℕ) → w ≡ pick (is_pair i) (10 * v + i) v
      → decimal_from w (keep is_pair (drop p o)) ≡ decimal_from v (keep is_pair (drop p (0 ∷ o)))
  digit_turn v w f = rw (from_here, f) (by (is_pair i) (λ t. rw t) (λ t. rw t))

pub digit_below : (p i v w : ℕ) → i < base → 10 * suc v ≤ 10 ^ p → w ≡ pick (is_pair i) (10 * v + i) v → 10 * suc w ≤ 10 ^ suc p
digit_below p i v w l h f =
    rw (pow-suc 10 p) (by (is_pair i) (λ t. omega (arith, rw t at f)) (λ t. omega (arith, rw t at f)))
