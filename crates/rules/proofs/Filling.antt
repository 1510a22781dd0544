-- Arrays that are written place by place from the front.
--     Filled P old new p                                    below p each value of new is as P says, from p on new is as old
--     filled_none, filled_more                              nothing is written yet; one place more
--     over_front, over_rest, over_length, over_is           an array with other contents at its front, place by place
--     over_at                                               the same where each place has a value of its own
--     filled_over                                           what a filled array is, where P gives each value
--     zeros_at                                              a cleared array
--     beyond_none, beyond_set, beyond_then, beyond_wider    what stays past the part that is written: nothing is written, one place is, one writing
--                                                           after another, and past more
--     over_beyond                                           the same of an array with other contents at its front
--     cells_over, front_over                                an array with a number for each letter of each row at its front, or with what its first places are
--     padded_is, cleared_is, filled_is                      an array with contents at its front and zeros after them
use mathlib.Core.Path.{◌≡◌, refl, sym, ap, ◌∙◌}
use mathlib.Core.List.{List, [], ◌∷◌, ◌++◌, append-nil}
use Prim.Native.Nat.{ℕ, zero, suc, ◌+◌, ◌-◌, ◌*◌, ◌<◌, ◌≤◌}
use native.Mathlib.Nat.{not-suc-le-zero}
use native.Mathlib.Omega.{arith}
use lib.Dec.{eqb, ltb}
use lib.ListN.{length, get_or, take, drop, set, replicate, length-set, length-append, length-drop, length-replicate, get_or-append}
use lib.Seq.{get_or-set_same, get_or-set_other, get_or-append-add, get_or-drop, get_or-take, length-take-le, ext_get_or}
use borrow.Author.Tests.{eqb-true, eqb-false, ltb-true, ltb-false}
use Rattle.rules.specs.Arrays.{Beyond, Cleared}
use Rattle.rules.specs.Basics.{tabulate, joined}
use Rattle.rules.specs.Systems.{cell}
use Rattle.rules.specs.Says.{over, padded}
use Rattle.rules.proofs.Bools.{by}
use Rattle.rules.proofs.Arrays.{tabulate_length, tabulate_at, cell_split, cells_length, cells_at}

pub record Filled (P : ℕ → ℕ → Type 0) (old new : List ℕ) (p : ℕ) : Type 0 where
  pub size : length new ≡ length old
  pub done : (i : ℕ) → i < p → P i (get_or new i 0)
  pub rest : (i : ℕ) → p ≤ i → get_or new i 0 ≡ get_or old i 0

pub filled_none : (P : ℕ → ℕ → Type 0) (old : List ℕ) → Filled P old old 0
filled_none P old = record { size = refl; done = λ i l. absurd (not-suc-le-zero l); rest = λ i l. refl }

pub filled_more : (P : ℕ → ℕ → Type 0) (old new : List ℕ) (p v : ℕ) → p < length old → P p v → Filled P old new p → Filled P old (set new p v) (p + 1)
filled_more P old new p v l h f =
    record {
      size = length-set new p v ∙ f.size;
      done = λ i b. by (eqb i p) (λ e. rw (eqb-true i p e, get_or-set_same new p v 0 (rw f.size l)) h) (λ e. rw (get_or-set_other new p i v 0 (eqb-false i p e)) (f.done i (omega (arith, eqb-false i p e))));
      rest = λ i b. get_or-set_other new p i v 0 (λ e. omega arith) ∙ f.rest i (omega arith);
    }

-- ---- an array with other contents at its front
module _ (xs old : List ℕ) where
  pub over_front : (i : ℕ) → i < length xs → get_or (over xs old) i 0 ≡ get_or xs i 0
  over_front i l = get_or-append xs (drop (length xs) old) 0 i l

  pub over_rest : (i : ℕ) → length xs ≤ i → get_or (over xs old) i 0 ≡ get_or old i 0
  over_rest i l =
      let e : i ≡ length xs + (i - length xs) = omega arith in
      ap (λ (x : ℕ). get_or (over xs old) x 0) e
      ∙ get_or-append-add xs (drop (length xs) old) (i - length xs) 0
      ∙ get_or-drop (length xs) old (i - length xs) 0 ∙ ap (λ (x : ℕ). get_or old x 0) (sym e)

  pub over_length : length xs ≤ length old → length (over xs old) ≡ length old
  over_length l = simp (length-append, length-drop) (omega arith)

  pub over_is : (new : List ℕ) → length xs ≤ length old → length new ≡ length old → ((i : ℕ) → i < length xs → get_or new i 0 ≡ get_or xs i 0)
      → ((i : ℕ) → length xs ≤ i → get_or new i 0 ≡ get_or old i 0) → new ≡ over xs old
  over_is new l size front rest =
      ext_get_or 0 new (over xs old) (size ∙ sym (over_length l))
      (λ i b. by (ltb i (length xs)) (λ e. let h = ltb-true i (length xs) e in front i h ∙ sym (over_front i h)) (λ e. let h = ltb-false i (length xs) e in rest i h ∙ sym (over_rest i h)))

-- the same with a value for each place
module _ (g : ℕ → ℕ) (n : ℕ) (old : List ℕ) where
  at_front : (i : ℕ) → i < n → get_or (tabulate n 0 g) i 0 ≡ g i
  at_front i h = tabulate_at g n 0 i 0 h ∙ ap g (omega arith)

  pub over_at : (i : ℕ) → i < n → get_or (over (tabulate n 0 g) old) i 0 ≡ g i
  over_at i h = over_front (tabulate n 0 g) old i (omega (arith, tabulate_length g n 0)) ∙ at_front i h

  pub filled_over : (new : List ℕ) → n ≤ length old → Filled (λ i v. v ≡ g i) old new n → new ≡ over (tabulate n 0 g) old
  filled_over new l f =
      let size = tabulate_length g n 0 in
      over_is (tabulate n 0 g) old new (omega arith) f.size
      (λ i b. let h : i < n = omega arith in f.done i h ∙ sym (at_front i h))
      (λ i b. f.rest i (omega arith))

pub zeros_at : (n i : ℕ) → get_or {A = ℕ} (replicate n 0) i 0 ≡ 0
zeros_at zero i = refl
zeros_at (suc n) zero = refl
zeros_at (suc n) (suc i) = zeros_at n i

-- ---- what stays past the part that is written
pub beyond_none : (k : ℕ) (xs : List ℕ) → Beyond k xs xs
beyond_none k xs = record { size = refl; same = λ i l. refl }

pub beyond_set : (k : ℕ) (xs : List ℕ) (i v : ℕ) → i < k → Beyond k xs (set xs i v)
beyond_set k xs i v l = record { size = length-set xs i v; same = λ j b. get_or-set_other xs i j v 0 (λ e. omega arith) }

pub beyond_then : {k : ℕ} {xs ys zs : List ℕ} → Beyond k xs ys → Beyond k ys zs → Beyond k xs zs
beyond_then p q = record { size = q.size ∙ p.size; same = λ i l. q.same i l ∙ p.same i l }

pub beyond_wider : {k n : ℕ} {xs ys : List ℕ} → k ≤ n → Beyond k xs ys → Beyond n xs ys
beyond_wider l p = record { size = p.size; same = λ i b. p.same i (omega arith) }

-- an array with other contents at its front keeps the entries past them
pub over_beyond : {k : ℕ} {old mid : List ℕ} (xs : List ℕ) → mid ≡ over xs old → length xs ≤ k → k ≤ length old → Beyond k old mid
over_beyond {k} {old} {mid} xs e few room =
    rw e (record { size = over_length xs old (omega arith); same = λ i l. over_rest xs old i (omega arith) })

-- ---- arrays whose front is known
-- one number for each letter of each row
pub cells_over : {A : Type 0} {n m : ℕ} {old new : List ℕ} (rs : List A) (first : A) (h : A → ℕ → ℕ) → n ≡ length rs → 0 < m → n * m ≤ length old → Beyond (n * m) old new
    → ((i a : ℕ) → a < m → cell m i a < n * m → get_or new (cell m i a) 0 ≡ h (get_or rs i first) a) → new ≡ over (joined (λ r. tabulate m 0 (h r)) rs) old
cells_over {A} {n} {m} {old} {new} rs first h count some room rest front =
    over_is cells old new (omega (arith, size)) rest.size (λ p l. same p (omega (arith, size))) (λ p l. rest.same p (omega (arith, size)))
  where
    cells : List ℕ
    cells = joined (λ r. tabulate m 0 (h r)) rs

    size : length cells ≡ n * m
    size = cells_length h m rs ∙ rw (← count)

    same : (p : ℕ) → p < n * m → get_or new p 0 ≡ get_or cells p 0
    same p l =
        let s = cell_split m n p some l in
        rw (← append-nil cells, s.4)
        (front s.0 s.1 s.2 (rw s.4 at l) ∙ sym (cells_at h m rs [] s.0 s.1 0 first (rw (← count) s.3) s.2))

-- the first places
pub front_over : (r : ℕ) (old new rs : List ℕ) → r ≤ length old → take r new ≡ rs → Beyond r old new → new ≡ over rs old
front_over r old new rs room e rest =
    over_is rs old new (omega (arith, size)) rest.size (λ i l. rw (← e) (sym (get_or-take r new i 0 (omega (arith, size))))) (λ i l. rest.same i (omega (arith, size)))
  where
    size : length rs ≡ r
    size = ap length (sym e) ∙ length-take-le r new (omega (arith, rest.size))

-- ---- arrays that are cleared from one place on
zeros_behind : (xs : List ℕ) (j i : ℕ) → length xs ≤ i → get_or (xs ++ replicate j 0) i 0 ≡ 0
zeros_behind [] j i l = zeros_at j i
zeros_behind (x ∷ xs) j zero l = absurd (omega arith)
zeros_behind (x ∷ xs) j (suc i) l = zeros_behind xs j i (omega arith)

-- an array with xs at its front, then zeros up to k, then what it held
pub padded_is : {n k : ℕ} {old mid new : List ℕ} (xs : List ℕ) → length xs ≡ n → n ≤ k → k ≤ length old → Beyond k old mid → Cleared n k mid new
    → ((i : ℕ) → i < n → get_or mid i 0 ≡ get_or xs i 0) → new ≡ padded k xs old
padded_is {n} {k} {old} {mid} {new} xs size few room rest clear front =
    over_is (xs ++ zeros) old new (omega (arith, all)) (clear.size ∙ rest.size) (λ i b. below i (omega (arith, all)))
    (λ i b. let l : k ≤ i = omega (arith, all) in clear.rest i l ∙ rest.same i l)
  where
    zeros : List ℕ
    zeros = replicate (k - length xs) 0

    all : length (xs ++ zeros) ≡ k
    all = simp (length-append, length-replicate) (omega arith)

    below : (i : ℕ) → i < k → get_or new i 0 ≡ get_or (xs ++ zeros) i 0
    below i b =
        by
        (ltb i n)
        (λ e. let l = ltb-true i n e in clear.front i l ∙ front i l ∙ sym (get_or-append xs zeros 0 i (omega arith)))
        (λ e. let l = ltb-false i n e in clear.zeros i l b ∙ sym (zeros_behind xs (k - length xs) i (omega arith)))

pub cleared_is : {n k : ℕ} {old mid new : List ℕ} → n ≡ 0 → k ≤ length old → Beyond k old mid → Cleared n k mid new → new ≡ padded k [] old
cleared_is z room rest clear = padded_is [] (sym z) (omega arith) room rest clear (λ i b. absurd (omega arith))

pub filled_is : {n k : ℕ} (old : List ℕ) {mid new : List ℕ} (xs : List ℕ) → length xs ≡ n → n ≤ k → k ≤ length old → mid ≡ over xs old → Cleared n k mid new → new ≡ padded k xs old
filled_is old xs size few room e clear =
    padded_is xs size few room (over_beyond xs e (omega arith) room) clear (λ i l. rw e (over_front xs old i (omega arith)))
