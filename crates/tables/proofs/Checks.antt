-- The checks of sizes and cells.
--     bad_sizes_lem    the sizes within their ranges, as tests
--     mask_tested      both sets of marks of a cell as one mask
--     marks_turn       what is left to check after one cell more
--     marks_end        no cell is left
use mathlib.Core.Path.{◌≡◌, refl, sym, ap, ◌∙◌}
use mathlib.Core.Bool.{Bool, true, false, not, ◌&&◌, ◌||◌, or_assoc, or-false}
use mathlib.Core.List.{List}
use Prim.Native.Nat.{ℕ, zero, suc, ◌+◌, ◌-◌, ◌*◌, ◌^◌, ◌<◌, ◌≤◌}
use native.Mathlib.Nat.{add-zero}
use native.Mathlib.Numerals.{add-one}
use native.Mathlib.Omega.{arith}
use lib.Dec.{eqb, ltb, leb, leb-zero, leb-suc-suc, eqb-suc-zero}
use lib.Bits.{bit_and}
use lib.ListN.{length, get_or, drop, drop_of_length-le}
use lib.Pow.{pow_pos}
use lib.Seq.{drop-cons, get_or-drop, drop-drop}
use borrow.Author.Tests.{leb-true, leb-false, le-ltb, lt-ltb}
use Rattle.rules.specs.Basics.{pick}
use Rattle.rules.specs.Limits.{max_states, max_letters, max_pairs, no_state}
use Rattle.rules.specs.Tables.{bad_sizes, bad_mark, bad_marks}
use Rattle.rules.proofs.Bits.{both_below}
use Rattle.rules.proofs.Bools.{by, or_right}

-- a size at the ends of its range
at_most : (x y : ℕ) → leb x y ≡ not (ltb y x)
at_most x y = by (leb x y) (λ e. rw (e, le-ltb y x (leb-true x y e))) (λ e. rw (e, lt-ltb y x (leb-false x y e)))

at_least_one : (x : ℕ) → leb 1 x ≡ not (eqb x 0)
at_least_one zero = refl
at_least_one (suc x) = rw (leb-suc-suc 0 x, leb-zero x, eqb-suc-zero x)

none_of : (a b c d e : Bool) → not (((not a && not b) && (not c && not d)) && not e) ≡ a || (b || (c || (d || e)))
none_of true b c d e = refl
none_of false true c d e = refl
none_of false false true d e = refl
none_of false false false true e = refl
none_of false false false false true = refl
none_of false false false false false = refl

pub bad_sizes_lem : (n m k : ℕ)
    → not (((leb 1 n && leb n max_states) && (leb 1 m && leb m max_letters)) && leb k max_pairs) ≡ bad_sizes n m k
bad_sizes_lem n m k =
    rw (at_least_one n, at_most n max_states, at_least_one m, at_most m max_letters, at_most k max_pairs)
    (none_of (eqb n 0) (ltb max_states n) (eqb m 0) (ltb max_letters m) (ltb max_pairs k))

-- both sets of marks as one mask, by the bits that it must not have
mask_bare : (k u v : ℕ) → not (ltb u 1 && ltb v 1) ≡ not (ltb u (2 ^ k) && ltb v (2 ^ k)) || not (eqb u 0 && eqb v 0)
mask_bare k zero zero = rw (lt-ltb 0 (2 ^ k) (pow_pos k))
mask_bare k (suc u) v =
    rw (le-ltb (suc u) 1 (omega arith), eqb-suc-zero u) (sym (or_right (not (ltb (suc u) (2 ^ k) && ltb v (2 ^ k))) true refl))
mask_bare k zero (suc v) =
    rw (le-ltb (suc v) 1 (omega arith), eqb-suc-zero v) (sym (or_right (not (ltb 0 (2 ^ k) && ltb (suc v) (2 ^ k))) true refl))

pub mask_tested : (k x u v : ℕ) → k ≤ max_pairs → u < 256 → v < 256
    → not (eqb (bit_and (v * 256 + u) (pick (eqb x no_state) 65535 ((256 - 2 ^ k) * 256 + (256 - 2 ^ k)))) 0) ≡ bad_mark k x u v
mask_tested k x u v l lu lv =
    by
    (eqb x no_state)
    (λ e. rw e (ap not (both_below 0 u v (omega arith) lu lv) ∙ mask_bare k u v))
    (λ e. rw e (ap not (both_below k u v (omega arith) lu lv) ∙ sym (or-false (not (ltb u (2 ^ k) && ltb v (2 ^ k))))))

-- every cell: what was found so far, or is still to be found
pub marks_turn : (k : ℕ) (bad : Bool) (ts ms : List ℕ) (c : ℕ) → c < length ts
    → (bad || bad_mark k (get_or ts c 0) (get_or ms (2 * c) 0) (get_or ms (2 * c + 1) 0)) || bad_marks k (drop (c + 1) ts) (drop (2 * (c + 1)) ms)
    ≡ bad || bad_marks k (drop c ts) (drop (2 * c) ms)
marks_turn k bad ts ms c l =
    let e : 2 * (c + 1) ≡ 2 * c + 2 = omega arith in
    rw (e, add-one c, drop-cons ts c 0 l, get_or-drop (2 * c) ms 0 0, get_or-drop (2 * c) ms 1 0, drop-drop 2 (2 * c) ms, add-zero (2 * c))
    (or_assoc bad _ _)

pub marks_end : (k : ℕ) (bad : Bool) (ts ms : List ℕ) (c : ℕ) → length ts ≤ c
    → bad || bad_marks k (drop c ts) (drop (2 * c) ms) ≡ bad_marks k ts ms → bad ≡ bad_marks k ts ms
marks_end k bad ts ms c l h = sym (or-false bad) ∙ (rw (drop_of_length-le ts l) at h)
