-- A record's code after a move, as the list of its pairs.
--     fewer_in       what is in a list is in one that holds no less of it
--     range_in       the numbers i, i + 1 .. hold each of them
--     in_set         a pair is in the list of a set exactly if its bit is set
--     moved_pairs    the pairs of a set move to the front of the pairs of a code that has no gap
use mathlib.Core.Path.{◌≡◌, refl, sym, ap, ◌∙◌}
use mathlib.Core.Bool.{true}
use mathlib.Core.List.{List}
use Prim.Native.Nat.{ℕ, zero, suc, ◌+◌, ◌≤◌, ◌<◌}
use native.Mathlib.Omega.{arith}
use lib.Dec.{eqb}
use lib.ListN.{length}
use borrow.Author.Tests.{eqb-false, not-true}
use Rattle.rules.specs.Basics.{is_in, occurs, tabulate}
use Rattle.rules.specs.Records.{as_they_stood, moved}
use Rattle.rules.proofs.Bools.{by, clash}
use Rattle.rules.proofs.Appearance.{kept_length, kept_occurs, keep_free, keep_hold, occurs_none, none_occurs, moved_length, moved_occurs, moved_same}
use Rattle.rules.proofs.RabinTables.{stood_rearranges}
use Rattle.records.specs.Packed.{limit, base, is_pair, is_marked, packed, places, pairs_in}
use Rattle.records.proofs.Packing.{AllPairs, places_length, places_below, pairs_packed, moved_packed}
use Rattle.cards.specs.Marked.{pairs_of}

fewer_in : (i : ℕ) (xs ys : List ℕ) → occurs i xs ≤ occurs i ys → is_in i xs ≡ true → is_in i ys ≡ true
fewer_in i xs ys l h = by (is_in i ys) (λ e. e) (λ e. clash h (occurs_none i xs (omega (arith, none_occurs i ys e))))

range_in : (n i x : ℕ) → i ≤ x → x < i + n → is_in x (tabulate n i (λ j. j)) ≡ true
range_in zero i x l h = absurd (omega arith)
range_in (suc n) i x l h = by (eqb x i) (λ e. rw e) (λ e. rw e (range_in n (suc i) x (omega (arith, eqb-false x i e)) (omega arith)))

in_set : (set i : ℕ) → 0 < i → i < base → is_in i (pairs_of set) ≡ is_marked set i
in_set set i l h =
    let range = tabulate 7 1 (λ j. j) in
    by
    (is_marked set i)
    (λ e. keep_hold (is_marked set) i range e ∙ range_in 7 1 i (omega arith) (omega arith) ∙ sym e)
    (λ e. keep_free (is_marked set) i range e ∙ sym e)

module _ (w : ℕ) where
  few : length (pairs_in w) ≤ limit
  few = omega (arith, kept_length is_pair (places w), places_length limit w)

  all_pairs : AllPairs (pairs_in w)
  all_pairs i h =
      by
      (is_pair i)
      (λ e. (omega (arith, eqb-false i 0 (not-true (eqb i 0) e)), places_below limit w i (fewer_in i (pairs_in w) (places w) (omega (arith, kept_occurs is_pair i (places w))) h)))
      (λ e. clash h (keep_free is_pair i (places w) e))

  pub moved_pairs : (set : ℕ) → w ≡ packed (pairs_in w)
      → pairs_in (packed (moved as_they_stood (is_marked set) (places w))) ≡ moved as_they_stood (λ i. is_in i (pairs_of set)) (pairs_in w)
  moved_pairs set is =
      let o = pairs_in w in
      let b = is_marked set in
      let after = moved as_they_stood b o in
      let word : packed (moved as_they_stood b (places w)) ≡ packed after = ap (λ (v : ℕ). packed (moved as_they_stood b (places v))) is ∙ moved_packed o few all_pairs b refl in
      let same = moved_same as_they_stood b (λ i. is_in i (pairs_of set)) o (λ i h. sym (in_set set i (all_pairs i h).0 (all_pairs i h).1)) in
      ap pairs_in word ∙ pairs_packed after (omega (arith, few, moved_length as_they_stood stood_rearranges b o)) (λ i h. all_pairs i (fewer_in i after o (omega (arith, moved_occurs as_they_stood stood_rearranges b i o)) h)) ∙ same
