-- Rabin tables with index appearance records are a lawful construction.
--     rising_ordering      the rising pairs are an ordering of the pairs that count
--     ordering_together    the pairs that count are the same in a whole component
--     moved_ordering       a move keeps an ordering
--     ordering_length      an ordering has no more pairs than the table
--     reached_ordering     every reachable record is an ordering of the pairs that count in its component, for any number of pairs
--     reached_state        every reachable row stands at a state
--     pair_counts          a pair that a closed walk satisfies counts where the walk runs
--     table_same           sameness of a table's rows is equality
--     table_rows_lem       the rows of a table's translation are exactly the reachable ones, each once, in order of discovery
--     rabin_lawful         all that a construction must show
use mathlib.Core.Path.{◌≡◌, refl, sym, ap, ap₂, ◌∙◌, fun_ext}
use mathlib.Core.Bool.{Bool, true, not, ◌&&◌, false≢true, and-false}
use mathlib.Core.List.{List, [], ◌∷◌, map}
use Prim.Native.Nat.{ℕ, zero, suc, ◌+◌, ◌-◌, ◌≤◌, ◌<◌, max}
use native.Mathlib.Omega.{arith}
use lib.Dec.{eqb, leb}
use lib.ListN.{length}
use borrow.Author.Tests.{eqb-true, eqb-false, eq-eqb, ne_eqb, leb-true, leb-false, le-leb, lt-leb}
use Rattle.rules.specs.Basics.{pick, any, SameSet, any_below, is_in, occurs, keep, tabulate, is_even}
use Rattle.rules.specs.Systems.{System, together, is_inside, Path}
use Rattle.rules.specs.Runs.{Taken, pass_from}
use Rattle.rules.specs.Records.{Marks, Rearranges, as_they_stood, moved, priority, moved_along, largest_priority, satisfied, same_order}
use Rattle.rules.specs.Rows.{Row, Reached, RowsAre, SameIsEqual}
use Rattle.rules.specs.Constructions.{memory_after, largest_along, Lawful}
use Rattle.rules.specs.Tables.{Table, prohibits, requires, system_of, counts_by, counts, rising, is_counted, IsOrdering, marks_of, record_keeper, table_plan}
use Rattle.rules.specs.Judges.{satisfies_pair, satisfies}
use Rattle.rules.proofs.Bools.{by, and_both, and_parts, bool_ext}
use Rattle.rules.proofs.Sets.{any_map, any_find, any_intro, below_find, below_intro}
use Rattle.rules.proofs.Reach.{inside_parts, within_view, within_same}
use Rattle.rules.proofs.Walks.{closed_within}
use Rattle.rules.proofs.Appearance.{kept_occurs, keep_free, occurs_none, none_occurs, once_length, moved_occurs, closed_walk}
use Rattle.rules.proofs.Exploration.{rows_view}
use Rattle.rules.proofs.Steps.{plan_same}
use Rattle.rules.proofs.Demand3.{reached_fits}

-- ---- sameness of records is equality
same_order_equal : (o o' : List ℕ) → same_order o o' ≡ true → o ≡ o'
same_order_equal [] [] h = refl
same_order_equal [] (j ∷ o') h = absurd (false≢true h)
same_order_equal (i ∷ o) [] h = absurd (false≢true h)
same_order_equal (i ∷ o) (j ∷ o') h =
    let r = and_parts (eqb i j) (same_order o o') h in
    ap₂ (λ (x : ℕ) (z : List ℕ). x ∷ z) (eqb-true i j r.0) (same_order_equal o o' r.1)

same_order_refl : (o : List ℕ) → same_order o o ≡ true
same_order_refl [] = refl
same_order_refl (i ∷ o) = and_both (eqb i i) (same_order o o) (eq-eqb i i refl) (same_order_refl o)

pub stood_rearranges : Rearranges as_they_stood
stood_rearranges = record { same_length = λ o. refl; same_occurs = λ i o. refl }

-- ---- orderings
-- the numbers i, i + 1 .., n of them: each once, and nothing else
range_below : (n i x : ℕ) → x < i → occurs x (tabulate n i (λ j. j)) ≡ 0
range_below zero i x h = refl
range_below (suc n) i x h = rw (ne_eqb x i (λ e. omega arith)) (range_below n (suc i) x (omega arith))

range_above : (n i x : ℕ) → i + n ≤ x → occurs x (tabulate n i (λ j. j)) ≡ 0
range_above zero i x h = refl
range_above (suc n) i x h = rw (ne_eqb x i (λ e. omega arith)) (range_above n (suc i) x (omega arith))

range_once : (n i x : ℕ) → i ≤ x → x < i + n → occurs x (tabulate n i (λ j. j)) ≡ 1
range_once zero i x l h = absurd (omega arith)
range_once (suc n) i x l h =
    by
    (eqb x i)
    (λ e. rw e (ap suc (range_below n (suc i) x (omega (arith, eqb-true x i e)))))
    (λ e. rw e (range_once n (suc i) x (omega (arith, eqb-false x i e)) (omega arith)))

kept_once : (b : ℕ → Bool) (x : ℕ) (o : List ℕ) → b x ≡ true → occurs x (keep b o) ≡ occurs x o
kept_once b x o h = omega (arith, kept_occurs b x o, none_occurs x (keep (λ i. not (b i)) o) (keep_free (λ i. not (b i)) x o (rw h)))

module _ (t : Table) where
  abbrev s : System
  s = system_of t

  pub rising_ordering : (q : ℕ) → IsOrdering t q (rising t q)
  rising_ordering q i =
      by
      (counts t q i)
      counted
      (λ e. none_occurs i (rising t q) (keep_free (counts t q) i (tabulate t.pairs 1 (λ j. j)) e) ∙ rw (e, and-false (leb i t.pairs), and-false (leb 1 i)))
    where
      counted : counts t q i ≡ true → occurs i (rising t q) ≡ pick (is_counted t q i) 1 0
      counted e =
          kept_once (counts t q) i (tabulate t.pairs 1 (λ j. j)) e
          ∙ by
          (leb 1 i)
          (λ f. by (leb i t.pairs) (λ h. rw (e, f, h) (range_once t.pairs 1 i (leb-true 1 i f) (omega (arith, leb-true i t.pairs h)))) (λ h. rw (f, h) (range_above t.pairs 1 i (omega (arith, leb-false i t.pairs h)))))
          (λ f. rw f (range_below t.pairs 1 i (leb-false 1 i f)))

  pub ordering_together : (p q : ℕ) (o : List ℕ) → together s p q ≡ true → IsOrdering t p o → IsOrdering t q o
  ordering_together p q o h f i =
      f i ∙ ap (λ (b : Bool). pick (leb 1 i && (leb i t.pairs && b)) 1 0) (within_same s (counts_by t i) p q h)

  pub moved_ordering : (q a : ℕ) (o : List ℕ) → is_inside s q a ≡ true → IsOrdering t q o
      → IsOrdering t (s.go q a) (moved as_they_stood (prohibits t q a) o)
  moved_ordering q a o h f =
      ordering_together q (s.go q a) (moved as_they_stood (prohibits t q a) o) (inside_parts s q a h).1
      (λ i. moved_occurs as_they_stood stood_rearranges (prohibits t q a) i o ∙ f i)

  pub counted_parts : (q i : ℕ) → is_counted t q i ≡ true → (1 ≤ i) × (i ≤ t.pairs) × (counts t q i ≡ true)
  counted_parts q i h =
      let a = and_parts (leb 1 i) (leb i t.pairs && counts t q i) h in
      let b = and_parts (leb i t.pairs) (counts t q i) a.1 in
      (leb-true 1 i a.0, leb-true i t.pairs b.0, b.1)

  counted_intro : (q i : ℕ) → 1 ≤ i → i ≤ t.pairs → counts t q i ≡ true → is_counted t q i ≡ true
  counted_intro q i l h c = rw (le-leb 1 i l, le-leb i t.pairs h, c)

  pub ordering_length : (q : ℕ) (o : List ℕ) → IsOrdering t q o → length o ≤ t.pairs
  ordering_length q o f = once_length t.pairs o (f 0) once above
    where
      once : (i : ℕ) → occurs i o ≤ 1
      once i = rw (f i) (by (is_counted t q i) (λ e. rw e (omega arith)) (λ e. rw e (omega arith)))

      above : (i : ℕ) → t.pairs < i → occurs i o ≡ 0
      above i l = f i ∙ rw (lt-leb i t.pairs l, and-false (leb 1 i))

  -- what an ordering holds
  pub ordering_holds : (q i : ℕ) (o : List ℕ) → IsOrdering t q o → is_in i o ≡ is_counted t q i
  ordering_holds q i o f =
      by
      (is_counted t q i)
      (λ e. by (is_in i o) (λ h. h ∙ sym e) (λ h. absurd (omega (arith, none_occurs i o h, once e))))
      (λ e. occurs_none i o (f i ∙ rw e) ∙ sym e)
    where
      once : is_counted t q i ≡ true → occurs i o ≡ 1
      once e = f i ∙ rw e

  -- ---- closed walks
  -- the marks of the transitions that the letters of w take from q
  abbrev marks_along : ℕ → List ℕ → List Marks
  marks_along q w = map (λ x. marks_of t x.from x.by) (pass_from s q w)

  memory_along : (w : List ℕ) (q : ℕ) (o : List ℕ) → memory_after s (record_keeper t) q o w ≡ moved_along as_they_stood (marks_along q w) o
  memory_along [] q o = refl
  memory_along (a ∷ w) q o = memory_along w (s.go q a) (moved as_they_stood (prohibits t q a) o)

  largest_along_lem : (w : List ℕ) (q : ℕ) (o : List ℕ) → largest_along s (record_keeper t) q o w ≡ largest_priority as_they_stood (marks_along q w) o
  largest_along_lem [] q o = refl
  largest_along_lem (a ∷ w) q o = ap (max (priority (marks_of t q a) o)) (largest_along_lem w (s.go q a) (moved as_they_stood (prohibits t q a) o))

  satisfied_along : (w : List ℕ) (q i : ℕ) → satisfied (marks_along q w) i ≡ satisfies_pair t i (pass_from s q w)
  satisfied_along w q i =
      ap₂ (λ (b c : Bool). not b && c) (any_map (λ m. m.prohibited i) (λ x. marks_of t x.from x.by) (pass_from s q w))
      (any_map (λ m. m.required i) (λ x. marks_of t x.from x.by) (pass_from s q w))

  pub pair_counts : (q a i : ℕ) (w : List ℕ) → Path s q (a ∷ w) q → satisfies_pair t i (pass_from s q (a ∷ w)) ≡ true → counts t q i ≡ true
  pair_counts q a i w p h =
      let xs = pass_from s q (a ∷ w) in
      let r = and_parts (not (any (λ x. prohibits t x.from x.by i) xs)) (any (λ x. requires t x.from x.by i) xs) h in
      (within_view s (counts_by t i) q).1 (closed_within s (counts_by t i) p r.1)

  -- some pair of an ordering is satisfied exactly if the table is
  some_satisfied : (q a : ℕ) (w o : List ℕ) → Path s q (a ∷ w) q → IsOrdering t q o
      → any (satisfied (marks_along q (a ∷ w))) o ≡ satisfies t (pass_from s q (a ∷ w))
  some_satisfied q a w o p f = bool_ext (any (satisfied ms) o) (satisfies t xs) of_record of_table
    where
      ms : List Marks
      ms = marks_along q (a ∷ w)

      xs : List Taken
      xs = pass_from s q (a ∷ w)

      of_record : any (satisfied ms) o ≡ true → satisfies t xs ≡ true
      of_record h =
          let r = any_find (satisfied ms) o h in
          let i = r.0 in
          let c = counted_parts q i (sym (ordering_holds q i o f) ∙ r.1) in
          let e : suc (i - 1) ≡ i = omega (arith, c.0) in
          below_intro t.pairs (λ j. satisfies_pair t (suc j) xs) (i - 1) (omega (arith, c.0, c.1))
          (ap (λ (j : ℕ). satisfies_pair t j xs) e ∙ sym (satisfied_along (a ∷ w) q i) ∙ r.2)

      of_table : satisfies t xs ≡ true → any (satisfied ms) o ≡ true
      of_table h =
          let r = below_find t.pairs (λ j. satisfies_pair t (suc j) xs) h in
          let i = suc r.0 in
          let c = counted_intro q i (omega arith) r.1 (pair_counts q a i w p r.2) in
          any_intro (satisfied ms) o i (ordering_holds q i o f ∙ c) (satisfied_along (a ∷ w) q i ∙ r.2)

  pair_set_only : (i : ℕ) (xs ys : List Taken) → SameSet xs ys → satisfies_pair t i xs ≡ satisfies_pair t i ys
  pair_set_only i xs ys e =
      ap₂ (λ (b c : Bool). not b && c) (e (λ x. prohibits t x.from x.by i)) (e (λ x. requires t x.from x.by i))

  pub rabin_lawful : Lawful s (record_keeper t) (satisfies t) (IsOrdering t)
  rabin_lawful =
      record {
        same_equal = same_order_equal;
        same_refl = same_order_refl;
        fits_enter = λ q l. rising_ordering q;
        fits_move = λ q a o l la i f. moved_ordering q a o i f;
        set_only = λ xs ys e. ap (any_below t.pairs) (fun_ext (λ i. pair_set_only (suc i) xs ys e));
        loop =
            λ q o a w p f closed. ap is_even (largest_along_lem (a ∷ w) q o) ∙ closed_walk as_they_stood stood_rearranges (marks_of t q a) (marks_along (s.go q a) w) o (sym (memory_along (a ∷ w) q o) ∙ closed) ∙ some_satisfied q a w o p f;
      }

  -- sameness of a table's rows is equality
  pub table_same : SameIsEqual (table_plan t)
  table_same = plan_same s t.start (record_keeper t) same_order_equal same_order_refl

  -- the rows of a table are exactly the reachable ones
  pub table_rows_lem : (c : ℕ) → RowsAre (table_plan t) c
  table_rows_lem c = rows_view (table_plan t) table_same c

  -- every reachable record is an ordering
  pub reached_ordering : t.start < t.states → {r : Row (List ℕ)} → Reached (table_plan t) r → IsOrdering t r.source r.memory
  reached_ordering h reached = (reached_fits s t.start (record_keeper t) (satisfies t) (IsOrdering t) rabin_lawful h reached).1

  -- and stands at a state
  pub reached_state : t.start < t.states → {r : Row (List ℕ)} → Reached (table_plan t) r → r.source < t.states
  reached_state h reached = (reached_fits s t.start (record_keeper t) (satisfies t) (IsOrdering t) rabin_lawful h reached).0
