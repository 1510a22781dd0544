-- How long a listing is.
--     field_length, optional_length               the field of a number with few digits
--     line_length, head_length, refused_length    a line, the head and the line of a refusal, where every number is within its range
--     step_priority_bound                         a priority is at most 2k + 1, k the table's pairs
--     listing_bound_lem                           a listing is at most as long as its bound says, for all bytes, capacities and lengths of the arrays
--     listing_whole                               in an array with room for the bound the listing is written whole
use mathlib.Core.Path.{◌≡◌, refl, ap, ◌∙◌}
use mathlib.Core.Bool.{Bool, true, false}
use mathlib.Core.List.{List, [], append-nil}
use Prim.Native.Nat.{ℕ, suc, ◌+◌, ◌*◌, ◌^◌, ◌≤◌, ◌<◌, min}
use native.Mathlib.Nat.{mul_assoc, mul-le-mul_right, pow-le-pow_right}
use native.Mathlib.Omega.{arith}
use lib.Dec.{eqb, leb}
use lib.ListN.{length, get_or, take, length-append}
use lib.Seq.{length-sets}
use borrow.Author.Tests.{eqb-true, leb-true, leb-false}
use Rattle.rules.specs.Limits.{max_states, max_letters, max_pairs, max_rows, no_row}
use Rattle.rules.specs.Systems.{cell, is_inside}
use Rattle.rules.specs.Records.{decimal}
use Rattle.rules.specs.Rows.{Row, row_at, target_number, step_of}
use Rattle.rules.specs.Tables.{Table, table_of, system_of, IsOrdering, record_keeper, marks_of, table_plan}
use Rattle.rules.specs.Claims.{table_rows, row_targets, row_priorities, source_states, record_numbers}
use Rattle.rules.specs.Says.{translate_fault, RowArrays}
use Rattle.rules.specs.Texts.{blank, line_feed}
use Rattle.rules.specs.Listings.{field, optional, line, line_at, row_lines, lines_at, lines, head, refusal_line, table_listing, listing, listing_bound, ListingSays}
use Rattle.rules.proofs.Bools.{by, clash}
use Rattle.rules.proofs.Appearance.{priority_bound}
use Rattle.rules.proofs.Exploration.{place_most}
use Rattle.rules.proofs.Arrays.{cells_at, mapped_at}
use Rattle.rules.proofs.Steps.{step_missing, step_inside, step_crossing}
use Rattle.rules.proofs.Refusals.{TranslationFacts, translation_facts, translation_below}
use Rattle.rules.proofs.RabinTables.{ordering_length, table_rows_lem, reached_ordering, reached_state}
use Rattle.rules.proofs.Numbers.{decimal_below, ordering_digits}
use Rattle.rules.proofs.Texts.{numeral_length, each_length, put_front}

-- ---- fields and lines
field_length : (k n end : ℕ) → n < 10 ^ suc k → length (field n end) ≤ 2 + k
unfolding field
field_length k n end l = simp length-append (omega (arith, numeral_length k n l))

optional_length : (k : ℕ) (none : Bool) (n end : ℕ) → (none ≡ false → n < 10 ^ suc k) → length (optional none n end) ≤ 2 + k
unfolding optional
optional_length k true n end l = omega arith
optional_length k false n end l = simp length-append (omega (arith, numeral_length k n (l refl)))

-- a target: a row's number, or none
abbrev IsTarget : ℕ → Type 0
IsTarget t = eqb t no_row ≡ false → t ≤ max_rows

line_length : (i q r a t p : ℕ) → i < max_rows → q < max_states → r < 10 ^ max_pairs → a < max_letters → IsTarget t → p ≤ 2 * max_pairs + 1 → length (line i q r a t p) ≤ 26
unfolding line
line_length i q r a t p li lq lr la lt lp =
    simp length-append
    (omega (arith, field_length 3 i blank (omega arith), field_length 1 q blank (omega arith), optional_length 5 (eqb r 0) r blank (λ _. lr), field_length 1 a blank (omega arith), optional_length 3 (eqb t no_row) t blank (λ e. omega (arith, lt e)), optional_length 1 (eqb t no_row) p line_feed (λ _. omega arith)))

head_length : (n m k : ℕ) → n ≤ max_rows → m ≤ max_letters → k ≤ max_pairs → length (head n m k) ≤ 10
unfolding head
head_length n m k ln lm lk =
    simp length-append (omega (arith, field_length 3 n blank (omega arith), field_length 1 m blank (omega arith), field_length 0 k line_feed (omega arith)))

pub refused_length : (f : ℕ) → f ≤ 8 → length (refusal_line f) ≤ 10
unfolding refusal_line
refused_length f l = simp length-append (omega (arith, field_length 0 f line_feed (omega arith)))

-- ---- what the arrays hold
step_priority_bound : (t : Table) (r : Row (List ℕ)) (a : ℕ) → (step_of (system_of t) (record_keeper t) r a).prio ≤ 2 * length r.memory + 1
step_priority_bound t r a =
    let s = system_of t in
    let k = record_keeper t in
    by
    (leb t.states (s.go r.source a))
    (λ e. rw (step_missing s k r a (leb-true t.states _ e)) (omega arith))
    (λ e. by (is_inside s r.source a) (λ i. rw (step_inside s k r a (leb-false t.states _ e) i) (priority_bound (marks_of t r.source a) r.memory)) (λ i. rw (step_crossing s k r a (leb-false t.states _ e) i) (omega arith)))

module _ (bs : List ℕ) (c a b d e : ℕ) (ok : TranslationFacts bs c a b d e) where
  abbrev t : Table
  t = table_of bs

  abbrev m : ℕ
  m = (table_of bs).letters

  abbrev rs : List (Row (List ℕ))
  rs = table_rows bs c

  abbrev at : ℕ → Row (List ℕ)
  at i = row_at (table_plan t) rs i

  module _ (i : ℕ) (l : i < length rs) where
    ordered : IsOrdering t (at i).source (at i).memory
    ordered = reached_ordering t ok.table.start_state ((table_rows_lem t c).reached i l)

    few_pairs : length (at i).memory ≤ max_pairs
    few_pairs = omega (arith, ordering_length t (at i).source (at i).memory ordered, ok.table.sizes.most_pairs)

    source_bound : get_or (source_states bs c) i 0 < max_states
    source_bound =
        let e : get_or (source_states bs c) i 0 ≡ (at i).source = rw (append-nil) at (mapped_at (λ r. r.source) rs [] i 0 (table_plan t).first l) in
        omega (arith, e, reached_state t ok.table.start_state ((table_rows_lem t c).reached i l), ok.table.sizes.most_states)

    number_bound : get_or (record_numbers bs c) i 0 < 10 ^ max_pairs
    number_bound =
        let e : get_or (record_numbers bs c) i 0 ≡ decimal (at i).memory = rw append-nil at (mapped_at (λ r. decimal r.memory) rs [] i 0 (table_plan t).first l) in
        let most : 10 ^ length (at i).memory ≤ 10 ^ max_pairs = pow-le-pow_right (omega arith) few_pairs in
        omega (arith, e, decimal_below (at i).memory (ordering_digits t (omega (arith, ok.table.sizes.most_pairs)) (at i).source (at i).memory ordered))

    module _ (x : ℕ) (lx : x < m) where
      target_bound : IsTarget (get_or (row_targets bs c) (cell m i x) 0)
      target_bound =
          let e : get_or (row_targets bs c) (cell m i x) 0 ≡ target_number (table_plan t) no_row rs (at i) x = rw append-nil at (cells_at (target_number (table_plan t) no_row rs) m rs [] i x 0 (table_plan t).first l lx) in
          rw e
          (by ((table_plan t).step (at i) x).there (λ h. rw h (λ _. omega (arith, place_most ((table_plan t).same ((table_plan t).step (at i) x).to) rs, ok.rows_fit, ok.arrays.most_rows))) (λ h. rw h (λ f. clash refl f)))

      priority_at_most : get_or (row_priorities bs c) (cell m i x) 0 ≤ 2 * max_pairs + 1
      priority_at_most =
          let e : get_or (row_priorities bs c) (cell m i x) 0 ≡ (step_of (system_of t) (record_keeper t) (at i) x).prio = rw append-nil at (cells_at (λ r y. ((table_plan t).step r y).prio) m rs [] i x 0 (table_plan t).first l lx) in
          omega (arith, e, step_priority_bound t (at i) x, few_pairs)

    row_length : length (lines_at m (row_targets bs c) (row_priorities bs c) (source_states bs c) (record_numbers bs c) i) ≤ m * 26
    unfolding row_lines
    row_length =
        each_length (line_at m (row_targets bs c) (row_priorities bs c) i (get_or (source_states bs c) i 0) (get_or (record_numbers bs c) i 0)) 26 m 0
        (λ x h. line_length i _ _ x _ _ (omega (arith, ok.rows_fit, ok.arrays.most_rows)) source_bound number_bound (omega (arith, ok.table.sizes.most_letters)) (target_bound x (omega arith)) (priority_at_most x (omega arith)))

  lines_length : length (lines (length rs) m (row_targets bs c) (row_priorities bs c) (source_states bs c) (record_numbers bs c)) ≤ length rs * (m * 26)
  unfolding lines
  lines_length = each_length (lines_at m (row_targets bs c) (row_priorities bs c) (source_states bs c) (record_numbers bs c)) (m * 26) (length rs) 0 (λ i l. row_length i (omega arith))

  table_bound : length (table_listing bs c) ≤ listing_bound c m
  unfolding table_listing
  table_bound =
      let few : min m max_letters ≡ m = omega (arith, ok.table.sizes.most_letters) in
      let cells : length rs * m ≤ c * m = mul-le-mul_right m ok.rows_fit in
      rw few
      (simp length-append (omega (arith, head_length (length rs) m t.pairs (omega (arith, ok.rows_fit, ok.arrays.most_rows)) ok.table.sizes.most_letters ok.table.sizes.most_pairs, lines_length, mul_assoc (length rs) m 26)))

pub listing_bound_lem : (bs : List ℕ) (c a b d e : ℕ) → length (listing bs c a b d e) ≤ listing_bound c (table_of bs).letters
unfolding listing
listing_bound_lem bs c a b d e =
    by
    (eqb (translate_fault bs c a b d e) 0)
    (λ z. rw z (table_bound bs c a b d e (translation_facts bs c a b d e (eqb-true (translate_fault bs c a b d e) 0 z))))
    (λ z. rw z (omega (arith, refused_length (translate_fault bs c a b d e) (translation_below bs c a b d e))))

pub listing_whole : {bs o o' : List ℕ} {c r : ℕ} {x x' : RowArrays} → ListingSays bs c x x' o o' r → listing_bound c (table_of bs).letters ≤ length o
    → (r ≤ length o') × (take r o' ≡ listing bs c (length x.targets) (length x.priorities) (length x.sources) (length x.records))
listing_whole {bs} {o} {o'} {c} {r} {x} says room =
    let t = listing bs c (length x.targets) (length x.priorities) (length x.sources) (length x.records) in
    let n : length o' ≡ length o = ap length says.text ∙ length-sets o 0 t in
    (omega (arith, says.bound), rw (says.text, says.size) (put_front t o (omega (arith, says.bound, says.size))))
