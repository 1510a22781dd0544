-- From what the translator promises to what the listing promises.
--     front_length, front_at            on success an array begins with what the translator found
--     lines_same                        lines over arrays that agree where they are read
--     facts                             what holds of the table and the arrays, where the translator's number is 0
--     shown                             there is room in the arrays for the rows
--     listing_done, done_reach          the listing is the head and the lines of the arrays as they are left, and is in reach
--     listing_refused, refused_reach    on a refusal the listing is its line, and is in reach
--     listing_says                      the promise, where the listing is the text that was written
use mathlib.Core.Path.{◌≡◌, sym, ap, ◌∙◌}
use mathlib.Core.List.{List, ◌++◌, append_assoc}
use Prim.Native.Nat.{ℕ, ◌*◌, ◌≤◌, ◌<◌, min}
use native.Mathlib.Nat.{le_trans, mul-le-mul}
use native.Mathlib.Omega.{arith}
use lib.ListN.{length, get_or, length-append, length-map, get_or-append}
use borrow.Author.Tests.{ne_eqb}
use Rattle.rules.specs.Limits.{max_letters, max_rows, no_row}
use Rattle.rules.specs.Systems.{cell}
use Rattle.rules.specs.Records.{decimal}
use Rattle.rules.specs.Rows.{target_number}
use Rattle.rules.specs.Tables.{table_of, table_plan}
use Rattle.rules.specs.Claims.{table_rows, row_targets, row_priorities, source_states, record_numbers}
use Rattle.rules.specs.Says.{afterwards, TranslateSays, row_arrays}
use Rattle.rules.specs.Listings.{line_at, row_lines, lines_at, lines, head, refusal_line, table_listing, listing, ListingSays}
use Rattle.rules.proofs.Arrays.{cells_length, row_ends}
use Rattle.rules.proofs.Texts.{each_same}
use Rattle.rules.proofs.Refusals.{TranslationFacts, translation_facts, translation_below}
use Rattle.rules.proofs.ListingBounds.{refused_length, listing_bound_lem}
use Rattle.listing_text.specs.Writing.{InReach, Wrote, Shown}

-- ---- the fronts of the arrays
module _ (k : ℕ) (xs o o' : List ℕ) (e : o' ≡ afterwards 0 k xs o) where
  front_length : length xs ≤ length o'
  front_length = rw (e, append_assoc) (simp length-append (omega arith))

  front_at : (p : ℕ) → p < length xs → get_or o' p 0 ≡ get_or xs p 0
  front_at p l = rw (e, append_assoc) (get_or-append xs _ 0 p l)

-- ---- lines over arrays that agree
lines_same : (n m : ℕ) (ts ts' ps ps' ss ss' es es' : List ℕ) → ((p : ℕ) → p < n * m → get_or ts p 0 ≡ get_or ts' p 0)
    → ((p : ℕ) → p < n * m → get_or ps p 0 ≡ get_or ps' p 0) → ((i : ℕ) → i < n → get_or ss i 0 ≡ get_or ss' i 0)
    → ((i : ℕ) → i < n → get_or es i 0 ≡ get_or es' i 0) → lines n m ts ps ss es ≡ lines n m ts' ps' ss' es'
unfolding lines row_lines
lines_same n m ts ts' ps ps' ss ss' es es' ft fp fs fr =
    each_same (lines_at m ts ps ss es) (lines_at m ts' ps' ss' es') n (λ i l. rw (fs i l, fr i l) (each_same (before i) (after i) m (letters i l)))
  where
    before : ℕ → ℕ → List ℕ
    before i = line_at m ts ps i (get_or ss' i 0) (get_or es' i 0)

    after : ℕ → ℕ → List ℕ
    after i = line_at m ts' ps' i (get_or ss' i 0) (get_or es' i 0)

    letters : (i : ℕ) → i < n → (a : ℕ) → a < m → before i a ≡ after i a
    letters i l a h = let b : cell m i a < n * m = omega (arith, row_ends n m i l) in rw (ft (cell m i a) b, fp (cell m i a) b)

-- ---- success
module _ {bs : List ℕ} {c : ℕ} {ts ts' ps ps' ss ss' es es' : List ℕ} {rows : ℕ} (says : TranslateSays bs c (row_arrays ts ps ss es) (row_arrays ts' ps' ss' es') 0 rows) where
  cells : length (table_rows bs c) * (table_of bs).letters ≡ rows * (table_of bs).letters
  cells = rw says.count

  target_length : length (row_targets bs c) ≡ rows * (table_of bs).letters
  target_length = cells_length (target_number (table_plan (table_of bs)) no_row (table_rows bs c)) (table_of bs).letters (table_rows bs c) ∙ cells

  priority_length : length (row_priorities bs c) ≡ rows * (table_of bs).letters
  priority_length = cells_length (λ x y. ((table_plan (table_of bs)).step x y).prio) (table_of bs).letters (table_rows bs c) ∙ cells

  state_length : length (source_states bs c) ≡ rows
  state_length = length-map (table_rows bs c) (λ r. r.source) ∙ sym says.count

  record_length : length (record_numbers bs c) ≡ rows
  record_length = length-map (table_rows bs c) (λ r. decimal r.memory) ∙ sym says.count

  pub facts : TranslationFacts bs c (length ts) (length ps) (length ss) (length es)
  facts = translation_facts bs c (length ts) (length ps) (length ss) (length es) (sym says.refusal)

  pub shown : Shown rows (table_of bs).letters ts' ps' ss' es'
  shown =
      let k = c * (table_of bs).letters in
      record {
        most_rows = rw says.count (le_trans facts.rows_fit facts.arrays.most_rows);
        most_letters = facts.table.sizes.most_letters;
        target_cells = omega (arith, target_length, front_length k (row_targets bs c) ts ts' says.target_array);
        priority_cells = omega (arith, priority_length, front_length k (row_priorities bs c) ps ps' says.priority_array);
        states = omega (arith, state_length, front_length c (source_states bs c) ss ss' says.source_array);
        records = omega (arith, record_length, front_length c (record_numbers bs c) es es' says.record_array);
      }

  -- the arrays as they are left give the lines of what was found
  as_found : lines rows (table_of bs).letters ts' ps' ss' es' ≡ lines rows (table_of bs).letters (row_targets bs c) (row_priorities bs c) (source_states bs c) (record_numbers bs c)
  as_found =
      let k = c * (table_of bs).letters in
      lines_same rows (table_of bs).letters ts' (row_targets bs c) ps' (row_priorities bs c) ss' (source_states bs c) es' (record_numbers bs c)
      (λ p l. front_at k (row_targets bs c) ts ts' says.target_array p (omega (arith, target_length)))
      (λ p l. front_at k (row_priorities bs c) ps ps' says.priority_array p (omega (arith, priority_length)))
      (λ i l. front_at c (source_states bs c) ss ss' says.source_array i (omega (arith, state_length)))
      (λ i l. front_at c (record_numbers bs c) es es' says.record_array i (omega (arith, record_length)))

  pub listing_done : listing bs c (length ts) (length ps) (length ss) (length es) ≡ head rows (table_of bs).letters (table_of bs).pairs ++ lines rows (table_of bs).letters ts' ps' ss' es'
  unfolding listing table_listing
  listing_done = rw (← says.refusal, ← says.count, as_found)

  pub done_reach : InReach 0 (head rows (table_of bs).letters (table_of bs).pairs ++ lines rows (table_of bs).letters ts' ps' ss' es')
  done_reach =
      let cells : c * min (table_of bs).letters max_letters ≤ max_rows * max_letters = mul-le-mul {m₂ = max_letters} facts.arrays.most_rows (omega arith) in
      record { ends = omega (arith, ap length listing_done, listing_bound_lem bs c (length ts) (length ps) (length ss) (length es)) }

-- ---- both outcomes
module _ {bs : List ℕ} {c : ℕ} {ts ts' ps ps' ss ss' es es' : List ℕ} {number rows : ℕ} (says : TranslateSays bs c (row_arrays ts ps ss es) (row_arrays ts' ps' ss' es') number rows) where
  pub listing_refused : (number ≡ 0 → ⊥) → listing bs c (length ts) (length ps) (length ss) (length es) ≡ refusal_line number
  unfolding listing
  listing_refused ne = rw (← says.refusal, ne_eqb number 0 ne)

  pub refused_reach : InReach 0 (refusal_line number)
  refused_reach = record { ends = omega (arith, says.refusal, refused_length number (rw says.refusal (translation_below bs c (length ts) (length ps) (length ss) (length es)))) }

  pub listing_says : {o o' t : List ℕ} {r : ℕ} → listing bs c (length ts) (length ps) (length ss) (length es) ≡ t → Wrote 0 t o o' r → ListingSays bs c (row_arrays ts ps ss es) (row_arrays ts' ps' ss' es') o o' r
  listing_says is w =
      record {
        arrays = rw says.refusal at (rw says.count at says);
        text = rw is w.contents;
        size = omega (arith, w.next, ap length is);
        bound = omega (arith, w.next, ap length is, listing_bound_lem bs c (length ts) (length ps) (length ss) (length es));
      }
