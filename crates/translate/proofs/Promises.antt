-- From what the exploration found to what the translator promises.
--     kept_few, kept_sources    no more rows are kept than there is room for, and their source states are bytes
--     translate_refused         the table's own refusal
--     translate_short           the capacity or an array out of range
--     translate_explored        the rows were looked for, and the arrays cleared after those that are kept
--     kept_is, told             the rows that are kept, and the answer with its refusal
--     promised                  all promises, from the first
use mathlib.Core.Path.{◌≡◌, refl, sym, ap, ◌∙◌}
use mathlib.Core.Bool.{true, false}
use mathlib.Core.List.{List, [], append-nil, map}
use Prim.Native.Nat.{ℕ, zero, suc, ◌*◌, ◌<◌, ◌≤◌}
use native.Mathlib.Nat.{zero-mul, mul-le-mul_right}
use native.Mathlib.Omega.{arith}
use lib.Dec.{eqb-suc-zero}
use lib.ListN.{length, get_or, length-map}
use borrow.Author.Tests.{ne_eqb, ltb-false}
use Rattle.rules.specs.Basics.{pick}
use Rattle.rules.specs.Arrays.{Beyond, Cleared}
use Rattle.rules.specs.Codings.{Codes}
use Rattle.rules.specs.Limits.{no_row}
use Rattle.rules.specs.Refusals as Refusal
use Rattle.rules.specs.Records.{decimal}
use Rattle.rules.specs.Rows.{Row, Plan, rows_of, is_full}
use Rattle.rules.specs.Tables.{Table, table_of, table_fault, table_plan}
use Rattle.rules.specs.Claims.{row_targets, row_priorities, source_states, record_numbers}
use Rattle.rules.specs.Says.{are_short, translate_fault, padded, afterwards, TranslateSays, TranslationAgrees, TranslationMeans, row_arrays}
use Rattle.rules.proofs.Bools.{by}
use Rattle.rules.proofs.Arrays.{get_d_any, cells_length, mapped_at}
use Rattle.rules.proofs.Coding.{all_at, row_coded, rows_coded, rows_good, full_coded, targets_coded, priorities_coded}
use Rattle.rules.proofs.Filling.{beyond_then, beyond_wider, over_front, over_beyond, padded_is, filled_is, cleared_is}
use Rattle.rules.proofs.Refusals.{ArrayFacts, arrays_enough, table_facts, fault_below}
use Rattle.rules.proofs.Demands.{says_agrees}
use Rattle.rules.proofs.Meanings.{translation_means}
use Rattle.tables.specs.Parts.{WellFormed}
use Rattle.std.specs.Prelude.{Result, Ok, Err, MatchResult}
use Rattle.std.specs.Result.{IsErrAnd, result_unwrap_or}
use Rattle.rules.specs.Numbered.{number_of, number_in}
use Rattle.rules.specs.declared.refusal.Refusal.{Refusal as Refused}
use Rattle.translate.specs.Answers.{rows_in}
use Rattle.explore.specs.declared.Unexplored.{Unexplored}
use Rattle.explore.specs.declared.Unexplored.TheVariants.{Full}
use Rattle.explore.specs.Cells.{source_in}
use Rattle.explore.specs.Effects.{effect_by_pairs, key_plan}
use Rattle.explore.specs.Exploring.{ExploreSays, Leaves, lent}
use Rattle.translate.specs.Keys.{key_row, IsKey}
use Rattle.translate.specs.Cells.{entry_key, task_of, TableCodes}
use Rattle.translate.specs.Rows.{RowsLeft, refusal_of, rows_kept}
use Rattle.translate.proofs.Coding.{table_codes, table_fit}

pub translate_refused : (bs : List ℕ) (c : ℕ) (ts ps ss es : List ℕ) (r : ℕ) → r ≡ table_fault bs → (r ≡ 0 → ⊥) → TranslateSays bs c (row_arrays ts ps ss es) (row_arrays ts ps ss es) r 0
unfolding translate_fault
translate_refused bs c ts ps ss es zero f g = absurd (g refl)
translate_refused bs c ts ps ss es (suc r) f g =
    record {
      refusal = rw (← f);
      count = rw (eqb-suc-zero r);
      target_array = kept (c * (table_of bs).letters) (row_targets bs c) ts;
      priority_array = kept (c * (table_of bs).letters) (row_priorities bs c) ps;
      source_array = kept c (source_states bs c) ss;
      record_array = kept c (record_numbers bs c) es;
    }
  where
    kept : (k : ℕ) (xs o : List ℕ) → o ≡ afterwards (suc r) k xs o
    kept k xs o = rw (eqb-suc-zero r, ne_eqb (suc r) Refusal.full (λ z. omega (arith, fault_below bs)))

pub translate_short : (bs : List ℕ) (c : ℕ) (ts ps ss es : List ℕ) → WellFormed bs → are_short c (table_of bs).letters (length ts) (length ps) (length ss) (length es) ≡ true
    → TranslateSays bs c (row_arrays ts ps ss es) (row_arrays ts ps ss es) Refusal.arrays 0
unfolding translate_fault
translate_short bs c ts ps ss es formed s =
    record { refusal = rw (formed, s); count = refl; target_array = refl; priority_array = refl; source_array = refl; record_array = refl }

-- an exploration's answer with its refusal
pub told : (x : Result ℕ Unexplored) (y : Result ℕ Refused) → MatchResult x (λ n. y ≡ Ok n) (λ u. IsErrAnd y (λ r. number_of r ≡ refusal_of (Err u))) → (number_in y ≡ refusal_of x) × (rows_in y ≡ rows_kept x)
told (Ok n) y h = rw h (refl, refl)
told (Err u) (Ok n) h = absurd h
told (Err u) (Err r) h = (h, refl)

pub kept_is : (x : Result ℕ Unexplored) {n : ℕ} → n ≡ result_unwrap_or x 0 → n ≡ rows_kept x
kept_is (Ok n) h = h
kept_is (Err u) h = h

-- a well-formed table, and the test of the arrays by its letters
module _ (bs : List ℕ) (letters c : ℕ) (ts ps ss es : List ℕ) (formed : WellFormed bs) (same_letters : letters ≡ (table_of bs).letters) where
  abbrev t : Table
  t = table_of bs

  abbrev m : ℕ
  m = t.letters

  abbrev g : Plan (Row (List ℕ))
  g = table_plan t

  abbrev rows : List (Row (List ℕ))
  rows = rows_of g c

  -- there is room, and the rows have been looked for
  module _ (enough : ArrayFacts c letters (length ts) (length ps) (length ss) (length es)) {cells : List ℕ} {start : ℕ} (same_start : start ≡ entry_key t t.start) (codes : TableCodes t cells) {es₁ ts₁ ps₁ : List ℕ} {x : Result ℕ Unexplored} (explored : ExploreSays effect_by_pairs (record { letters = letters; start = start }) cells c (lent es ts ps) (lent es₁ ts₁ ps₁) x) where
    room : ArrayFacts c m (length ts) (length ps) (length ss) (length es)
    room = rw same_letters at enough

    says : ExploreSays effect_by_pairs (task_of t) cells c (lent es ts ps) (lent es₁ ts₁ ps₁) x
    says = rw (same_letters, same_start) at explored

    abbrev k : Plan ℕ
    k = key_plan effect_by_pairs (task_of t) cells

    abbrev keys : List ℕ
    keys = rows_of k c

    coding : Codes k g key_row (IsKey t)
    coding = table_codes bs formed cells codes

    -- nor is an array of keys as long as that of the record numbers too short
    keys_fit : are_short c m (length ts) (length ps) (length es) (length es) ≡ false
    keys_fit =
        arrays_enough (record { some_rows = room.some_rows; most_rows = room.most_rows; target_room = room.target_room; priority_room = room.priority_room; state_room = room.record_room; record_room = room.record_room })

    answer : x ≡ pick (is_full g c) (Err Full) (Ok (length keys))
    answer =
        says.answer
        ∙ rw (table_fit bs formed cells codes c (length ts) (length ps) (length es) keys_fit, full_coded k g key_row (IsKey t) coding c)

    -- no more rows than the capacity
    by_answer : {C : Type 0} → (is_full g c ≡ true → x ≡ Err Full → C) → (is_full g c ≡ false → x ≡ Ok (length keys) → C) → C
    by_answer full done = by (is_full g c) (λ e. full e (answer ∙ rw e)) (λ e. done e (answer ∙ rw e))

    same_length : length keys ≡ length rows
    same_length = sym (length-map keys key_row) ∙ ap length (rows_coded k g key_row (IsKey t) coding c)

    pub kept_few : {n : ℕ} → n ≡ rows_kept x → n ≤ c
    kept_few k = rw k (by_answer (λ e z. rw z (omega arith)) (λ e z. rw z (omega (arith, same_length, ltb-false c (length rows) e))))

    -- what is kept of the keys
    module _ (done : is_full g c ≡ false) (z : x ≡ Ok (length keys)) where
      arrays : Leaves (Ok (length keys)) effect_by_pairs (task_of t) cells c (lent es ts ps) (lent es₁ ts₁ ps₁)
      arrays = rw z at says.arrays

      few : length keys ≤ c
      few = omega (arith, same_length, ltb-false c (length rows) done)

      key_at : (i : ℕ) → i < length keys → get_or es₁ i 0 ≡ get_or keys i k.first
      key_at i l = rw arrays.0 (over_front keys es i l) ∙ get_d_any keys i 0 k.first l

      good_key : (i : ℕ) → IsKey t (get_or keys i k.first)
      good_key i = all_at i k.first (rows_good k g key_row (IsKey t) coding c) coding.good_first

      row_at : (i : ℕ) → i < length keys → key_row (get_or es₁ i 0) ≡ get_or rows i g.first
      row_at i l = ap key_row (key_at i l) ∙ row_coded k g key_row (IsKey t) coding i keys ∙ rw (rows_coded k g key_row (IsKey t) coding c)

    pub kept_sources : {n : ℕ} → n ≡ rows_kept x → (i : ℕ) → i < n → source_in (get_or es₁ i 0) < 256
    kept_sources k i =
        rw k
        (by_answer
        (λ e z. rw z (λ l. absurd (omega arith)))
        (λ e z. rw z (λ l. rw (key_at e z i l) (omega (arith, (good_key e z i).is_row.state, (table_facts bs formed).sizes.most_states)))))

    module _ {ts' ps' ss' es' : List ℕ} (left : RowsLeft m (rows_kept x) c ts₁ ts' ps₁ ps' ss ss' es₁ es') where
      abbrev Said : Type 0
      Said = TranslateSays bs c (row_arrays ts ps ss es) (row_arrays ts' ps' ss' es') (refusal_of x) (rows_kept x)

      said_full : is_full g c ≡ true → x ≡ Err Full → Said
      unfolding translate_fault
      said_full e z =
          let a = rw z at says.arrays in
          let clear = rw z at left in
          let u = clear.unpacked in
          rw z
          (record {
            refusal = rw (formed, arrays_enough room, e);
            count = refl;
            target_array = cleared_is (zero-mul m) room.target_room a.1 clear.target_array;
            priority_array = cleared_is (zero-mul m) room.priority_room a.2 clear.priority_array;
            source_array = cleared_is refl room.state_room (beyond_wider (omega arith) u.state_rest) clear.source_array;
            record_array = cleared_is refl room.record_room (beyond_then a.0 (beyond_wider (omega arith) u.key_rest)) clear.number_array;
          })

      -- one number for each row
      rows_are : {old mid new : List ℕ} (h : Row (List ℕ) → ℕ) → c ≤ length old → length keys ≤ c → Beyond c old mid → Cleared (length keys) c mid new
          → ((i : ℕ) → i < length keys → get_or mid i 0 ≡ h (get_or rows i g.first)) → new ≡ padded c (map h rows) old
      rows_are h enough few rest clear front =
          padded_is (map h rows) (length-map rows h ∙ sym same_length) few enough rest clear
          (λ i l. rw (← append-nil (map h rows)) (front i l ∙ sym (mapped_at h rows [] i 0 g.first (rw same_length at l))))

      said_done : is_full g c ≡ false → x ≡ Ok (length keys) → Said
      unfolding translate_fault
      said_done e z =
          let a = arrays e z in
          let clear = rw z at left in
          let u = clear.unpacked in
          let enough = few e z in
          let cells-few : length keys * m ≤ c * m = mul-le-mul_right m enough in
          let ts-are = targets_coded k g key_row (IsKey t) coding c no_row in
          let ps-are = priorities_coded k g key_row (IsKey t) coding c in
          rw z
          (record {
            refusal = rw (formed, arrays_enough room, e);
            count = same_length;
            target_array = filled_is ts (row_targets bs c) (cells_length _ m rows ∙ rw same_length) cells-few room.target_room (a.1 ∙ rw ts-are) clear.target_array;
            priority_array = filled_is ps (row_priorities bs c) (cells_length _ m rows ∙ rw same_length) cells-few room.priority_room (a.2 ∙ rw ps-are) clear.priority_array;
            source_array = rows_are (λ r. r.source) room.state_room enough (beyond_wider enough u.state_rest) clear.source_array (λ i l. u.states i l ∙ ap (λ (r : Row (List ℕ)). r.source) (row_at e z i l));
            record_array = rows_are (λ r. decimal r.memory) room.record_room enough (beyond_then (over_beyond keys a.0 enough room.record_room) (beyond_wider enough u.key_rest)) clear.number_array (λ i l. u.numbers i l ∙ ap (λ (r : Row (List ℕ)). decimal r.memory) (row_at e z i l));
          })

    pub translate_explored : {number n : ℕ} {ts' ps' ss' es' : List ℕ} → number ≡ refusal_of x → n ≡ rows_kept x → RowsLeft letters n c ts₁ ts' ps₁ ps' ss ss' es₁ es'
        → TranslateSays bs c (row_arrays ts ps ss es) (row_arrays ts' ps' ss' es') number n
    translate_explored r k left = let l = rw (k, same_letters) at left in rw (r, k) (by_answer (said_full l) (said_done l))

pub promised : {bs : List ℕ} {c : ℕ} {ts ts' ps ps' ss ss' es es' : List ℕ} {number rows : ℕ} → TranslateSays bs c (row_arrays ts ps ss es) (row_arrays ts' ps' ss' es') number rows
    → TranslateSays bs c (row_arrays ts ps ss es) (row_arrays ts' ps' ss' es') number rows × (TranslationAgrees bs ts' ps' ss' number rows × TranslationMeans bs c number)
promised s = (s, (says_agrees _ _ _ _ _ _ _ _ _ _ _ _ s, translation_means _ _ _ _ _ _ s))
