-- The codes of a table's cells stand for its plan.
--     table_codes    the plan of the keys codes the table's
--     table_fit      the task can be explored where no array is too short
use mathlib.Core.Path.{◌≡◌, refl, sym, ap, ◌∙◌}
use mathlib.Core.Bool.{Bool, true, false, ◌&&◌, false≢true, and-false}
use mathlib.Core.List.{List}
use Prim.Native.Nat.{ℕ, suc, ◌+◌, ◌-◌, ◌*◌, ◌/◌, ◌%◌, ◌≤◌, ◌<◌}
use native.Mathlib.Nat.{mul-div_cancel}
use native.Mathlib.Omega.{arith}
use lib.Dec.{eqb, leb}
use lib.ListN.{get_or}
use lib.Pow.{pow_mono}
use borrow.Author.Tests.{eqb-true, eq-eqb, ne_eqb, lt-ltb, le-ltb, leb-true, leb-false, le-leb, lt-leb}
use Rattle.rules.specs.Basics.{any, is_in}
use Rattle.rules.specs.Limits.{max_letters, max_pairs}
use Rattle.rules.specs.Codings.{Codes}
use Rattle.rules.specs.Records.{as_they_stood, moved, priority}
use Rattle.rules.specs.Rows.{Step, Row, row, Plan}
use Rattle.rules.specs.Systems.{cell, is_inside}
use Rattle.rules.specs.Tables.{Table, table_of, target_of, prohibits, requires, counts, rising, system_of, marks_of, record_keeper, table_plan}
use Rattle.rules.proofs.Appearance.{moved_length, moved_same, priority_same}
use Rattle.rules.proofs.Arrays.{cell_split}
use Rattle.rules.proofs.Bits.{as_bits_below, as_bits_at}
use Rattle.rules.proofs.Bools.{by, bool_ext}
use Rattle.rules.proofs.RabinTables.{table_same, stood_rearranges, ordering_holds, counted_parts, moved_ordering}
use Rattle.rules.specs.Says.{are_short}
use Rattle.rules.proofs.Refusals.{TableFacts, table_facts}
use Rattle.rules.proofs.Sets.{fails_at}
use Rattle.rules.proofs.Steps.{step_missing, step_inside, step_crossing}
use Rattle.records.specs.Packed.{packed, places, is_marked, marks_by}
use Rattle.records.proofs.Packing.{moved_packed, priority_packed}
use Rattle.tables.specs.Parts.{WellFormed}
use Rattle.translate.specs.Keys.{row_key, key_row, IsRow, IsKey}
use Rattle.translate.proofs.RowKeys.{row_pairs, row_source, row_code, row_of_key, row_is_key, entry_is_row, entry_small}
use Rattle.explore.specs.Cells as Key
use Rattle.explore.specs.Effects.{effect_by_pairs, key_plan}
use Rattle.explore.specs.Exploring.{states_in, is_unfit}
use Rattle.translate.specs.Cells.{cut_marks, entry_key, cell_code, task_of, TableCodes}

-- ---- the parts of an inside code
parts_low : (x y : ℕ) → y < 65536 → Key.marks_in (Key.inside_code x y) ≡ y
parts_low x y l = omega arith

parts_above : (x y : ℕ) → y < 65536 → Key.inside_code x y / 65536 ≡ 8192 + x
parts_above x y l = omega arith

parts_high : (x y : ℕ) → y < 65536 → x < 1024 → Key.target_in (Key.inside_code x y) ≡ x
parts_high x y l h = ap (λ (z : ℕ). z % 1024) (parts_above x y l) ∙ omega arith

module _ (bs : List ℕ) (formed : WellFormed bs) (cells : List ℕ) (codes : TableCodes (table_of bs) cells) where
  abbrev t : Table
  t = table_of bs

  abbrev k : Plan ℕ
  k = key_plan effect_by_pairs (task_of t) cells

  abbrev g : Plan (Row (List ℕ))
  g = table_plan t

  table : TableFacts bs
  table = table_facts bs formed

  few : t.pairs ≤ max_pairs
  few = table.sizes.most_pairs

  cut_small : (q : ℕ) (b : ℕ → Bool) → cut_marks t q b < 64
  cut_small q b = omega (arith, as_bits_below (λ i. b (suc i) && counts t q (suc i)) t.pairs, pow_mono {i = t.pairs} {j = 6} few)

  -- ---- a key, and its step by a letter
  module _ (v : ℕ) (key : IsKey t v) (a : ℕ) (la : a < t.letters) where
    abbrev r : Row (List ℕ)
    r = key_row v

    abbrev q : ℕ
    q = r.source

    abbrev end : ℕ
    end = target_of t q a

    abbrev P : ℕ
    P = cut_marks t q (prohibits t q a)

    abbrev Q : ℕ
    Q = cut_marks t q (requires t q a)

    abbrev w : ℕ
    w = get_or cells (cell t.letters q a) 0

    good : IsRow t r
    good = key.is_row

    code_is : w ≡ cell_code t q a
    code_is = codes.entry q a good.state la

    memory_is : Key.memory_in v ≡ packed r.memory
    memory_is = ap Key.memory_in (sym key.exact) ∙ row_code t few r good

    -- a pair of the record counts, so that the cut marks have its bit
    cut_marked : (b : ℕ → Bool) (i : ℕ) → is_in i r.memory ≡ true → is_marked (cut_marks t q b) i ≡ b i
    cut_marked b i h =
        let p = counted_parts t q i (sym (ordering_holds t q i r.memory good.ordering) ∙ h) in
        let e : suc (i - 1) ≡ i = omega (arith, p.0) in
        rw (ne_eqb i 0 (λ z. omega (arith, p.0)))
        (as_bits_at (λ j. b (suc j) && counts t q (suc j)) t.pairs (i - 1) (omega (arith, p.0, p.1)) ∙ rw (e, p.2) (by (b i) (λ f. rw f) (λ f. rw f)))

    -- the effect of the marks
    abbrev e : ℕ
    e = effect_by_pairs (Key.memory_in v) (P + 256 * Q)

    marks_low : (P + 256 * Q) % 256 ≡ P
    marks_low = omega (arith, cut_small q (prohibits t q a))

    marks_high : (P + 256 * Q) / 256 ≡ Q
    marks_high = omega (arith, cut_small q (prohibits t q a))

    abbrev both : ℕ → ℕ → List ℕ → ℕ
    both x y o = Key.span * priority (marks_by x y) o + packed (moved as_they_stood (is_marked x) o)

    effect_is : e ≡ Key.span * priority (marks_of t q a) r.memory + packed (moved as_they_stood (prohibits t q a) r.memory)
    unfolding effect_by_pairs
    effect_is =
        ap (λ (x : ℕ). effect_by_pairs x (P + 256 * Q)) memory_is
        ∙ ap (λ (x : ℕ). both x ((P + 256 * Q) / 256) (places (packed r.memory))) marks_low
        ∙ ap (λ (x : ℕ). both P x (places (packed r.memory))) marks_high
        ∙ ap (λ (x : ℕ). Key.span * x + packed (moved as_they_stood (is_marked P) (places (packed r.memory)))) (priority_packed r.memory good.few (row_pairs t few r good) (marks_by P Q) refl refl ∙ priority_same (marks_by P Q) (marks_of t q a) r.memory (cut_marked (prohibits t q a)) (cut_marked (requires t q a)))
        ∙ ap (λ (x : ℕ). Key.span * priority (marks_of t q a) r.memory + x) (moved_packed r.memory good.few (row_pairs t few r good) (is_marked P) refl ∙ ap packed (moved_same as_they_stood (is_marked P) (prohibits t q a) r.memory (cut_marked (prohibits t q a))))

    -- the step of the key, from its code and the effect
    step_by : (code : ℕ) → w ≡ code → k.step v a ≡ Key.step_in code (effect_by_pairs (Key.memory_in v) (Key.marks_in code))
    step_by code z = ap (λ (x : ℕ). Key.step_in x (effect_by_pairs (Key.memory_in v) (Key.marks_in x))) z

    inside_row : end < t.states → is_inside (system_of t) q a ≡ true → IsRow t (row end (moved as_they_stood (prohibits t q a) r.memory))
    inside_row h i =
        record {
          state = h;
          ordering = moved_ordering t q a r.memory i good.ordering;
          few = rw (moved_length as_they_stood stood_rearranges (prohibits t q a) r.memory) good.few;
        }

    record Same (x : Step ℕ) (y : Step (Row (List ℕ))) : Type 0 where
      there : x.there ≡ y.there
      prio : x.prio ≡ y.prio
      to : x.there ≡ true → key_row x.to ≡ y.to
      good_to : x.there ≡ true → IsKey t x.to

    step_missing_key : t.states ≤ end → Same (k.step v a) (g.step r a)
    unfolding cell_code Key.step_in
    step_missing_key h =
        let s = step_missing (system_of t) (record_keeper t) r a h in
        let z : w ≡ 0 = code_is ∙ rw (le-leb t.states end h) in
        rw (step_by 0 z, s) (record { there = refl; prio = refl; to = λ f. absurd (false≢true f); good_to = λ f. absurd (false≢true f) })

    step_crossing_key : end < t.states → is_inside (system_of t) q a ≡ false → Same (k.step v a) (g.step r a)
    unfolding cell_code Key.step_in
    step_crossing_key h i =
        let s = step_crossing (system_of t) (record_keeper t) r a h i in
        let entry = row end (rising t end) in
        let is_row = entry_is_row t end few h in
        let small = entry_small t end few h in
        let n = table.sizes.most_states in
        let code : ℕ = Key.crossing_code (entry_key t end) in
        let z : w ≡ code = code_is ∙ rw (lt-leb t.states end h, i) in
        let there = le-ltb code Key.crossing_kind (omega arith) in
        let kind = lt-ltb code Key.inside_kind (omega arith) in
        let back : Key.entered_in code ≡ entry_key t end = omega arith in
        rw (step_by code z, s, there, kind, back)
        (record { there = refl; prio = refl; to = λ f. row_of_key t few entry is_row; good_to = λ f. row_is_key t few entry is_row })

    step_inside_key : end < t.states → is_inside (system_of t) q a ≡ true → Same (k.step v a) (g.step r a)
    unfolding cell_code Key.step_in
    step_inside_key h i =
        let s = step_inside (system_of t) (record_keeper t) r a h i in
        let next = row end (moved as_they_stood (prohibits t q a) r.memory) in
        let is_row = inside_row h i in
        let small : packed next.memory < Key.span = omega (arith, row_code t few next is_row) in
        let n = table.sizes.most_states in
        let p = cut_small q (prohibits t q a) in
        let y = cut_small q (requires t q a) in
        let code : ℕ = Key.inside_code end (P + 256 * Q) in
        let z : w ≡ code = code_is ∙ rw (lt-leb t.states end h, i) in
        let there = le-ltb code Key.crossing_kind (omega arith) in
        let kind = le-ltb code Key.inside_kind (omega arith) in
        let marks : Key.marks_in code ≡ P + 256 * Q = parts_low end (P + 256 * Q) (omega arith) in
        let target : Key.target_in code ≡ end = parts_high end (P + 256 * Q) (omega arith) (omega arith) in
        let low : e % Key.span ≡ packed next.memory = ap (λ (x : ℕ). x % Key.span) effect_is ∙ omega arith in
        let high : e / Key.span ≡ priority (marks_of t q a) r.memory = ap (λ (x : ℕ). x / Key.span) effect_is ∙ omega arith in
        rw (step_by code z, s, there, kind, marks, target, low, high)
        (record { there = refl; prio = refl; to = λ f. row_of_key t few next is_row; good_to = λ f. row_is_key t few next is_row })

    step_same : Same (k.step v a) (g.step r a)
    step_same =
        by
        (leb t.states end)
        (λ f. step_missing_key (leb-true t.states end f))
        (λ f. let l = leb-false t.states end f in by (is_inside (system_of t) q a) (λ i. step_inside_key l i) (λ i. step_crossing_key l i))

  pub table_codes : Codes k g key_row (IsKey t)
  table_codes =
      record {
        letters = refl;
        first = row_of_key t few g.first first_row;
        good_first = row_is_key t few g.first first_row;
        there = λ v a key l. (step_same v key a l).there;
        prio = λ v a key l. (step_same v key a l).prio;
        to = λ v a key l. (step_same v key a l).to;
        good_to = λ v a key l. (step_same v key a l).good_to;
        same = λ v w p q. bool_ext (eqb v w) (g.same (key_row v) (key_row w)) (λ h. rw (eqb-true v w h) ((table_same t).self (key_row w))) (λ h. eq-eqb v w (sym p.exact ∙ ap row_key ((table_same t).equal (key_row v) (key_row w) h) ∙ q.exact));
      }
    where
      first_row : IsRow t g.first
      first_row = entry_is_row t t.start few table.start_state

  -- ---- every code leads to a state
  states_are : states_in t.letters cells ≡ t.states
  states_are = rw codes.size (mul-div_cancel t.states table.sizes.some_letters)

  entry_source : (x : ℕ) → x < t.states → Key.source_in (entry_key t x) ≡ x
  entry_source x l = row_source t few (row x (rising t x)) (entry_is_row t x few l)

  code_leads : (q a : ℕ) → Key.strays t.states (cell_code t q a) ≡ false
  unfolding cell_code
  code_leads q a =
      by
      (leb t.states (target_of t q a))
      (λ f. rw f)
      (λ f. by (is_inside (system_of t) q a) (λ i. inside f i) (λ i. crossing f i))
    where
      inside : leb t.states (target_of t q a) ≡ false → is_inside (system_of t) q a ≡ true → Key.strays t.states (cell_code t q a) ≡ false
      inside f i =
          let n = table.sizes.most_states in
          let l = leb-false t.states (target_of t q a) f in
          let p = cut_small q (prohibits t q a) in
          let y = cut_small q (requires t q a) in
          let marks : ℕ = cut_marks t q (prohibits t q a) + 256 * cut_marks t q (requires t q a) in
          let code : ℕ = Key.inside_code (target_of t q a) marks in
          rw (f, i, le-ltb code Key.inside_kind (omega arith), parts_high (target_of t q a) marks (omega arith) (omega arith), f)
          (and-false (leb Key.crossing_kind code))

      crossing : leb t.states (target_of t q a) ≡ false → is_inside (system_of t) q a ≡ false → Key.strays t.states (cell_code t q a) ≡ false
      crossing f i =
          let n = table.sizes.most_states in
          let l = leb-false t.states (target_of t q a) f in
          let small = entry_small t (target_of t q a) few l in
          let code : ℕ = Key.crossing_code (entry_key t (target_of t q a)) in
          let back : Key.entered_in code ≡ entry_key t (target_of t q a) = omega arith in
          rw (f, i, lt-ltb code Key.inside_kind (omega arith), back, entry_source (target_of t q a) l, f)
          (and-false (leb Key.crossing_kind code))

  none_strays : any (Key.strays t.states) cells ≡ false
  none_strays =
      fails_at (Key.strays t.states) cells
      (λ p l. let s = cell_split t.letters t.states p table.sizes.some_letters (rw codes.size at l) in ap (λ (z : ℕ). Key.strays t.states (get_or cells z 0)) s.4 ∙ ap (Key.strays t.states) (codes.entry s.0 s.1 s.3 s.2) ∙ code_leads s.0 s.1)

  pub table_fit : (c a b d : ℕ) → are_short c t.letters a b d d ≡ false → is_unfit (task_of t) cells c d a b ≡ false
  unfolding is_unfit
  table_fit c a b d enough =
      let some = table.sizes.some_letters in
      rw
      (ne_eqb t.letters 0 (λ z. omega arith), le-ltb max_letters t.letters table.sizes.most_letters, states_are, entry_source t.start table.start_state, lt-leb t.states t.start table.start_state, none_strays)
      enough
