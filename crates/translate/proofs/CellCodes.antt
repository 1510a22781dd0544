-- The codes of cells, from a table that is laid out and what was surveyed of it.
--     few_cells_lem               there is room for its cells in small arrays for a table of few bytes
--     written_more                one cell more is written
--     rising_marked               the rising pairs of a state, from the set of the pairs that count
--     first_key                   the key of the first row
--     code_laid, codes_written    the code that the laid-out cells give a transition is the table's, and so are those of all cells
use mathlib.Core.Path.{◌≡◌, refl, ap, ◌∙◌}
use mathlib.Core.Bool.{Bool, true, false, ◌&&◌}
use mathlib.Core.List.{List}
use Prim.Native.Nat.{ℕ, zero, suc, ◌+◌, ◌-◌, ◌*◌, ◌/◌, ◌%◌, ◌^◌, ◌≤◌, ◌<◌}
use native.Mathlib.Nat.{lt_of_lt_of_le, not-suc-le-zero}
use native.Mathlib.Omega.{arith}
use lib.Bits.{bit_and, and_lt}
use lib.Dec.{eqb, leb}
use lib.ListN.{length, get_or, set, take}
use lib.Pow.{pow_mono}
use lib.Seq.{get_or-set_same, get_or-set_other, get_or-take, length-take-le}
use borrow.Author.Tests.{eqb-true, eqb-false, ne_eqb, le-leb, leb-false, lt-ltb}
use Rattle.rules.specs.Basics.{keep, tabulate, bit, as_bits}
use Rattle.rules.specs.Limits.{max_pairs, no_state, no_row}
use Rattle.rules.specs.Systems.{is_inside, component_of, cell}
use Rattle.rules.specs.Tables.{Table, system_of, target_of, prohibited_byte, required_byte, prohibits, requires, counts, rising}
use Rattle.rules.proofs.Arrays.{cell_same, cell_within}
use Rattle.rules.proofs.Bits.{bit_and_lem, bit_over, as_bits_below, as_bits_at, bits_are}
use Rattle.rules.proofs.Bools.{by}
use Rattle.rules.proofs.Refusals.{table_facts}
use Rattle.records.specs.Packed.{limit, is_marked}
use Rattle.survey.specs.Layouts.{wide_target, IsTable, counted_pairs, HasCells}
use Rattle.survey.specs.Parts.{Listed}
use Rattle.survey.proofs.Surveying.{home_inside}
use Rattle.survey.proofs.Tables.{LaidTable}
use Rattle.translate.specs.Cells.{cut_marks, entry_key, cell_code, code_in, rising_key, Written, TableCodes, few_cells}

-- a table of few bytes has few cells
pub few_cells_lem : (bs : List ℕ) → length bs ≤ 196 → HasCells bs few_cells
few_cells_lem bs l formed = let e = (table_facts bs formed).exact in omega arith

-- cells written in their order, one more
pub written_more : (f : ℕ → ℕ → ℕ) (m q a v : ℕ) (xs : List ℕ) → a < m → q * m + a < length xs → v ≡ f q a → ((p b : ℕ) → b < m → cell m p b < q * m + a → get_or xs (cell m p b) 0 ≡ f p b)
    → (p b : ℕ) → b < m → cell m p b < q * m + (a + 1) → get_or (set xs (q * m + a) v) (cell m p b) 0 ≡ f p b
written_more f m q a v xs la room here before p b lb l =
    by
    (eqb (cell m p b) (q * m + a))
    (λ e. let same = cell_same m p q b a lb la (eqb-true _ _ e) in rw (same.0, same.1) (get_or-set_same xs (q * m + a) v 0 room ∙ here))
    (λ e. let other = eqb-false (cell m p b) (q * m + a) e in get_or-set_other xs (q * m + a) (cell m p b) v 0 other ∙ before p b lb (omega (arith, other)))

-- marks as bits, cut to the pairs that count
cut_by_bits : (t : Table) (q marks : ℕ) (b : ℕ → Bool) → marks < 2 ^ t.pairs → ((i : ℕ) → bit i marks ≡ b (suc i))
    → bit_and marks (counted_pairs t q) ≡ cut_marks t q b
cut_by_bits t q marks b l h =
    bits_are t.pairs (bit_and marks (counted_pairs t q)) (λ i. b (suc i) && counts t q (suc i))
    (and_lt t.pairs marks (counted_pairs t q) l (as_bits_below (λ i. counts t q (suc i)) t.pairs))
    (λ j lj. bit_and_lem j marks (counted_pairs t q) ∙ rw (h j, as_bits_at (λ i. counts t q (suc i)) t.pairs j lj))

-- ---- rising pairs
-- two tests that agree on the first k of n numbers, of which the first fails on all others
kept_within : (b c : ℕ → Bool) (n k i : ℕ) → k ≤ n → ((j : ℕ) → i ≤ j → j < i + k → b j ≡ c j) → ((j : ℕ) → i + k ≤ j → b j ≡ false)
    → keep b (tabulate n i (λ j. j)) ≡ keep c (tabulate k i (λ j. j))
kept_within b c zero zero i l same none = refl
kept_within b c zero (suc k) i l same none = absurd (not-suc-le-zero l)
kept_within b c (suc n) zero i l same none =
    rw (none i (omega arith)) (kept_within b c n zero (suc i) (omega arith) (λ j h u. absurd (omega arith)) (λ j h. none j (omega arith)))
kept_within b c (suc n) (suc k) i l same none =
    rw
    (same i (omega arith) (omega arith), kept_within b c n k (suc i) (omega arith) (λ j h u. same j (omega arith) (omega arith)) (λ j h. none j (omega arith)))

pub rising_marked : (t : Table) (q : ℕ) → t.pairs ≤ max_pairs → keep (is_marked (counted_pairs t q)) (tabulate limit 1 (λ i. i)) ≡ rising t q
rising_marked t q few = kept_within (is_marked set_of) (counts t q) limit t.pairs 1 few counted over
  where
    test : ℕ → Bool
    test i = counts t q (suc i)

    set_of : ℕ
    set_of = as_bits t.pairs test

    counted : (j : ℕ) → 1 ≤ j → j < 1 + t.pairs → is_marked set_of j ≡ counts t q j
    counted j l h =
        let e : suc (j - 1) ≡ j = omega arith in
        rw (ne_eqb j 0 (λ z. omega arith)) (as_bits_at test t.pairs (j - 1) (omega arith) ∙ ap (counts t q) e)

    over : (j : ℕ) → 1 + t.pairs ≤ j → is_marked set_of j ≡ false
    over j h =
        rw (ne_eqb j 0 (λ z. omega arith))
        (bit_over (j - 1) set_of (lt_of_lt_of_le (as_bits_below test t.pairs) (pow_mono {i = t.pairs} {j = j - 1} (omega arith))))

-- ---- what was surveyed, and the codes
wide_missing : (n x : ℕ) → n ≤ 64 → leb n x ≡ true → leb n (wide_target x) ≡ true
wide_missing n x few h = by (eqb x no_state) (λ e. rw e (le-leb n no_row (omega arith))) (λ e. rw e h)

wide_there : (n x : ℕ) → n ≤ 64 → x < n → wide_target x ≡ x
wide_there n x few l = rw (ne_eqb x no_state (λ z. omega arith))

module _ {t : Table} {states letters start : ℕ} {ts ms : List ℕ} (good : IsTable t) (x : LaidTable t states letters start ts ms) where
  abbrev n : ℕ
  n = t.states

  abbrev m : ℕ
  m = t.letters

  module _ {hs cs : List ℕ} (hl : Listed n (component_of (system_of t)) hs) (cl : Listed n (counted_pairs t) cs) where
    key_is : (q : ℕ) → q < n → rising_key q (get_or cs q 0) ≡ entry_key t q
    key_is q l = rw (cl.entry q l, rising_marked t q good.few_pairs)

    pub first_key : rising_key start (get_or cs start 0) ≡ entry_key t t.start
    first_key = rw x.start_state (key_is t.start good.start_state)

    pub code_laid : (q a : ℕ) → q < n → a < m → code_in n m ts ms hs cs q a ≡ cell_code t q a
    unfolding cell_code
    code_laid q a l r =
        by (leb n end) (λ f. rw (x.targets.entry q a l r, wide_missing n end good.few_states f, f)) (λ f. there f (leb-false n end f))
      where
        end : ℕ
        end = target_of t q a

        p : ℕ
        p = prohibited_byte t q a

        u : ℕ
        u = required_byte t q a

        small : (p < 2 ^ t.pairs) × (u < 2 ^ t.pairs)
        small = good.small_marks (cell m q a)

        byte : p < 256
        byte = lt_of_lt_of_le small.0 (pow_mono {i = t.pairs} {j = 8} (omega (arith, good.few_pairs)))

        parts : (get_or ms (cell m q a) 0 % 256 ≡ p) × (get_or ms (cell m q a) 0 / 256 ≡ u)
        parts = rw (x.marks.entry q a l r) (omega (arith, byte), omega (arith, byte))

        same : (i : ℕ) → suc i - 1 ≡ i
        same i = omega arith

        there : leb n end ≡ false → end < n → code_in n m ts ms hs cs q a ≡ cell_code t q a
        there f lx =
            let inside : eqb (get_or hs end 0) (get_or hs q 0) ≡ is_inside (system_of t) q a = (rw (lt-ltb end n lx) at (home_inside (system_of t) hs hl q a l)) in
            let cut-p = cut_by_bits t q p (prohibits t q a) small.0 (λ i. rw (same i)) in
            let cut-u = cut_by_bits t q u (requires t q a) small.1 (λ i. rw (same i)) in
            rw (x.targets.entry q a l r, wide_there n end good.few_states lx, f, inside, parts.0, parts.1, cl.entry q l, cut-p, cut-u, key_is end lx)

    pub codes_written : (cells : List ℕ) → Written states letters (code_in states letters ts ms hs cs) cells
        → (states * letters ≤ length cells) × TableCodes t (take (states * letters) cells)
    codes_written cells written =
        let w = rw (x.states, x.letters) at written in
        rw (x.states, x.letters)
        (w.enough, record { size = length-take-le (n * m) cells w.enough; entry = λ q a l r. get_or-take (n * m) cells (cell m q a) 0 (cell_within n m q a l r) ∙ w.entry q a l r ∙ code_laid q a l r })
