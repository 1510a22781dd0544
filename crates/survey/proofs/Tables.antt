-- A well-formed table through the calls of this crate.
--     lay_fault_lem, many_cells                  with room for its cells, laying out refuses nothing but the table; and such room for any table
--     LaidTable t n m start ts ms, laid_table    what is laid out of it: its sizes and its start, and its cells in the arrays
--     laid_formed                                where something is laid out, the bytes are a well-formed table
--     surveyed                                   what a survey of them leaves
use mathlib.Core.Path.{◌≡◌, refl, sym, ◌∙◌}
use mathlib.Core.Bool.{Bool, true}
use mathlib.Core.List.{List}
use Prim.Native.Nat.{ℕ, zero, suc, ◌*◌, ◌≤◌}
use native.Mathlib.Omega.{arith}
use lib.ListN.{length}
use borrow.Author.Tests.{le-leb, le-ltb}
use Rattle.rules.specs.Basics.{first_of}
use Rattle.rules.specs.Limits.{max_states, max_letters}
use Rattle.rules.specs.Systems.{component_of}
use Rattle.rules.specs.Tables.{Table, table_of, table_fault, system_of}
use Rattle.rules.proofs.Refusals.{table_facts}
use Rattle.tables.specs.Parts.{WellFormed}
use Rattle.survey.specs.Layouts.{TargetsLaid, MarksLaid, IsTable, counted_pairs, counted_in, HasCells, lay_fault, LaySays, survey_fits, SurveySays}
use Rattle.survey.specs.Parts.{Listed}
use Rattle.survey.proofs.Laying.{targets_laid, marks_laid, laid_homes, laid_counted}
use Rattle.survey.proofs.Surveying.{listed}

-- ---- room for the cells
-- a refusal that is given only with another adds nothing
first_only : (x r : ℕ) → (x ≡ 0 → r ≡ 0) → first_of x r ≡ x
first_only zero r h = h refl
first_only (suc x) r h = refl

module _ (bs : List ℕ) where
  pub lay_fault_lem : (a b : ℕ) → HasCells bs a → HasCells bs b → lay_fault bs a b ≡ table_fault bs
  lay_fault_lem a b la lb =
      let cells = (table_of bs).states * (table_of bs).letters in
      first_only (table_fault bs) _ (λ z. rw (le-ltb a cells (la z), le-ltb b cells (lb z)))

  pub many_cells : HasCells bs (max_states * max_letters)
  many_cells formed = (table_facts bs formed).sizes.most_cells

-- ---- what is laid out, and what is surveyed of it
pub record LaidTable (t : Table) (n m start : ℕ) (ts ms : List ℕ) : Type 0 where
  pub states : n ≡ t.states
  pub letters : m ≡ t.letters
  pub start_state : start ≡ t.start
  pub targets : TargetsLaid t ts
  pub marks : MarksLaid t ms

pub laid_table : {bs ts ts' ms ms' : List ℕ} {number n m start : ℕ} → WellFormed bs → number ≡ 0 → length ts' ≡ length ts → length ms' ≡ length ms
    → HasCells bs (length ts) → HasCells bs (length ms) → LaySays bs ts ts' ms ms' number n m start → LaidTable (table_of bs) n m start ts' ms'
laid_table {bs} {ts} {ts'} {ms} {ms'} formed z kt km lt lm s =
    record {
      states = rw z at s.state_count;
      letters = rw z at s.letter_count;
      start_state = rw z at s.start_state;
      targets = targets_laid bs formed ts ts' (omega (arith, lt formed)) (rw z at s.target_array);
      marks = marks_laid bs formed ms ms' (omega (arith, lm formed)) (rw z at s.mark_array);
    }

-- what is laid out is a well-formed table
pub laid_formed : {bs ts ts' ms ms' : List ℕ} {n m start : ℕ} → HasCells bs (length ts) → HasCells bs (length ms) → LaySays bs ts ts' ms ms' 0 n m start → WellFormed bs
laid_formed {bs} {ts} {ts'} {ms} lt lm s = sym (s.refusal ∙ lay_fault_lem bs (length ts) (length ms) lt lm)

module _ {t : Table} {states letters start : ℕ} {ts ms : List ℕ} (good : IsTable t) (x : LaidTable t states letters start ts ms) where
  abbrev n : ℕ
  n = t.states

  abbrev m : ℕ
  m = t.letters

  -- with an entry for each state a survey fits
  fits : (h c : ℕ) → n ≤ h → n ≤ c → survey_fits n m (length ts) (length ms) h c ≡ true
  fits h c lh lc =
      rw
      (le-leb n max_states good.few_states, le-leb m max_letters good.few_letters, le-leb (n * m) (length ts) x.targets.enough, le-leb (n * m) (length ms) x.marks.enough, le-leb n h lh, le-leb n c lc)

  pub surveyed : {hs hs' cs cs' : List ℕ} {r : Bool} → n ≤ length hs → n ≤ length cs → length hs' ≡ length hs → length cs' ≡ length cs
      → SurveySays states letters ts ms hs hs' cs cs' r → Listed n (component_of (system_of t)) hs' × Listed n (counted_pairs t) cs'
  surveyed {hs} {hs'} {cs} {cs'} lh lc kh kc says =
      let s = rw (x.states, x.letters) at says in
      let e = s.answer ∙ fits (length hs) (length cs) lh lc in
      let sets = listed n (counted_in n m ts ms) cs cs' (omega arith) (rw e at s.counted_array) in
      (laid_homes t good ts x.targets hs hs' (omega arith) (rw e at s.home_array), record { enough = sets.enough; entry = λ q l. sets.entry q l ∙ laid_counted t good ts x.targets ms x.marks q l })
