-- A table laid out in two arrays, one entry for each cell, and what is surveyed of such arrays. A prime marks an array's contents at exit.
--     wide_target x                    number: a target as 16 bits, 65,535 where the transition is missing
--     target_entry t c                 number: the target of cell c as 16 bits
--     mask_entry t c                   number: its marks as one mask, the required byte above the prohibited byte
--     target_cells t, mark_cells t     lists: the same for each cell
--     TargetsLaid t ts                 claim: the array holds the targets of t, by state and letter
--     MarksLaid t ms                   claim: the array holds the masks of t, by state and letter
--     IsTable t                        claim: the sizes of t are in range, its start is a state, and no marks have a bit above its pairs
--     counted_pairs t q                number: the pairs that count in q's component, as bits: bit i - 1 for pair i
--     HasCells bs k                    claim: an array of k entries has room for the cells of the table that the bytes give, if it is well formed
--     lay_fault bs a b                 refusal: the table's, then 7 where an array of a or of b entries is too short for its cells
--     LaySays bs ..                    claim: laying out: both arrays, entries past the cells untouched, and the sizes; on a refusal nothing is
--                                      written and all sizes are 0
--     survey_fits n m ..               test: the sizes are in range, and the arrays have room for the cells and the states
--     required_of m ms p a             number: the pairs that the transition of p by a requires, as bits
--     required_in m ms i p a           test, the one that bit i stands for: the transition of p by a, if it is inside, makes pair i + 1 count
--     counted_in n m ts ms q           number: the pairs that count in q's component, as bits, by the laid-out cells
--     SurveySays n m ..                claim: surveying: both arrays, entries past the states untouched; nothing is written where it does not fit
use Rattle.std.specs.Prelude.{◌≡◌, Bool, ◌&&◌, ◌||◌, List, ℕ, suc, ◌+◌, ◌*◌, ◌/◌, ◌^◌, ◌<◌, ◌≤◌, eqb, leb, ltb, length, get_or}
use Rattle.rules.specs.Basics.{pick, first_of, when, tabulate, bit, as_bits}
use Rattle.rules.specs.Judges.{parity_system}
use Rattle.rules.specs.Limits.{max_states, max_letters, max_pairs, no_state, no_row}
use Rattle.rules.specs.Refusals as Refusal
use Rattle.rules.specs.Systems.{component_of, cell}
use Rattle.rules.specs.Tables.{Table, table_of, table_fault, target_of, prohibited_byte, required_byte, counts}
use Rattle.rules.specs.Says.{over}
use Rattle.components.specs.Visiting.{marks_within}
use Rattle.tables.specs.Parts.{WellFormed}

abbrev pub wide_target : ℕ → ℕ
wide_target x = pick (eqb x no_state) no_row x

abbrev pub target_entry : Table → ℕ → ℕ
target_entry t c = wide_target (get_or t.targets c 0)

abbrev pub mask_entry : Table → ℕ → ℕ
mask_entry t c = get_or t.marks (suc (2 * c)) 0 * 256 + get_or t.marks (2 * c) 0

abbrev pub target_cells : Table → List ℕ
target_cells t = tabulate (t.states * t.letters) 0 (target_entry t)

abbrev pub mark_cells : Table → List ℕ
mark_cells t = tabulate (t.states * t.letters) 0 (mask_entry t)

pub record TargetsLaid (t : Table) (ts : List ℕ) : Type 0 where
  pub enough : t.states * t.letters ≤ length ts
  pub entry : (q a : ℕ) → q < t.states → a < t.letters → get_or ts (cell t.letters q a) 0 ≡ wide_target (target_of t q a)

pub record MarksLaid (t : Table) (ms : List ℕ) : Type 0 where
  pub enough : t.states * t.letters ≤ length ms
  pub entry : (q a : ℕ) → q < t.states → a < t.letters → get_or ms (cell t.letters q a) 0 ≡ required_byte t q a * 256 + prohibited_byte t q a

pub record IsTable (t : Table) : Type 0 where
  pub few_states : t.states ≤ max_states
  pub few_letters : t.letters ≤ max_letters
  pub few_pairs : t.pairs ≤ max_pairs
  pub start_state : t.start < t.states
  pub small_marks : (c : ℕ) → (get_or t.marks (2 * c) 0 < 2 ^ t.pairs) × (get_or t.marks (suc (2 * c)) 0 < 2 ^ t.pairs)

abbrev pub counted_pairs : Table → ℕ → ℕ
counted_pairs t q = as_bits t.pairs (λ i. counts t q (suc i))

-- laying out
abbrev pub HasCells : List ℕ → ℕ → Type 0
HasCells bs k = WellFormed bs → (table_of bs).states * (table_of bs).letters ≤ k

abbrev pub lay_fault : List ℕ → ℕ → ℕ → ℕ
lay_fault bs a b =
    let cells = (table_of bs).states * (table_of bs).letters in
    first_of (table_fault bs) (when (ltb a cells || ltb b cells) Refusal.arrays)

pub record LaySays (bs ts ts' ms ms' : List ℕ) (number states letters start : ℕ) : Type 0 where
  pub refusal : number ≡ lay_fault bs (length ts) (length ms)
  pub state_count : states ≡ pick (eqb number 0) (table_of bs).states 0
  pub letter_count : letters ≡ pick (eqb number 0) (table_of bs).letters 0
  pub start_state : start ≡ pick (eqb number 0) (table_of bs).start 0
  pub target_array : ts' ≡ pick (eqb number 0) (over (target_cells (table_of bs)) ts) ts
  pub mark_array : ms' ≡ pick (eqb number 0) (over (mark_cells (table_of bs)) ms) ms

-- surveying
abbrev pub survey_fits : ℕ → ℕ → ℕ → ℕ → ℕ → ℕ → Bool
survey_fits n m a b c d = leb n max_states && (leb m max_letters && (leb (n * m) a && (leb (n * m) b && (leb n c && leb n d))))

abbrev pub required_of : ℕ → List ℕ → ℕ → ℕ → ℕ
required_of m ms p a = get_or ms (cell m p a) 0 / 256

abbrev pub required_in : ℕ → List ℕ → ℕ → ℕ → ℕ → Bool
required_in m ms i p a = bit i (required_of m ms p a)

abbrev pub counted_in : ℕ → ℕ → List ℕ → List ℕ → ℕ → ℕ
counted_in n m ts ms = marks_within (parity_system n m ts) (required_of m ms)

pub record SurveySays (n m : ℕ) (ts ms hs hs' cs cs' : List ℕ) (r : Bool) : Type 0 where
  pub answer : r ≡ survey_fits n m (length ts) (length ms) (length hs) (length cs)
  pub home_array : hs' ≡ pick r (over (tabulate n 0 (component_of (parity_system n m ts))) hs) hs
  pub counted_array : cs' ≡ pick r (over (tabulate n 0 (counted_in n m ts ms)) cs) cs
