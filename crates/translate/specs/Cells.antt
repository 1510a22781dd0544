-- A table as a task for the exploration: its letters and start, and a code for each cell.
--     cut_marks t q b                                number: the pairs that pass b and count in q's component, as bits: bit i - 1 for pair i
--     entry_key t q                                  the key of the row by which a crossing enters at q
--     cell_code t q a                                the code of the transition of q by a
--     task_of t                                      the task that is explored
--     code_of n x w h k hs e                         the code of a transition with target x and mask w, where h is the home of its state and k the pairs that count
--                                                    there, by the homes hs of all states and the keys e at which they are entered
--     rising_key q k                                 the key of the row at q with the pairs of the set k, rising
--     code_in n m .. q a                             the code of the transition of q by a, by the laid-out cells
--     CodesRoom n m ..                               claim: the sizes are in range, and the arrays have an entry for each cell or each state
--     Written n m f cells                            claim: the cells hold what f says of their state and letter
--     TableCodes t cells                             claim: the codes of all cells, and nothing after them
--     few_cells                                      the cells for which small arrays are enough
--     CellsEncoded n m start ts ms cells first       claim: the laid-out cells are surveyed, the codes are written by what that gives, and
--                                                    `first` is the key at which the start is entered
use Rattle.std.specs.Prelude.{◌≡◌, Bool, ◌&&◌, List, ℕ, suc, ◌+◌, ◌*◌, ◌/◌, ◌%◌, ◌<◌, ◌≤◌, eqb, leb, length, get_or}
use Rattle.std.specs.Int.Bits.{bit_and}
use Rattle.rules.specs.Basics.{pick, keep, tabulate, as_bits}
use Rattle.rules.specs.Judges.{parity_system}
use Rattle.rules.specs.Limits.{max_states, max_letters}
use Rattle.rules.specs.Systems.{is_inside, component_of, cell}
use Rattle.rules.specs.Rows.{row}
use Rattle.rules.specs.Tables.{Table, system_of, target_of, prohibits, requires, counts, rising}
use Rattle.records.specs.Packed.{limit, is_marked, packed}
use Rattle.survey.specs.Layouts.{counted_in}
use Rattle.survey.specs.Parts.{Listed}
use Rattle.explore.specs.declared.Task.{Task}
use Rattle.explore.specs.Cells.{key_of, crossing_code, inside_code}
use Rattle.translate.specs.Keys.{row_key}

abbrev pub cut_marks : Table → ℕ → (ℕ → Bool) → ℕ
cut_marks t q b = as_bits t.pairs (λ i. b (suc i) && counts t q (suc i))

abbrev pub entry_key : Table → ℕ → ℕ
entry_key t q = row_key (row q (rising t q))

unfoldable pub cell_code : Table → ℕ → ℕ → ℕ
cell_code t q a =
    pick (leb t.states (target_of t q a)) 0
    (pick (is_inside (system_of t) q a) (inside_code (target_of t q a) (cut_marks t q (prohibits t q a) + 256 * cut_marks t q (requires t q a))) (crossing_code (entry_key t (target_of t q a))))

abbrev pub task_of : Table → Task
task_of t = record { letters = t.letters; start = entry_key t t.start }

-- codes by the laid-out cells
abbrev pub code_of : ℕ → ℕ → ℕ → ℕ → ℕ → List ℕ → (ℕ → ℕ) → ℕ
code_of n x w h k hs e =
    pick (leb n x) 0 (pick (eqb (get_or hs x 0) h) (inside_code x (bit_and (w % 256) k + 256 * bit_and (w / 256) k)) (crossing_code (e x)))

abbrev pub rising_key : ℕ → ℕ → ℕ
rising_key q k = key_of q (packed (keep (is_marked k) (tabulate limit 1 (λ i. i))))

abbrev pub code_in : ℕ → ℕ → List ℕ → List ℕ → List ℕ → List ℕ → ℕ → ℕ → ℕ
code_in n m ts ms hs cs q a =
    code_of n (get_or ts (cell m q a) 0) (get_or ms (cell m q a) 0) (get_or hs q 0) (get_or cs q 0) hs (λ x. rising_key x (get_or cs x 0))

pub record CodesRoom (n m : ℕ) (ts ms hs cs : List ℕ) : Type 0 where
  pub few_states : n ≤ max_states
  pub few_letters : m ≤ max_letters
  pub target_room : n * m ≤ length ts
  pub mark_room : n * m ≤ length ms
  pub home_room : n ≤ length hs
  pub set_room : n ≤ length cs

pub record Written (n m : ℕ) (f : ℕ → ℕ → ℕ) (cells : List ℕ) : Type 0 where
  pub enough : n * m ≤ length cells
  pub entry : (q a : ℕ) → q < n → a < m → get_or cells (cell m q a) 0 ≡ f q a

pub record TableCodes (t : Table) (cells : List ℕ) : Type 0 where
  pub size : length cells ≡ t.states * t.letters
  pub entry : (q a : ℕ) → q < t.states → a < t.letters → get_or cells (cell t.letters q a) 0 ≡ cell_code t q a

abbrev pub few_cells : ℕ
few_cells = 64

pub record CellsEncoded (n m start : ℕ) (ts ms cells : List ℕ) (first : ℕ) : Type 0 where
  pub homes : List ℕ
  pub sets : List ℕ
  pub home_array : Listed n (component_of (parity_system n m ts)) homes
  pub set_array : Listed n (counted_in n m ts ms) sets
  pub codes : Written n m (code_in n m ts ms homes sets) cells
  pub first_key : first ≡ rising_key start (get_or sets start 0)
