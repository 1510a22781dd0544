-- The exploration: what a task must have, which rows are known, which cells are read, and what is promised.
--     states_in m cells                      number: the states that the cells are for
--     is_unfit t cells c k a b               test: the letters or the capacity are out of range, the start or a code leads outside the cells, or
--                                            one of the arrays, for k keys, a targets and b priorities, is too short
--     Fits m cells v                         claim: the cells of the key's state are among the cells
--     Closed t cells                         claim: the letters are in range, and the start and every code lead to keys that fit
--     RowRoom m c ts ps keys                 claim: the capacity c is in range, and the lent arrays have room for as many rows
--     LinkRoom c k l                         claim: a number below both c and k is below l
--     Lent, lent keys ts ps                  record of three arrays, the keys, targets and priorities of rows: o before, o' after
--     StepRead x c n p o o' r                claim: cell p, whose step is x, is read, and r keys are known, where n were; there is no plan here
--     CellRead x c n p o o' .. y             claim: the same where y gives how many are known, at most c, or none where there is no room for one more
--     Known rule t cells c n p o             claim: n keys are filed, and the cells below p are read
--     RowSays rule t cells c n i o o' r      claim: row i has been read by all letters, and r rows are known, where n were, or more than c
--     RowRead rule t cells c n i o o' .. y   claim: the same where y gives how many are known, at most c, or none where there are more
--     Stage rule t cells c i n o             claim: the rows below i are read, n are known, and the exploration goes on, whatever the capacity
--     RowsPart rule t cells c i o o' r       claim: what reading the rows below i leaves, r being known: a stage, or more than c
--     RowsSay rule t cells n l c i o o' r    claim: the same from n known rows on, where all rows are read or more than l are known
--     ExploresAll rule t cells c o o' r      claim: all r rows have been read, or more than c were found
--     RowsRead rule t cells n l c o o' y     claim: as RowsSay, where y gives how far rows are read, or none where there are more than c rows
--     AllRead rule t cells c o o' y          claim: as ExploresAll, where y gives how many rows there are, or none where there are more than c
--     explored_of rule t cells c k a b       the answer of an exploration
--     Leaves x rule t cells c o o'           claim: what the arrays hold after the answer x: the rows, later entries untouched; after Full the first
--                                            c rows of each are unspecified; after Unfit all is untouched
--     refusal_for u                          number: that of the refusal where there is no answer
--     ExploreSays rule t cells c o o' x      claim: an exploration gives the answer x and leaves the arrays so
use Rattle.std.specs.Prelude.{◌≡◌, Bool, false, ◌||◌, List, ℕ, suc, ◌-◌, ◌*◌, ◌/◌, ◌<◌, ◌≤◌, eqb, ltb, leb, true, length, get_or, set, take, Option, Some, None, Result, Ok, Err}
use Rattle.rules.specs.Basics.{pick, any}
use Rattle.rules.specs.Refusals as Refusal
use Rattle.rules.specs.Limits.{max_letters, max_rows, no_row}
use Rattle.rules.specs.Rows.{Step, CellsRead, found_by, found_from, rows_of, is_full, all_targets, all_priorities}
use Rattle.rules.specs.Says.{are_short, over}
use Rattle.explore.specs.declared.Task.{Task}
use Rattle.explore.specs.declared.Unexplored.{Unexplored}
use Rattle.explore.specs.declared.Unexplored.TheVariants.{Full, Unfit}
use Rattle.explore.specs.declared.rows.Progress.{Progress}
use Rattle.rules.specs.Arrays.{Beyond}
use Rattle.explore.specs.Index.{Linked, number_among}
use Rattle.explore.specs.Filing.{Filed, rows_after, NoRoom}
use Rattle.explore.specs.Cells.{source_in, strays}
use Rattle.explore.specs.Effects.{key_plan}

-- ---- what can be explored
abbrev pub states_in : ℕ → List ℕ → ℕ
states_in m cells = length cells / m

unfoldable pub is_unfit : Task → List ℕ → ℕ → ℕ → ℕ → ℕ → Bool
is_unfit t cells c k a b =
    eqb t.letters 0
    || (ltb max_letters t.letters || ((leb (states_in t.letters cells) (source_in t.start) || any (strays (states_in t.letters cells)) cells) || are_short c t.letters a b k k))

abbrev pub Fits : ℕ → List ℕ → ℕ → Type 0
Fits m cells v = source_in v < states_in m cells

pub record Closed (t : Task) (cells : List ℕ) : Type 0 where
  pub some_letters : 0 < t.letters
  pub most_letters : t.letters ≤ max_letters
  pub start : Fits t.letters cells t.start
  pub leads : (p : ℕ) → p < length cells → strays (states_in t.letters cells) (get_or cells p 0) ≡ false

pub record RowRoom (m c : ℕ) (ts ps keys : List ℕ) : Type 0 where
  pub some_rows : 1 ≤ c
  pub most_rows : c ≤ max_rows
  pub target_room : c * m ≤ length ts
  pub priority_room : c * m ≤ length ps
  pub key_room : c ≤ length keys

abbrev pub LinkRoom : ℕ → ℕ → ℕ → Type 0
LinkRoom c k l = (x : ℕ) → x < c → x < k → x < l

-- ---- the lent arrays
pub record Lent : Type 0 where
  pub keys : List ℕ
  pub targets : List ℕ
  pub priorities : List ℕ

abbrev pub lent : List ℕ → List ℕ → List ℕ → Lent
lent ks ts ps = record { keys = ks; targets = ts; priorities = ps }

-- ---- cells and rows that are read
pub record StepRead (x : Step ℕ) (c n p : ℕ) (o o' : Lent) (r : ℕ) : Type 0 where
  pub count : r ≡ pick x.there (rows_after n (number_among x.to n o.keys)) n
  pub filed : r ≤ c → Filed c r o'.keys
  pub key_array : r ≤ c → o'.keys ≡ pick x.there (pick (eqb (number_among x.to n o.keys) n) (set o.keys n x.to) o.keys) o.keys
  pub target_array : o'.targets ≡ set o.targets p (pick x.there (number_among x.to n o.keys) no_row)
  pub priority_array : o'.priorities ≡ set o.priorities p x.prio
  pub key_rest : Beyond c o.keys o'.keys

abbrev pub CellRead : Step ℕ → ℕ → ℕ → ℕ → Lent → Lent → List ℕ → List ℕ → Option ℕ → Type 0
CellRead x c n p o o' heads' links' (Some r) = StepRead x c n p o o' r × (r ≤ c) × Linked r o'.keys heads' links'
CellRead x c n p o o' heads' links' None = (x.there ≡ true) × NoRoom c x.to n o.keys × (o' ≡ o)

pub record Known (rule : ℕ → ℕ → ℕ) (t : Task) (cells : List ℕ) (c n p : ℕ) (o : Lent) : Type 0 where
  pub filed : Filed c n o.keys
  pub fits : (i : ℕ) → i < n → Fits t.letters cells (get_or o.keys i 0)
  pub read : CellsRead (key_plan rule t cells) no_row (take n o.keys) p o.targets o.priorities
  pub target_room : c * t.letters ≤ length o.targets
  pub priority_room : c * t.letters ≤ length o.priorities

pub record RowSays (rule : ℕ → ℕ → ℕ) (t : Task) (cells : List ℕ) (c n i : ℕ) (o o' : Lent) (r : ℕ) : Type 0 where
  pub known : r ≤ c → Known rule t cells c r (suc i * t.letters) o'
  pub rows : r ≤ c → take r o'.keys ≡ found_by t.letters 0 (key_plan rule t cells) (get_or o.keys i 0) (take n o.keys)
  pub over : c < r → c < length (found_by t.letters 0 (key_plan rule t cells) (get_or o.keys i 0) (take n o.keys))
  pub longer : n ≤ r
  pub key_rest : Beyond c o.keys o'.keys
  pub new_rest : r ≤ c → Beyond r o.keys o'.keys
  pub target_rest : Beyond (suc i * t.letters) o.targets o'.targets
  pub priority_rest : Beyond (suc i * t.letters) o.priorities o'.priorities

abbrev pub RowRead : (ℕ → ℕ → ℕ) → Task → List ℕ → ℕ → ℕ → ℕ → Lent → Lent → List ℕ → List ℕ → Option ℕ → Type 0
RowRead rule t cells c n i o o' heads' links' (Some r) = RowSays rule t cells c n i o o' r × (r ≤ c) × Linked r o'.keys heads' links'
RowRead rule t cells c n i o o' heads' links' None = RowSays rule t cells c n i o o' (suc c)

-- ---- stages of the exploration
pub record Stage (rule : ℕ → ℕ → ℕ) (t : Task) (cells : List ℕ) (c i n : ℕ) (o : Lent) : Type 0 where
  pub within : i ≤ n
  pub known : Known rule t cells c n (i * t.letters) o
  pub goes_on : (d : ℕ) → n ≤ d → rows_of (key_plan rule t cells) d ≡ found_from (suc d - i) i (key_plan rule t cells) d (take n o.keys)

pub record RowsPart (rule : ℕ → ℕ → ℕ) (t : Task) (cells : List ℕ) (c i : ℕ) (o o' : Lent) (r : ℕ) : Type 0 where
  pub few : i ≤ c
  pub stage : r ≤ c → Stage rule t cells c i r o'
  pub over : c < r → c < length (rows_of (key_plan rule t cells) c)
  pub key_rest : Beyond c o.keys o'.keys
  pub new_rest : r ≤ c → Beyond r o.keys o'.keys
  pub target_rest : Beyond (i * t.letters) o.targets o'.targets
  pub priority_rest : Beyond (i * t.letters) o.priorities o'.priorities

pub record RowsSay (rule : ℕ → ℕ → ℕ) (t : Task) (cells : List ℕ) (n l c i : ℕ) (o o' : Lent) (r : ℕ) : Type 0 where
  pub part : RowsPart rule t cells c i o o' r
  pub longer : n ≤ r
  pub ended : i < r → r ≤ l → r ≤ c → ⊥

pub record ExploresAll (rule : ℕ → ℕ → ℕ) (t : Task) (cells : List ℕ) (c : ℕ) (o o' : Lent) (r : ℕ) : Type 0 where
  pub full : ltb c r ≡ is_full (key_plan rule t cells) c
  pub rows : r ≤ c → take r o'.keys ≡ rows_of (key_plan rule t cells) c
  pub read : r ≤ c → CellsRead (key_plan rule t cells) no_row (rows_of (key_plan rule t cells) c) (r * t.letters) o'.targets o'.priorities
  pub key_rest : Beyond c o.keys o'.keys
  pub target_rest : Beyond (c * t.letters) o.targets o'.targets
  pub priority_rest : Beyond (c * t.letters) o.priorities o'.priorities
  pub new_keys : r ≤ c → Beyond r o.keys o'.keys
  pub new_targets : r ≤ c → Beyond (r * t.letters) o.targets o'.targets
  pub new_priorities : r ≤ c → Beyond (r * t.letters) o.priorities o'.priorities

abbrev pub RowsRead : (ℕ → ℕ → ℕ) → Task → List ℕ → ℕ → ℕ → ℕ → Lent → Lent → Option Progress → Type 0
RowsRead rule t cells n l c o o' (Some p) = RowsSay rule t cells n l c p.row o o' p.known × (p.known ≤ c)
RowsRead rule t cells n l c o o' None = ExploresAll rule t cells c o o' (suc c)

abbrev pub AllRead : (ℕ → ℕ → ℕ) → Task → List ℕ → ℕ → Lent → Lent → Option ℕ → Type 0
AllRead rule t cells c o o' (Some r) = ExploresAll rule t cells c o o' r × (r ≤ c)
AllRead rule t cells c o o' None = ExploresAll rule t cells c o o' (suc c)

-- ---- the promise
abbrev pub explored_of : (ℕ → ℕ → ℕ) → Task → List ℕ → ℕ → ℕ → ℕ → ℕ → Result ℕ Unexplored
explored_of rule t cells c k a b =
    pick (is_unfit t cells c k a b) (Err Unfit) (pick (is_full (key_plan rule t cells) c) (Err Full) (Ok (length (rows_of (key_plan rule t cells) c))))

abbrev pub Leaves : Result ℕ Unexplored → (ℕ → ℕ → ℕ) → Task → List ℕ → ℕ → Lent → Lent → Type 0
Leaves (Ok n) rule t cells c o o' =
    let g = key_plan rule t cells in
    let rs = rows_of g c in
    (o'.keys ≡ over rs o.keys) × (o'.targets ≡ over (all_targets g no_row rs) o.targets) × (o'.priorities ≡ over (all_priorities g rs) o.priorities)
Leaves (Err Full) rule t cells c o o' = Beyond c o.keys o'.keys × Beyond (c * t.letters) o.targets o'.targets × Beyond (c * t.letters) o.priorities o'.priorities
Leaves (Err Unfit) rule t cells c o o' = (o'.keys ≡ o.keys) × (o'.targets ≡ o.targets) × (o'.priorities ≡ o.priorities)

abbrev pub refusal_for : Unexplored → ℕ
refusal_for Full = Refusal.full
refusal_for Unfit = Refusal.arrays

pub record ExploreSays (rule : ℕ → ℕ → ℕ) (t : Task) (cells : List ℕ) (c : ℕ) (o o' : Lent) (x : Result ℕ Unexplored) : Type 0 where
  pub answer : x ≡ explored_of rule t cells c (length o.keys) (length o.targets) (length o.priorities)
  pub arrays : Leaves x rule t cells c o o'
