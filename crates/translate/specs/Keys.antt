-- Rows of a table's translation as keys: the memory is the record's code.
--     row_key r      the key of a row
--     key_row v      the row that a key stands for
--     number_in v    its record's number
--     IsRow t r      claim: r can be in the translation of t: a state, with an ordering of the pairs that count in its component
--     IsKey t v      claim: v is the key of such a row
use Rattle.std.specs.Prelude.{◌≡◌, List, ℕ, ◌<◌, ◌≤◌, length}
use Rattle.rules.specs.Limits.{max_pairs}
use Rattle.rules.specs.Records.{decimal}
use Rattle.rules.specs.Rows.{Row, row}
use Rattle.rules.specs.Tables.{Table, IsOrdering}
use Rattle.records.specs.Packed.{packed, pairs_in}
use Rattle.explore.specs.Cells.{key_of, source_in, memory_in}

abbrev pub row_key : Row (List ℕ) → ℕ
row_key r = key_of r.source (packed r.memory)

abbrev pub key_row : ℕ → Row (List ℕ)
key_row v = row (source_in v) (pairs_in (memory_in v))

abbrev pub number_in : ℕ → ℕ
number_in v = decimal (pairs_in (memory_in v))

pub record IsRow (t : Table) (r : Row (List ℕ)) : Type 0 where
  pub state : r.source < t.states
  pub ordering : IsOrdering t r.source r.memory
  pub few : length r.memory ≤ max_pairs

pub record IsKey (t : Table) (v : ℕ) : Type 0 where
  pub is_row : IsRow t (key_row v)
  pub exact : row_key (key_row v) ≡ v
