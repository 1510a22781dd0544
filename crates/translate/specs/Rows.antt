-- What the caller is told of the rows.
--     Unpacked n ..        claim: n rows are unpacked: the state of each in one array, the number of its record in place of its key
--     RowsLeft m n c ..    claim: the same, and the rows from number n up to c are 0 in all four arrays
--     refusal_of x         the refusal for an exploration's answer
--     rows_kept x          number: how many rows are kept, none if there are more than the capacity
use Rattle.std.specs.Prelude.{◌≡◌, List, ℕ, ◌*◌, ◌<◌, get_or, Result, Ok, Err}
use Rattle.explore.specs.declared.Unexplored.{Unexplored}
use Rattle.rules.specs.Arrays.{Beyond, Cleared}
use Rattle.explore.specs.Cells.{source_in}
use Rattle.explore.specs.Exploring.{refusal_for}
use Rattle.translate.specs.Keys.{number_in}

pub record Unpacked (n : ℕ) (keys keys' ss ss' : List ℕ) : Type 0 where
  pub states : (i : ℕ) → i < n → get_or ss' i 0 ≡ source_in (get_or keys i 0)
  pub numbers : (i : ℕ) → i < n → get_or keys' i 0 ≡ number_in (get_or keys i 0)
  pub state_rest : Beyond n ss ss'
  pub key_rest : Beyond n keys keys'

pub record RowsLeft (m n c : ℕ) (ts ts' ps ps' ss ss' es es' : List ℕ) : Type 0 where
  pub states : List ℕ
  pub numbers : List ℕ
  pub unpacked : Unpacked n es numbers ss states
  pub target_array : Cleared (n * m) (c * m) ts ts'
  pub priority_array : Cleared (n * m) (c * m) ps ps'
  pub source_array : Cleared n c states ss'
  pub number_array : Cleared n c numbers es'

abbrev pub refusal_of : Result ℕ Unexplored → ℕ
refusal_of (Ok n) = 0
refusal_of (Err u) = refusal_for u

abbrev pub rows_kept : Result ℕ Unexplored → ℕ
rows_kept (Ok n) = n
rows_kept (Err _) = 0
