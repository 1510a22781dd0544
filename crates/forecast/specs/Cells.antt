-- The cells of a table in its bytes: the targets, and two by two the marks.
--     system_at n m ts      system: n states and m letters, with the targets ts
--     required_at m ms      function: the byte of the pairs that a transition is required by, from the marks ms
--     CellsRoom n m a b     claim: there are so few cells that their numbers fit, and a targets and b marks are enough for them
use Rattle.std.specs.Prelude.{List, ℕ, suc, ◌*◌, ◌≤◌, get_or}
use Rattle.rules.specs.Limits.{max_states, max_letters}
use Rattle.rules.specs.Systems.{System, cell}

abbrev pub system_at : ℕ → ℕ → List ℕ → System
system_at n m ts = record { states = n; letters = m; go = λ q a. get_or ts (cell m q a) n }

abbrev pub required_at : ℕ → List ℕ → ℕ → ℕ → ℕ
required_at m ms q a = get_or ms (suc (2 * cell m q a)) 0

pub record CellsRoom (n m a b : ℕ) : Type 0 where
  pub few : n * m ≤ max_states * max_letters
  pub targets : n * m ≤ a
  pub marks : 2 * (n * m) ≤ b
