-- A table that passes its check.
--     WellFormed bs    claim: the bytes are a table that passes its check
--     system_in bs     system: its transitions
use Rattle.std.specs.Prelude.{◌≡◌, List, ℕ}
use Rattle.rules.specs.Systems.{System}
use Rattle.rules.specs.Tables.{table_of, table_fault, system_of}

abbrev pub WellFormed : List ℕ → Type 0
WellFormed bs = table_fault bs ≡ 0

abbrev pub system_in : List ℕ → System
system_in bs = system_of (table_of bs)
