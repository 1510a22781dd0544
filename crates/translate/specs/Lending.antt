-- The lent arrays of a parity table.
--     arrays_in x      what the arrays hold
--     SameLent x x'    claim: they are the same arrays, and there may be as many rows
use Rattle.std.specs.Prelude.{◌≡◌}
use Rattle.rules.specs.Says.{RowArrays, row_arrays}
use Rattle.translate.specs.declared.lent.Lent.{Lent}

abbrev pub arrays_in : Lent → RowArrays
arrays_in x = row_arrays x.targets.now x.priorities.now x.sources.now x.records.now

pub record SameLent (x x' : Lent) : Type 0 where
  pub capacity : x'.capacity ≡ x.capacity
  pub targets : x'.targets.ghost_name ≡ x.targets.ghost_name
  pub priorities : x'.priorities.ghost_name ≡ x.priorities.ghost_name
  pub sources : x'.sources.ghost_name ≡ x.sources.ghost_name
  pub records : x'.records.ghost_name ≡ x.records.ghost_name
