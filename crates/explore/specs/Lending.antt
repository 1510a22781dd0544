-- The lent arrays of an exploration.
--     lent_in r         what the arrays hold
--     SameLent r r'     claim: they are the same arrays, and there may be as many rows
use Rattle.std.specs.Prelude.{◌≡◌}
use Rattle.explore.specs.declared.rows.Rows.{Rows}
use Rattle.explore.specs.Exploring.{Lent, lent}

abbrev pub lent_in : Rows → Lent
lent_in r = lent r.keys.now r.targets.now r.priorities.now

pub record SameLent (r r' : Rows) : Type 0 where
  pub capacity : r'.capacity ≡ r.capacity
  pub keys : r'.keys.ghost_name ≡ r.keys.ghost_name
  pub targets : r'.targets.ghost_name ≡ r.targets.ghost_name
  pub priorities : r'.priorities.ghost_name ≡ r.priorities.ghost_name
