-- The transitions that codes stand for.
--     IsStep x y    claim: y is the transition of the step x, or none where it is missing
use Rattle.std.specs.Prelude.{◌≡◌, true, false, ℕ, Option, Some, None}
use Rattle.rules.specs.Rows.{Step, missing_priority}
use Rattle.explore.specs.declared.rows.Transition.{Transition}

abbrev pub IsStep : Step ℕ → Option Transition → Type 0
IsStep x (Some y) = (x.there ≡ true) × (y.key ≡ x.to) × (y.priority ≡ x.prio)
IsStep x None = (x.there ≡ false) × (x.prio ≡ missing_priority)
