-- `tables::check::bad_targets` meets its contract. The invariant: some target is wrong exactly if `bad` says so or one still to come is.
use Rattle.std.proofs.Common.{◌≡◌, ◌||◌, drop}
use Rattle.rules.specs.Limits.{no_state}
use Rattle.rules.specs.Tables.{bad_targets}
use Rattle.tables.proofs.check.bad_targets.Given as goal

abbrev pub invariant-loop-target : goal.invariant-loop-target
invariant-loop-target l = l.bad || bad_targets l.n no_state (drop l.target-index l.targets) ≡ bad_targets l.n no_state l.targets
