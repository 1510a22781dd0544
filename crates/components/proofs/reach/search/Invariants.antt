-- `components::reach::search` meets its contract. The invariant: all letters of the states at the places below k are read.
use Rattle.std.proofs.Common.{◌≤◌, ◌-◌}
use Rattle.components.specs.Views.{system_of}
use Rattle.components.proofs.Reaches.{Reaching}
use Rattle.components.proofs.reach.search.Given as goal

abbrev pub invariant-loop-k : goal.invariant-loop-k
invariant-loop-k l = record {
  read : l.k ≤ l.met.count;
  reaching : Reaching (system_of l.system) l.from l.k 0 l.initial.met l.met;
}

abbrev pub decreases-loop-k : goal.decreases-loop-k
decreases-loop-k l = l.system.states - l.k
