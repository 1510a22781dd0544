-- `components::reach::Met::read_state` meets its contract. The invariant: the letters below a of the state at place k are read.
use Rattle.std.proofs.Common.{◌≡◌, ◌≤◌}
use Rattle.components.specs.Places.{at}
use Rattle.components.specs.Views.{system_of}
use Rattle.components.proofs.Reaches.{Reaching}
use Rattle.components.proofs.reach.Met.read_state.Given as goal

abbrev pub invariant-loop-a : goal.invariant-loop-a
invariant-loop-a l = record {
  more : l.initial.self.count ≤ l.self.count;
  same : at l.self.queue.now l.k ≡ at l.initial.self.queue.now l.k;
  reaching : Reaching (system_of l.system) (at l.initial.self.queue.now 0) l.k l.a l.initial.self l.self;
}
