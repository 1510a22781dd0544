-- `components::walk::Open::mark_done` meets its contract. The invariant: the states above this place are done.
use Rattle.std.proofs.Common.{◌≡◌, ◌+◌, ◌<◌, ◌≤◌}
use Rattle.components.specs.Places.{at}
use Rattle.components.specs.Walking.{PassedDone}
use Rattle.components.proofs.walk.Open.mark_done.Given as goal

abbrev pub invariant-loop-q : goal.invariant-loop-q
invariant-loop-q l =
    PassedDone (l.place + 1) l.self.count (at l.self.stack.now) l.initial.states.numbers.now l.states.numbers.now
    × (l.states.nexts ≡ l.initial.states.nexts) × (l.from ≤ l.place) × (l.place < l.self.count) × (l.q ≡ at l.self.stack.now l.place)

abbrev pub decreases-loop-q : goal.decreases-loop-q
decreases-loop-q l = l.place
