-- `components::walk::States::scan` meets its contract. The invariant: so many letters after the first are read.
use Rattle.std.proofs.Common.{◌+◌, ◌≤◌}
use Rattle.components.specs.Places.{done_number, at}
use Rattle.components.specs.Visiting.{LettersRead}
use Rattle.components.proofs.walk.States.scan.Given as goal

abbrev pub invariant-loop-after : goal.invariant-loop-after
invariant-loop-after g l =
    let c = g.C.Marked in
    LettersRead (c.system l.system) (c.marks l.system) (at l.self.numbers.now) l.visit.state l.visit.next (l.visit.next + l.after) l.visit.low l.low l.visit.set l.set
    × (l.low ≤ done_number)
