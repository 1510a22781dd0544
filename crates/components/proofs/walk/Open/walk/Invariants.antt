-- `components::walk::Open::walk` meets its contract. The invariant: the search is underway, and what it has kept since it began.
use Rattle.components.specs.Walking.{turns_left}
use Rattle.components.proofs.Walks.{WalkUnderway}
use Rattle.components.proofs.walk.Open.walk.Given as goal

abbrev pub invariant-loop-last : goal.invariant-loop-last
invariant-loop-last g l =
    let c = g.C.Marked in
    WalkUnderway (c.system l.system) (c.marks l.system) g.T.Taker.holds l.root l.self l.fn.states l.states l.fn.taker l.taker l.last

abbrev pub decreases-loop-last : goal.decreases-loop-last
decreases-loop-last g l = turns_left l.self l.states l.last
