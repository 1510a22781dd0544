-- `components::walk::search` meets its contract. The invariant: no state is open, and what the states before this one reach is handed over.
use Rattle.components.proofs.Walks.{WalksUnderway}
use Rattle.components.proofs.walk.search.Given as goal

abbrev pub invariant-loop-root : goal.invariant-loop-root
invariant-loop-root g l =
    let c = g.C.Marked in
    WalksUnderway (c.system l.system) (c.marks l.system) g.T.Taker.holds l.from l.root l.open l.initial.states l.states l.initial.taker l.taker
