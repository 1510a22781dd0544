-- `components::walk::Open::walk` meets its contract.
use Rattle.std.proofs.Common.{arith, refl}
use Rattle.components.proofs.Walks.{walk_begun, walk_on, walk_all, turn_less, met_already}
use Rattle.components.proofs.walk.Open.walk.Goals as goal

pub returns-then-states-root-ne0 : goal.returns-then-states-root-ne0
returns-then-states-root-ne0 g c =
    met_already _ _ g.T.Taker.holds c.args.root _ _ _ c.requires.0 c.requires.1 c.requires.2 (omega (arith, c.if-states-root-ne0.true))

pub loop-last-init : goal.loop-last-init
loop-last-init g c =
    rw (c.enter.ensures.0, c.enter.ensures.1, c.enter.ensures.2)
    (walk_begun _ _ g.T.Taker.holds g.met.T.Taker.lasts c.args.root _ _ _ c.requires.0 c.requires.1 c.requires.2 c.requires.3 (omega (arith, c.if-states-root-ne0.false)))

pub turn-last-requires : goal.turn-last-requires
turn-last-requires g c = rw c.in-Some.is at c.loop-last.invariant.on

pub loop-last-smaller : goal.loop-last-smaller
loop-last-smaller g c = rw c.in-Some.is (turn_less _ _ g.T.Taker.holds _ _ _ _ _ _ _ c.turn-last.ensures)

pub loop-last-preserved : goal.loop-last-preserved
loop-last-preserved g c =
    walk_on _ _ g.T.Taker.holds c.args.root _ _ _ _ _ _ _ _ c.in-Some.visit c.turn-last.result c.requires.3 (rw c.in-Some.is at c.loop-last.invariant) c.turn-last.ensures

pub returns : goal.returns
returns g c = walk_all _ _ g.T.Taker.holds c.args.root _ _ _ _ _ _ c.loop-last.last (rw c.in_default.is refl) c.loop-last.invariant
