-- `components::named::Names` takes a component as `Taker` says.
use Rattle.std.proofs.Common.{arith, ◌≡◌, length}
use Rattle.components.proofs.Names.{named_all}
use Rattle.components.proofs.named.NamesTaker.take.Goals as goal

pub returns-clause-holds : goal.returns-clause-holds
returns-clause-holds c s marks done done' before x h =
    let name = c.smallest-name.ensures in
    let e : c.loop-q.q-index ≡ length c.args.members.now = omega (arith, c.loop-q-test.false, c.loop-q.auto.q-index-end) in
    named_all s marks c.args.members.now _ _ _ _ done done' x name.some name.least (rw e at c.loop-q.invariant) h before
