-- `survey::cells::Counted` takes a component as `Taker` says.
use Rattle.std.proofs.Common.{arith, ◌≡◌, length}
use Rattle.survey.proofs.Surveying.{counted_more}
use Rattle.survey.proofs.cells.CountedTaker.take.Goals as goal

pub returns-clause-holds : goal.returns-clause-holds
returns-clause-holds c s marks done done' before part h =
    let e : c.loop-q.q-index ≡ length c.args.members.now = omega (arith, c.loop-q-test.false, c.loop-q.auto.q-index-end) in
    (c.take.ensures.holds s marks done done' before.0 part h, counted_more s marks c.args.members.now _ _ _ done done' part (omega arith) (rw e at c.loop-q.invariant) h before.1)
