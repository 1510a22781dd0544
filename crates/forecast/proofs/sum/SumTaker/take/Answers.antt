-- The sum's `take` meets its contract: one more component is added up.
use Rattle.forecast.proofs.Adding.{added_more}
use Rattle.forecast.proofs.sum.SumTaker.take.Goals as goal

pub returns-clause-holds : goal.returns-clause-holds
returns-clause-holds c = λ s marks done done' x is h. rw (c.orders_of.ensures, c.max-self.ensures) (added_more s marks c.args.members.now c.args.set c.ranges.set.fits is done done' x h)
