-- `forecast::sum::orders_of` meets its contract: a byte has no more than eight bits.
use Rattle.forecast.proofs.Adding.{few_ones, orders_at}
use Rattle.forecast.proofs.sum.orders_of.Goals as goal

pub returns : goal.returns
returns c = orders_at _ (few_ones c.args.set c.ranges.set.fits)
