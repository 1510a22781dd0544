-- `tables::check::bad_sizes` meets its contract.
use Rattle.tables.proofs.Checks.{bad_sizes_lem}
use Rattle.tables.proofs.check.bad_sizes.Goals as goal

pub returns : goal.returns
returns c = bad_sizes_lem c.args.n c.args.m c.args.k
