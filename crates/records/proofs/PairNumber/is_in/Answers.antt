-- `records::PairNumber::is_in` meets its contract: the bits of the set are moved up by one, so that pair 0 has one too, which is not set.
use native.Mathlib.Omega.{arith}
use Rattle.records.proofs.Packing.{marked_masked}
use Rattle.records.proofs.PairNumber.is_in.Goals as goal

pub returns : goal.returns
returns c = rw c.from-set.ensures (marked_masked c.args.mask c.args.self.0 (omega arith))
