-- `records::Record::pair_at` meets its contract: a position outside the record has no pair, and each other's is found by a shift.
use Rattle.records.proofs.Packing.{pair_shifted}
use Rattle.records.proofs.Record.pair_at.Goals as goal

pub returns : goal.returns
returns c = pair_shifted 6 c.args.self.code c.args.at.0 c.if-p.false
