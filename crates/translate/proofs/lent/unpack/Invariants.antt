-- `translate::lent::unpack` meets its contract. The invariant: the first i rows are unpacked.
use Rattle.translate.specs.Rows.{Unpacked}
use Rattle.translate.proofs.lent.unpack.Given as goal

abbrev pub invariant-loop-i : goal.invariant-loop-i
invariant-loop-i l = Unpacked l.i l.fn.keys l.keys l.fn.sources l.sources
