-- The loop of `Writer::bytes`: the bytes before this one are written.
use Rattle.std.proofs.Common.{take}
use Rattle.listing_text.specs.Writing.{Writes}
use Rattle.listing_text.proofs.text.Writer.bytes.Given as goal

abbrev pub invariant-loop-byte : goal.invariant-loop-byte
invariant-loop-byte l = Writes l.initial.self (take l.byte-index l.bytes) l.self
