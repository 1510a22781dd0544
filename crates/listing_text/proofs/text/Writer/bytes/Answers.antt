-- `Writer::bytes` meets its contract: one byte after the other.
use Rattle.listing_text.proofs.Writing.{writes_next_byte}
use Rattle.listing_text.proofs.text.Writer.bytes.Goals as goal

pub loop-byte-preserved : goal.loop-byte-preserved
loop-byte-preserved c = writes_next_byte _ c.loop-byte-test.true c.loop-byte.invariant c.byte.ensures
