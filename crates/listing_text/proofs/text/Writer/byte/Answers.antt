-- `Writer::byte` meets its contract: the writer goes on where `put_byte` ends.
use Rattle.std.proofs.Common.{refl}
use Rattle.listing_text.proofs.text.Writer.byte.Goals as goal

pub returns : goal.returns
returns c = record { array = refl; written = c.put_byte-self.ensures }
