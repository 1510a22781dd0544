-- `Writer::numeral` meets its contract: the writer goes on where `put_numeral` ends.
use Rattle.std.proofs.Common.{refl}
use Rattle.listing_text.proofs.text.Writer.numeral.Goals as goal

pub returns : goal.returns
returns c = record { array = refl; written = c.put_numeral-self.ensures }
