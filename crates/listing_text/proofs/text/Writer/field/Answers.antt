-- `Writer::field` meets its contract: the number, then the byte.
use Rattle.rules.specs.Listings.{field}
use Rattle.listing_text.proofs.Writing.{writes_both}
use Rattle.listing_text.proofs.text.Writer.field.Goals as goal

pub returns : goal.returns
unfolding field
returns c = writes_both c.numeral.ensures c.byte.ensures
