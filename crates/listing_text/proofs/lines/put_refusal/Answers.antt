-- `put_refusal` meets its contract: the word, then the number.
use Rattle.rules.specs.Listings.{refusal_line}
use Rattle.listing_text.proofs.Writing.{writes_both}
use Rattle.listing_text.proofs.lines.put_refusal.Goals as goal

pub returns : goal.returns
unfolding refusal_line
returns c = writes_both c.bytes.ensures (rw c.from.ensures at rw c.from-2.ensures at c.field.ensures)
