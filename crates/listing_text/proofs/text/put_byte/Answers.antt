-- `listing_text::text::put_byte` meets its contract: a byte past the end leaves the array as it was.
use Rattle.std.proofs.Common.{sym, ◌∙◌}
use lib.Seq.{set_out}
use Rattle.listing_text.proofs.Writing.{wrote_byte}
use Rattle.listing_text.proofs.text.put_byte.Goals as goal
use Rattle.listing_text.proofs.text.put_byte.Goals.{then-at-out, else-at-out}

pub returns : goal.returns
returns c =
    wrote_byte
    (elim c.if-at-out.branch [ then-at-out w ↦ w.out-is | else-at-out w ↦ w.out-is ∙ sym (set_out _ _ _ w.if-at-out.false) ])
    c.saturating_add.ensures
