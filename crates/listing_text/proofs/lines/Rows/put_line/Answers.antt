-- `Rows::put_line` meets its contract: six fields, one after the other.
use Rattle.rules.specs.Listings.{line}
use Rattle.listing_text.proofs.Writing.{writes_both, writes_optional}
use Rattle.listing_text.proofs.lines.Rows.put_line.Goals as goal

pub returns : goal.returns
unfolding line
returns c =
    writes_both c.field.ensures
    (writes_both (rw c.from.ensures at c.field-2.ensures)
    (writes_both (writes_optional _ _ _ c.then_some.ensures c.optional.ensures)
    (writes_both c.field-3.ensures
    (writes_both (writes_optional _ _ _ (rw c.from-2.ensures at c.then_some-2.ensures) c.optional-2.ensures)
    (writes_optional _ _ _ (rw c.from-3.ensures at c.then_some-3.ensures) c.optional-3.ensures)))))
