-- `Rows::put` meets its contract: the three fields of the head, then one row after the other.
use native.Mathlib.Nat.{le_antisymm}
use Rattle.rules.specs.Listings.{head, lines}
use Rattle.rules.specs.Texts.{each}
use Rattle.listing_text.specs.Lines.{row_of}
use Rattle.listing_text.proofs.Writing.{writes_none, writes_both, writes_next}
use Rattle.listing_text.proofs.lines.Rows.put.Goals as goal

pub loop-row-init : goal.loop-row-init
unfolding each
loop-row-init c = writes_none _

pub loop-row-preserved : goal.loop-row-preserved
loop-row-preserved c = writes_next (row_of c.args.self) c.loop-row.invariant c.put_row.ensures

pub returns : goal.returns
unfolding head lines
returns c =
    writes_both
    (writes_both c.field.ensures (writes_both c.field-2.ensures (rw c.from.ensures at c.field-3.ensures)))
    (rw (le_antisymm c.loop-row.auto.row-end c.loop-row-test.false) at c.loop-row.invariant)
