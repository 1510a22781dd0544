-- `Rows::put_row` meets its contract: one line after the other.
use native.Mathlib.Nat.{le_antisymm}
use Rattle.rules.specs.Listings.{row_lines}
use Rattle.rules.specs.Texts.{each}
use Rattle.listing_text.specs.Lines.{line_of}
use Rattle.listing_text.proofs.Writing.{writes_none, writes_next}
use Rattle.listing_text.proofs.lines.Rows.put_row.Goals as goal

pub loop-letter-init : goal.loop-letter-init
unfolding each
loop-letter-init c = writes_none _

pub loop-letter-preserved : goal.loop-letter-preserved
loop-letter-preserved c = writes_next (line_of c.args.self c.args.row) c.loop-letter.invariant c.put_line.ensures

pub returns : goal.returns
unfolding row_lines
returns c = rw (le_antisymm c.loop-letter.auto.letter-end c.loop-letter-test.false) at c.loop-letter.invariant
