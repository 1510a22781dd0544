-- The loop of `Rows::put`: the lines of the rows before this one are written.
use Rattle.rules.specs.Texts.{each}
use Rattle.listing_text.specs.Writing.{Writes}
use Rattle.listing_text.specs.Lines.{row_of}
use Rattle.listing_text.proofs.lines.Rows.put.Given as goal

abbrev pub invariant-loop-row : goal.invariant-loop-row
invariant-loop-row l = Writes l.initial.text (each l.row 0 (row_of l.self)) l.text
