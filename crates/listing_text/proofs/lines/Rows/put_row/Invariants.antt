-- The loop of `Rows::put_row`: the lines of the letters before this one are written.
use Rattle.rules.specs.Texts.{each}
use Rattle.listing_text.specs.Writing.{Writes}
use Rattle.listing_text.specs.Lines.{line_of}
use Rattle.listing_text.proofs.lines.Rows.put_row.Given as goal

abbrev pub invariant-loop-letter : goal.invariant-loop-letter
invariant-loop-letter l = Writes l.initial.text (each l.letter 0 (line_of l.self l.row)) l.text
