-- The lines of the rows that lie in four arrays.
--     line_of s i a    text: the line of row i and letter a
--     row_of s i       text: the lines of row i
--     lines_of s       text: the lines of all rows
use Rattle.std.specs.Prelude.{List, ℕ, get_or}
use Rattle.rules.specs.Listings.{line_at, lines_at, lines}
use Rattle.listing_text.specs.declared.lines.Rows.{Rows}

abbrev pub line_of : Rows → ℕ → ℕ → List ℕ
line_of s i a = line_at s.letters s.targets.now s.priorities.now i (get_or s.sources.now i 0) (get_or s.records.now i 0) a

abbrev pub row_of : Rows → ℕ → List ℕ
row_of s i = lines_at s.letters s.targets.now s.priorities.now s.sources.now s.records.now i

abbrev pub lines_of : Rows → List ℕ
lines_of s = lines s.count s.letters s.targets.now s.priorities.now s.sources.now s.records.now
