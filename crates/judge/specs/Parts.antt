-- Where a part of an array lies. An array lies from an offset on in a block of memory; a byte takes one cell.
--     rest_at a n b k i    block and offset: where the rest of a word's piece lies, from place i on: in a lead-in of n letters at a, or in a
--                         loop of k letters at b, at its end where the place is past the last letter
use Rattle.std.specs.Prelude.{ℕ, ◌+◌, ◌-◌, min, ltb}
use Rattle.rules.specs.Basics.{pick}

abbrev pub rest_at : ℕ × ℕ → ℕ → ℕ × ℕ → ℕ → ℕ → ℕ × ℕ
rest_at a n b k i = pick (ltb i n) (a.0, i + a.1) (b.0, min (i - n) k + b.1)
