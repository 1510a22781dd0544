-- The marks of the transitions that a run over a Rabin table takes.
--     prohibited_marks, required_marks t x    numbers: the marks of a transition of a Rabin table, bit i for pair i + 1
--     mask_at t x                             number: both as one mask, the required marks above the prohibited ones
use Rattle.std.specs.Prelude.{ℕ, ◌+◌, ◌*◌}
use Rattle.rules.specs.Runs.{Taken}
use Rattle.rules.specs.Tables.{Table, prohibited_byte, required_byte}

abbrev pub prohibited_marks : Table → Taken → ℕ
prohibited_marks t x = prohibited_byte t x.from x.by

abbrev pub required_marks : Table → Taken → ℕ
required_marks t x = required_byte t x.from x.by

abbrev pub mask_at : Table → Taken → ℕ
mask_at t x = required_marks t x * 256 + prohibited_marks t x
