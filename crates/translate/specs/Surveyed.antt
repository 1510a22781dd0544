-- A table as the code has it once it is laid out and surveyed, x.
--     key_at x q            number: the key of the row at state q by which a crossing enters
--     code_at x q a         number: the code of the transition of q by a
--     code_in_cell x q c    number: the code of the transition in cell c, one of q
use Rattle.std.specs.Prelude.{ℕ, get_or}
use Rattle.translate.specs.declared.surveyed.Surveyed.{Surveyed}
use Rattle.translate.specs.Cells.{code_of, code_in, rising_key}

abbrev pub key_at : Surveyed → ℕ → ℕ
key_at x q = rising_key q (get_or x.counted.now q 0)

abbrev pub code_at : Surveyed → ℕ → ℕ → ℕ
code_at x q a = code_in x.states x.letters x.targets.now x.marks.now x.homes.now x.counted.now q a

abbrev pub code_in_cell : Surveyed → ℕ → ℕ → ℕ
code_in_cell x q c =
    code_of x.states (get_or x.targets.now c 0) (get_or x.marks.now c 0) (get_or x.homes.now q 0) (get_or x.counted.now q 0) x.homes.now (key_at x)
