-- What the translator answers, as a number: 0 on a refusal.
--     rows_in x    number: the rows of the translation
use Rattle.std.specs.Prelude.{ℕ, Result, Ok, Err}
use Rattle.rules.specs.declared.refusal.Refusal.{Refusal}

abbrev pub rows_in : Result ℕ Refusal → ℕ
rows_in (Ok rows) = rows
rows_in (Err _) = 0
