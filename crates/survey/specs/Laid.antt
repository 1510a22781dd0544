-- What a call that lays a table out answers, as numbers: all 0 on a refusal.
--     states_in x, letters_in x, start_in x    numbers: the states, the letters and the start of the table that is laid out
use Rattle.std.specs.Prelude.{ℕ, Result, Ok, Err}
use Rattle.rules.specs.declared.refusal.Refusal.{Refusal}
use Rattle.survey.specs.declared.layout.Laid.{Laid}

abbrev pub states_in : Result Laid Refusal → ℕ
states_in (Ok laid) = laid.states
states_in (Err _) = 0

abbrev pub letters_in : Result Laid Refusal → ℕ
letters_in (Ok laid) = laid.letters
letters_in (Err _) = 0

abbrev pub start_in : Result Laid Refusal → ℕ
start_in (Ok laid) = laid.start
start_in (Err _) = 0
