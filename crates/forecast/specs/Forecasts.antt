-- What a call that forecasts a table answers, as numbers: both 0 on a refusal.
--     rows_in x, pairs_in x    numbers: the most rows, and the most pairs that count in one component
use Rattle.std.specs.Prelude.{ℕ, Result, Ok, Err}
use Rattle.rules.specs.declared.refusal.Refusal.{Refusal}
use Rattle.forecast.specs.declared.Forecast.{Forecast}

abbrev pub rows_in : Result Forecast Refusal → ℕ
rows_in (Ok forecast) = forecast.rows
rows_in (Err _) = 0

abbrev pub pairs_in : Result Forecast Refusal → ℕ
pairs_in (Ok forecast) = forecast.pairs
pairs_in (Err _) = 0
