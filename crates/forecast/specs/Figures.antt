-- The figures, component by component, for any system and any marks on its transitions.
--     AddedUp s marks done rows pairs      claim: over the states whose components are done, the sum of the orders of the pairs in their sets, in 64
--                                          bits; and the most pairs that one of these sets holds
--     FiguresAre t rows pairs              claim: these are the figures of a table's forecast
--     added_same                           what is added up depends on what is done alone
use Rattle.std.specs.Prelude.{◌≡◌, Bool, ℕ, ◌%◌, ◌^◌}
use Rattle.std.proofs.Common.{ap, ◌∙◌}
use Rattle.std.specs.Int.Count.{ones}
use Rattle.rules.specs.Basics.{when, sum_below, most_below}
use Rattle.rules.specs.Systems.{System}
use Rattle.rules.specs.Tables.{Table}
use Rattle.rules.specs.Forecasts.{factorial, forecast_rows, forecast_pairs}
use Rattle.rules.proofs.Forecasts.{sum_same, most_same}
use Rattle.components.specs.Visiting.{marks_within}

pub record AddedUp (s : System) (marks : ℕ → ℕ → ℕ) (done : ℕ → Bool) (rows pairs : ℕ) : Type 0 where
  pub row_sum : rows ≡ sum_below s.states (λ q. when (done q) (factorial (ones (marks_within s marks q)))) % 2 ^ 64
  pub most_pairs : pairs ≡ most_below s.states (λ q. when (done q) (ones (marks_within s marks q)))

pub record FiguresAre (t : Table) (rows pairs : ℕ) : Type 0 where
  pub row_figure : rows ≡ forecast_rows t
  pub pair_figure : pairs ≡ forecast_pairs t

pub added_same : (s : System) (marks : ℕ → ℕ → ℕ) (done done' : ℕ → Bool) {rows pairs : ℕ} → AddedUp s marks done rows pairs
    → ((q : ℕ) → done' q ≡ done q) → AddedUp s marks done' rows pairs
added_same s marks done done' x same =
    record {
      row_sum = x.row_sum ∙ ap (λ (v : ℕ). v % 2 ^ 64) (sum_same s.states _ _ (λ q l. rw (same q)));
      most_pairs = x.most_pairs ∙ most_same s.states _ _ (λ q l. rw (same q));
    }
