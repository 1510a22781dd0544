-- The forecast: figures from a table alone that its translation never exceeds (RULES, "Forecast").
--     factorial n                    number: 1 · 2 · .. · n
--     names_reached s start q        test: q is the smallest state of a component that is reachable from the start; it stands for it
--     component_size s q             number: the states of q's component
--     over_components s start f      number: over the components reachable from the start, the sum of states times f of the component
--     most_in_component s start f    number: the largest f of one of these components
--     pairs_at t q                   number: the pairs that count in q's component
--     forecast_rows t                number: over the components reachable from the start, the sum of states times the factorial of the pairs
--                                    that count
--     forecast_pairs t               number: the most pairs that count in any one of these components
use Rattle.std.specs.Prelude.{Bool, ◌&&◌, ℕ, zero, suc, ◌*◌, eqb, length}
use Rattle.rules.specs.Basics.{when, sum_below, most_below}
use Rattle.rules.specs.Systems.{System, reaches, together, component_of}
use Rattle.rules.specs.Tables.{Table, system_of, rising}

abbrev pub factorial : ℕ → ℕ
factorial zero = 1
factorial (suc n) = suc n * factorial n

abbrev pub names_reached : System → ℕ → ℕ → Bool
names_reached s start q = eqb (component_of s q) q && reaches s start q

abbrev pub component_size : System → ℕ → ℕ
component_size s q = sum_below s.states (λ p. when (together s q p) 1)

unfoldable pub over_components : System → ℕ → (ℕ → ℕ) → ℕ
over_components s start f = sum_below s.states (λ q. when (names_reached s start q) (component_size s q * f q))

unfoldable pub most_in_component : System → ℕ → (ℕ → ℕ) → ℕ
most_in_component s start f = most_below s.states (λ q. when (names_reached s start q) (f q))

abbrev pub pairs_at : Table → ℕ → ℕ
pairs_at t q = length (rising t q)

abbrev pub forecast_rows : Table → ℕ
forecast_rows t = over_components (system_of t) t.start (λ q. factorial (pairs_at t q))

abbrev pub forecast_pairs : Table → ℕ
forecast_pairs t = most_in_component (system_of t) t.start (pairs_at t)
