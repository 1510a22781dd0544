-- Adding up components as they are handed over, for any system and any marks.
--     orders_at, orders_few    the table of orders holds factorials, and they are small
--     few_ones                 a byte has no more than eight bits
--     none_added               nothing is added up before
--     added_more               one more component
use mathlib.Core.Path.{◌≡◌, refl, sym, ap, ◌∙◌}
use mathlib.Core.Bool.{Bool, false}
use mathlib.Core.List.{List, [], ◌∷◌}
use Prim.Native.Nat.{ℕ, zero, suc, ◌+◌, ◌*◌, ◌%◌, ◌^◌, ◌≤◌, ◌<◌, max}
use native.Mathlib.Nat.{add-mod}
use native.Mathlib.Omega.{arith}
use lib.Count.{ones, ones-le}
use lib.ListN.{length, get_or}
use Rattle.rules.specs.Basics.{sum_below}
use Rattle.rules.specs.Systems.{System}
use Rattle.rules.specs.Forecasts.{factorial}
use Rattle.rules.proofs.Forecasts.{sum_few, most_least}
use Rattle.components.specs.Visiting.{marks_within, IsComponent}
use Rattle.components.specs.Handing.{HandedOver}
use Rattle.components.proofs.Marks.{set_is}
use Rattle.forecast.specs.Figures.{AddedUp}
use Rattle.forecast.proofs.Handing.{Handed, sum_handed, most_handed}

abbrev orders : List ℕ
orders = 1 ∷ 1 ∷ 2 ∷ 6 ∷ 24 ∷ 120 ∷ 720 ∷ 5040 ∷ 40320 ∷ []

few_cases : (P : ℕ → Type 0) → P 0 → P 1 → P 2 → P 3 → P 4 → P 5 → P 6 → P 7 → P 8 → (p : ℕ) → p ≤ 8 → P p
few_cases P a b c d e f g h i zero l = a
few_cases P a b c d e f g h i (suc zero) l = b
few_cases P a b c d e f g h i (suc (suc zero)) l = c
few_cases P a b c d e f g h i (suc (suc (suc zero))) l = d
few_cases P a b c d e f g h i (suc (suc (suc (suc zero)))) l = e
few_cases P a b c d e f g h i (suc (suc (suc (suc (suc zero))))) l = f
few_cases P a b c d e f g h i (suc (suc (suc (suc (suc (suc zero)))))) l = g
few_cases P a b c d e f g h i (suc (suc (suc (suc (suc (suc (suc zero))))))) l = h
few_cases P a b c d e f g h i (suc (suc (suc (suc (suc (suc (suc (suc zero)))))))) l = i
few_cases P a b c d e f g h i (suc (suc (suc (suc (suc (suc (suc (suc (suc p))))))))) l = absurd (omega arith)

pub orders_at : (p : ℕ) → p ≤ 8 → get_or orders p 0 ≡ factorial p
orders_at = few_cases (λ p. get_or orders p 0 ≡ factorial p) refl refl refl refl refl refl refl refl refl

pub orders_few : (p : ℕ) → p ≤ 8 → factorial p ≤ 40320
orders_few =
    few_cases (λ p. factorial p ≤ 40320) (omega arith) (omega arith) (omega arith) (omega arith) (omega arith) (omega arith) (omega arith) (omega arith) (omega arith)

-- a byte has no more than eight bits
pub few_ones : (set : ℕ) → set < 256 → ones set ≤ 8
few_ones set l = ones-le 8 set l

module _ (s : System) (marks : ℕ → ℕ → ℕ) where
  pub none_added : AddedUp s marks (λ q. false) 0 0
  none_added =
      record {
        row_sum = let z : 0 ≡ sum_below s.states (λ q. 0) = omega (arith, sum_few s.states 0 (λ q. 0) (λ q l. omega arith)) in ap (λ (v : ℕ). v % 2 ^ 64) z;
        most_pairs = omega (arith, most_least s.states 0 (λ q. 0) (λ q l. omega arith));
      }

  module _ (members : List ℕ) (set : ℕ) (small : set < 256) (c : IsComponent s marks members set) where
    -- a number that depends on the set alone
    handed : (g : ℕ → ℕ) (d d' : ℕ → Bool) → HandedOver members d d' → Handed s.states (λ q. g (marks_within s marks q)) (g set) members d d'
    handed g d d' h = record { over = h; apart = c.apart; below = c.state; value = λ i l. ap g (sym (set_is c small i l)) }

    pub added_more : (d d' : ℕ → Bool) {rows pairs : ℕ} → AddedUp s marks d rows pairs → HandedOver members d d'
        → AddedUp s marks d' ((rows + length members * factorial (ones set) % 2 ^ 64) % 2 ^ 64) (max pairs (ones set))
    added_more d d' x h =
        let sum = sum_handed s.states _ _ members d d' (handed (λ b. factorial (ones b)) d d' h) in
        let most = most_handed s.states _ _ members d d' (handed ones d d' h) c.some in
        record {
          row_sum =
              ap (λ (v : ℕ). (v + length members * factorial (ones set) % 2 ^ 64) % 2 ^ 64) x.row_sum
              ∙ sym (add-mod _ (length members * factorial (ones set)) (2 ^ 64))
              ∙ ap (λ (v : ℕ). v % 2 ^ 64) (sym sum);
          most_pairs = omega (arith, x.most_pairs);
        }
