-- What a function leaves in a lent array, place by place.
--     Beyond k old new       claim: from place k on new is as old
--     Cleared i k old new    claim: from place i up to k new is 0, elsewhere it is as old
use Rattle.std.specs.Prelude.{◌≡◌, List, ℕ, ◌<◌, ◌≤◌, length, get_or}

pub record Beyond (k : ℕ) (old new : List ℕ) : Type 0 where
  pub size : length new ≡ length old
  pub same : (i : ℕ) → k ≤ i → get_or new i 0 ≡ get_or old i 0

pub record Cleared (i k : ℕ) (old new : List ℕ) : Type 0 where
  pub size : length new ≡ length old
  pub front : (j : ℕ) → j < i → get_or new j 0 ≡ get_or old j 0
  pub zeros : (j : ℕ) → i ≤ j → j < k → get_or new j 0 ≡ 0
  pub rest : (j : ℕ) → k ≤ j → get_or new j 0 ≡ get_or old j 0
