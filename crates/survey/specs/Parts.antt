-- What the functions below the calls ask and leave, by name.
--     Listed n f xs                     claim: the first n entries of xs are f 0, f 1 ..
--     CountedIn sets s marks done       claim: what is done has, as far as there are entries, the set of the marks within its component
--     SurveyedIn sets es s marks done   claim: it has that set, and its component in its entry
use Rattle.std.specs.Prelude.{◌≡◌, Bool, true, List, ℕ, ◌<◌, ◌≤◌, length, get_or}
use Rattle.rules.specs.Systems.{System}
use Rattle.components.specs.Visiting.{marks_within}
use Rattle.components.specs.Handing.{NamedIn}

pub record Listed (n : ℕ) (f : ℕ → ℕ) (xs : List ℕ) : Type 0 where
  pub enough : n ≤ length xs
  pub entry : (q : ℕ) → q < n → get_or xs q 0 ≡ f q

abbrev pub CountedIn : List ℕ → System → (ℕ → ℕ → ℕ) → (ℕ → Bool) → Type 0
CountedIn sets s marks done = (q : ℕ) → q < length sets → done q ≡ true → get_or sets q 0 ≡ marks_within s marks q

abbrev pub SurveyedIn : List ℕ → List ℕ → System → (ℕ → ℕ → ℕ) → (ℕ → Bool) → Type 0
SurveyedIn sets es s marks done = NamedIn es s done × CountedIn sets s marks done
