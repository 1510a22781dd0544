-- A judge's answer to a looped word, over any transition system and any condition on its recurring transitions.
--     Answer                                  two numbers, our own: 0 accepts, 1 rejects, 2 stops with the letters read, 3 refused with its number
--     accepts, rejects, stops n, refused n    the four answers
--     judged_by s q lead l good               answer: stops, or accepts exactly if the recurring transitions are good
--     Verdict s q lead l good x               claim: x is what the recurring transitions decide, those for which `Recurs` holds
--     JudgedAs s q lead l good x              claim: x is the answer: stops exactly if the run meets a missing transition, else that verdict
--     unless_refused f x                      answer: x, unless there is a refusal f
use Rattle.std.specs.Prelude.{◌≡◌, ◌↔◌, Bool, true, List, ℕ, leb}
use Rattle.rules.specs.Basics.{pick, any}
use Rattle.rules.specs.Systems.{System}
use Rattle.rules.specs.Runs.{Taken, is_taken, long_run, recurring, MeetsMissing, Recurs}

pub record Answer : Type 0 where
  pub kind : ℕ
  pub value : ℕ

abbrev pub accepts : Answer
accepts = record { kind = 0; value = 0 }

abbrev pub rejects : Answer
rejects = record { kind = 1; value = 0 }

abbrev pub stops : ℕ → Answer
stops n = record { kind = 2; value = n }

abbrev pub refused : ℕ → Answer
refused n = record { kind = 3; value = n }

abbrev pub judged_by : System → ℕ → List ℕ → List ℕ → (List Taken → Bool) → Answer
judged_by s q lead l good = pick (long_run s q lead l).stopped (stops (long_run s q lead l).read) (pick (good (recurring s q lead l)) accepts rejects)

pub record Verdict (s : System) (q : ℕ) (lead l : List ℕ) (good : List Taken → Bool) (x : Answer) : Type 0 where
  pub recurring : List Taken
  pub recurs : (y : Taken) → (any (is_taken y) recurring ≡ true) ↔ Recurs s q lead l y
  pub decided : x ≡ pick (good recurring) accepts rejects

pub record JudgedAs (s : System) (q : ℕ) (lead l : List ℕ) (good : List Taken → Bool) (x : Answer) : Type 0 where
  pub stop : (i : ℕ) → (x ≡ stops i) ↔ MeetsMissing s q lead l i
  pub verdict : ((i : ℕ) → MeetsMissing s q lead l i → ⊥) → Verdict s q lead l good x

abbrev pub unless_refused : ℕ → Answer → Answer
unless_refused f x = pick (leb 1 f) (refused f) x
