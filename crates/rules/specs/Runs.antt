-- Looped words and runs, recurring transitions, walks; over any transition system.
-- A looped word (an ultimately periodic word) is a lead-in (its finite prefix) and a loop (its period) that is repeated for ever.
-- A transition recurs if it is among those that the run takes infinitely often.
--     stray_letter m w             test: some byte of w is no letter
--     At                           record: where a run is: stopped or not, the state, the letters read
--     standing b p n               the same, stopped or not, at state p after n letters
--     reads s x a                  where a run is after one letter more: at a missing transition it stops, and that letter is not counted
--     goes_by s x w                where a run is after the letters of w
--     Taken                        record: a transition, as the state that it leaves and its letter
--     taken p a                    the transition of state p by the letter a
--     is_taken x y                 test: x and y are the same transition
--     pass_from s p w              list: the transitions taken in reading w from p
--     follow s w p                 state: where the letters of w lead from p, if the transitions on the way are there
--     turn s l r p                 state: where the repetition after the r-th of the loop l begins, the first of them at p
--     ReadsOn s l p n              claim: n repetitions of the loop l are read one after the other, the first of them from p
--     long_run s q lead l          where the run from q is after the lead-in and as many repetitions of the loop as there are states
--     recurring s q lead l         list: the transitions taken in as many repetitions more: of that many repetitions some begins at a state for
--                                  the second time, so these are just the transitions that recur (`recurs_view`)
--     Stop s p w                   claim: reading w from p meets a missing transition: some letters lead on, and for the next there is none
--     MeetsMissing s q lead l i    claim: the word's run from q meets a missing transition after i letters, in the lead-in or in the loop
--     TakenIn s q lead l r x       claim: x is taken in the repetition after the r-th
--     Recurs s q lead l x          claim: for every r, x is taken in some repetition after the r-th
--     goes_from s p xs             test: xs is a walk from p: transitions that are there, each leaving the state to which the one before leads
--     end_of s p xs                state: where the walk leads
--     is_closed_walk s xs          test: xs is a walk, is not empty and leads back to the state that it leaves
--     projected ss xs              list: a walk's projection: for each row its source state, which ss gives
use Rattle.std.specs.Prelude.{◌≡◌, Bool, true, false, ◌&&◌, ◌||◌, List, [], ◌∷◌, ◌++◌, map, ℕ, suc, ◌≤◌, ◌<◌, eqb, ltb, leb, length, get_or}
use Rattle.rules.specs.Basics.{pick, any, repeated, iter}
use Rattle.rules.specs.Systems.{System, Path}

abbrev pub stray_letter : ℕ → List ℕ → Bool
stray_letter m w = any (λ a. leb m a) w

pub record At : Type 0 where
  pub stopped : Bool
  pub place : ℕ
  pub read : ℕ

abbrev pub standing : Bool → ℕ → ℕ → At
standing b p n = record { stopped = b; place = p; read = n }

abbrev pub reads : System → At → ℕ → At
reads s x a = pick (x.stopped || leb s.states (s.go x.place a)) (standing true x.place x.read) (standing false (s.go x.place a) (suc x.read))

abbrev pub goes_by : System → At → List ℕ → At
goes_by s x [] = x
goes_by s x (a ∷ w) = goes_by s (reads s x a) w

pub record Taken : Type 0 where
  pub from : ℕ
  pub by : ℕ

abbrev pub taken : ℕ → ℕ → Taken
taken p a = record { from = p; by = a }

abbrev pub is_taken : Taken → Taken → Bool
is_taken x y = eqb x.from y.from && eqb x.by y.by

abbrev pub pass_from : System → ℕ → List ℕ → List Taken
pass_from s p [] = []
pass_from s p (a ∷ w) = taken p a ∷ pass_from s (s.go p a) w

abbrev pub follow : System → List ℕ → ℕ → ℕ
follow s [] p = p
follow s (a ∷ w) p = follow s w (s.go p a)

abbrev pub turn : System → List ℕ → ℕ → ℕ → ℕ
turn s l r p = iter (follow s l) r p

abbrev pub ReadsOn : System → List ℕ → ℕ → ℕ → Type 0
ReadsOn s l p n = (r : ℕ) → r < n → Path s (turn s l r p) l (turn s l (suc r) p)

abbrev pub long_run : System → ℕ → List ℕ → List ℕ → At
long_run s q lead l = goes_by s (standing false q 0) (lead ++ repeated s.states l)

abbrev pub recurring : System → ℕ → List ℕ → List ℕ → List Taken
recurring s q lead l = pass_from s (long_run s q lead l).place (repeated s.states l)

-- what the computed run and the recurring transitions stand for, as in RULES, "Runs" and "Recurring"
pub record Stop (s : System) (p : ℕ) (w : List ℕ) : Type 0 where
  pub before : List ℕ
  pub next : ℕ
  pub later : List ℕ
  pub place : ℕ
  pub piece : before ++ (next ∷ later) ≡ w
  pub path : Path s p before place
  pub letter : next < s.letters
  pub absent : s.states ≤ s.go place next

pub record MeetsMissing (s : System) (q : ℕ) (lead l : List ℕ) (i : ℕ) : Type 0 where
  pub repetitions : ℕ
  pub stop : Stop s q (lead ++ repeated repetitions l)
  pub count : length stop.before ≡ i

pub record TakenIn (s : System) (q : ℕ) (lead l : List ℕ) (r : ℕ) (x : Taken) : Type 0 where
  pub before : List ℕ
  pub later : List ℕ
  pub piece : before ++ (x.by ∷ later) ≡ l
  pub path : Path s q (lead ++ (repeated r l ++ before)) x.from
  pub present : s.go x.from x.by < s.states

abbrev pub Recurs : System → ℕ → List ℕ → List ℕ → Taken → Type 0
Recurs s q lead l x = (r : ℕ) → (k : ℕ) × (r ≤ k) × TakenIn s q lead l k x

-- walks
abbrev pub goes_from : System → ℕ → List Taken → Bool
goes_from s p [] = true
goes_from s p (x ∷ xs) = eqb p x.from && (ltb x.from s.states && (ltb x.by s.letters && (ltb (s.go x.from x.by) s.states && goes_from s (s.go x.from x.by) xs)))

abbrev pub end_of : System → ℕ → List Taken → ℕ
end_of s p [] = p
end_of s p (x ∷ xs) = end_of s (s.go x.from x.by) xs

abbrev pub is_closed_walk : System → List Taken → Bool
is_closed_walk s [] = false
is_closed_walk s (x ∷ xs) = goes_from s x.from (x ∷ xs) && eqb (end_of s x.from (x ∷ xs)) x.from

abbrev pub projected : List ℕ → List Taken → List Taken
projected ss xs = map (λ x. taken (get_or ss x.from 0) x.by) xs
