-- A word as it is read, pass by pass; over any transition system. A pass is one repetition of the loop.
--     SumsUp t g xs v                                    claim: v sums up the numbers g x for the x of xs: it passes the test t i exactly if one of them does. With the
--                                                        tests `ltb` it is the largest of them, with the tests `bit` the union of sets
--     Joins t j                                          claim: what j joins of two numbers passes the test t i exactly if one of the two does
--     FewBytes R                                         claim: a value of the type R takes at most 8 bytes
--     MissesAfter s p w n                                claim: reading w from p meets a missing transition after n letters
--     TransitionIs f s g p a x                           claim: the transition of p by a is there, leads to the place of x, and has the mark of x as its number by g;
--                                                        f says which number a mark is
--     StepSays f s g p a x                               claim: that of what x has, or x is none and the transition is missing
--     PieceLeads f s t g p w x                           claim: reading w from p leads to the place of x, and the mark of x sums up the transitions taken
--     PieceSays f s t g p w x                            claim: that of what x has, or a missing transition is met after as many letters as x says
--     Begun s l e r q begun                              claim: r passes have been read from e on and led to q; begun has, for each place where one of them began, one
--                                                        more than its number, and 0 for the other places
--     SumsKept s l e t g r vs                            claim: for each of r passes, vs sums up the transitions that it takes
--     WordUnderway s q lead l e r p count first begun    claim: a word is being read from q: the lead-in led to e and r passes to p, count letters
--                                                        in all, and first is what begun has for p
use Rattle.std.specs.Prelude.{◌≡◌, Bool, ◌||◌, List, ℕ, suc, ◌+◌, ◌*◌, ◌<◌, ◌≤◌, Option, Some, None, Result, Ok, Err, length, get_or}
use Rattle.std.specs.Mem.{type_size}
use denote.RattleType.{RattleType}
use Rattle.rules.specs.Basics.{any}
use Rattle.rules.specs.Systems.{System, Path}
use Rattle.rules.specs.Runs.{Taken, taken, pass_from, turn, ReadsOn, Stop}
use Rattle.judge.specs.declared.automaton.Reached.{Reached}

abbrev pub SumsUp : {A : Type 0} → (ℕ → ℕ → Bool) → (A → ℕ) → List A → ℕ → Type 0
SumsUp t g xs v = (i : ℕ) → t i v ≡ any (λ x. t i (g x)) xs

abbrev pub Joins : (ℕ → ℕ → Bool) → (ℕ → ℕ → ℕ) → Type 0
Joins t j = (i u v : ℕ) → t i (j u v) ≡ t i u || t i v

abbrev pub FewBytes : RattleType → Type 0
FewBytes R = type_size R ≤ 8

pub record MissesAfter (s : System) (p : ℕ) (w : List ℕ) (n : ℕ) : Type 0 where
  pub stop : Stop s p w
  pub count : length stop.before ≡ n

pub record TransitionIs {M : Type 0} (f : M → ℕ) (s : System) (g : Taken → ℕ) (p a : ℕ) (x : Reached M) : Type 0 where
  pub place : x.place ≡ s.go p a
  pub below : x.place < s.states
  pub mark : f x.mark ≡ g (taken p a)

abbrev pub StepSays : {M : Type 0} → (M → ℕ) → System → (Taken → ℕ) → ℕ → ℕ → Option (Reached M) → Type 0
StepSays f s g p a None = s.states ≤ s.go p a
StepSays f s g p a (Some x) = TransitionIs f s g p a x

pub record PieceLeads {M : Type 0} (f : M → ℕ) (s : System) (t : ℕ → ℕ → Bool) (g : Taken → ℕ) (p : ℕ) (w : List ℕ) (x : Reached M) : Type 0 where
  pub path : Path s p w x.place
  pub below : x.place < s.states
  pub sums : SumsUp t g (pass_from s p w) (f x.mark)

abbrev pub PieceSays : {M : Type 0} → (M → ℕ) → System → (ℕ → ℕ → Bool) → (Taken → ℕ) → ℕ → List ℕ → Result (Reached M) ℕ → Type 0
PieceSays f s t g p w (Ok x) = PieceLeads f s t g p w x
PieceSays f s t g p w (Err n) = MissesAfter s p w n

pub record Begun (s : System) (l : List ℕ) (e r q : ℕ) (begun : List ℕ) : Type 0 where
  pub here : turn s l r e ≡ q
  pub reads : ReadsOn s l e r
  pub noted : (i : ℕ) → i < r → get_or begun (turn s l i e) 0 ≡ suc i
  pub only : (x i : ℕ) → get_or begun x 0 ≡ suc i → (i < r) × (turn s l i e ≡ x)

abbrev pub SumsKept : System → List ℕ → ℕ → (ℕ → ℕ → Bool) → (Taken → ℕ) → ℕ → List ℕ → Type 0
SumsKept s l e t g r vs = (i : ℕ) → i < r → SumsUp t g (pass_from s (turn s l i e) l) (get_or vs i 0)

pub record WordUnderway (s : System) (q : ℕ) (lead l : List ℕ) (e r p count first : ℕ) (begun : List ℕ) : Type 0 where
  pub entry : Path s q lead e
  pub entry_state : e < s.states
  pub passes : Begun s l e r p begun
  pub few : r ≤ s.states
  pub letters : count ≡ length lead + r * length l
  pub earlier : first ≡ get_or begun p 0
  pub room : s.states ≤ length begun
