-- A search for components as the code holds it: what is known of each state, and the open states, in arrays, with the visit in hand that is the last.
--     done_in s xs q               test: q is a state and done, by the numbers in the array
--     Room s o t                   claim: the sizes are small enough, the arrays have room, what is no state has the number of what is done, and
--                                  the sets are bytes
--     with_last d v f k            number: v for k = d, else f k
--     next_at o t k                number: the letter that visited state number k reads next
--     SearchedIn s marks o t v     claim: there is room, and what the arrays and the visit hold is a search as `Searched` says
--     KeptIn s marks o t           claim: the same where all visits are in the arrays
--     Scanned s marks t v r        claim: a visit has read on
--     entered q o, numbered q v t, begun q v, kept v o, next_is q v t, visit_at o t k    records: what the stores leave
--     JoinSays marks v v' r        claim: a visit has gone back to the one before
--     PassedDone from to ..        claim: the states at the places from `from` up to `to` are done
--     DoneFrom from o t t'         claim: the states from a place on are done
--     HandSays ..                  claim: they are handed over too
--     ClosedTest s b               claim: what is reached from what passes the test passes it too
--     MetIn s b t                  claim: what is met passes the test
--     Progress s marks holds ..    claim: what turns of a search keep
--     to_do o t                    number: how much is left to do
--     turns_left o t r             number: at most how many turns are left, where r is the last visit, if there is one
--     TurnSays, WalkSays, SearchSays   claims: what a turn, a search from one state, and one from several states leaves
use Rattle.std.specs.Prelude.{◌≡◌, Bool, true, false, ◌&&◌, ◌||◌, Option, is_some, IfSome, List, ℕ, suc, ◌+◌, ◌*◌, ◌-◌, ◌<◌, ◌≤◌, eqb, ltb, length, set}
use Rattle.rules.specs.Basics.{pick, bit, occurs}
use Rattle.rules.specs.Systems.{System, reaches}
use Rattle.components.specs.declared.walk.Open.{Open}
use Rattle.components.specs.declared.walk.States.{States}
use Rattle.components.specs.declared.walk.Visit.{Visit}
use Rattle.components.specs.declared.walk.Reading.{Reading}
use Rattle.components.specs.Places.{done_number, at}
use Rattle.components.specs.Visiting.{Searched, LettersRead, IsComponent}
use Rattle.components.specs.Handing.{Holds, HandedOver, SameBeside, ReachedAre}

abbrev pub done_in : System → List ℕ → ℕ → Bool
done_in s xs q = ltb q s.states && eqb (at xs q) done_number

pub record Room (s : System) (o : Open) (t : States) : Type 0 where
  pub small : s.states < done_number
  pub letters_small : s.letters < done_number
  pub numbers : s.states ≤ length t.numbers.now
  pub beyond : (q : ℕ) → s.states ≤ q → q < length t.numbers.now → at t.numbers.now q ≡ done_number
  pub nexts : s.states ≤ length t.nexts.now
  pub stack : s.states ≤ length o.stack.now
  pub path : s.states ≤ length o.path.now
  pub lows : s.states ≤ length o.lows.now
  pub sets : s.states ≤ length o.sets.now
  pub bytes : (k : ℕ) → k < o.depth → at o.sets.now k < 256

abbrev pub with_last : ℕ → ℕ → (ℕ → ℕ) → ℕ → ℕ
with_last d v f k = pick (eqb k d) v (f k)

abbrev pub next_at : Open → States → ℕ → ℕ
next_at o t k = at t.nexts.now (at o.path.now k)

pub record SearchedIn (s : System) (marks : ℕ → ℕ → ℕ) (o : Open) (t : States) (v : Visit) : Type 0 where
  pub room : Room s o t
  pub searched : Searched s marks o.count (suc o.depth) (at t.numbers.now) (at o.stack.now) (with_last o.depth v.state (at o.path.now))
      (with_last o.depth v.next (next_at o t)) (with_last o.depth v.low (at o.lows.now)) (with_last o.depth v.set (at o.sets.now))

pub record KeptIn (s : System) (marks : ℕ → ℕ → ℕ) (o : Open) (t : States) : Type 0 where
  pub room : Room s o t
  pub searched : Searched s marks o.count o.depth (at t.numbers.now) (at o.stack.now) (at o.path.now) (next_at o t) (at o.lows.now) (at o.sets.now)

pub record Scanned (s : System) (marks : ℕ → ℕ → ℕ) (t : States) (v : Visit) (r : Reading) : Type 0 where
  pub state : r.visit.state ≡ v.state
  pub read : LettersRead s marks (at t.numbers.now) v.state v.next r.visit.next v.low r.visit.low v.set r.visit.set
  pub fresh : IfSome r.fresh (λ w. (r.visit.next < s.letters) × (s.go v.state r.visit.next ≡ w) × (w < s.states) × (at t.numbers.now w ≡ 0))
  pub all : is_some r.fresh ≡ false → s.letters ≤ r.visit.next
  pub byte : r.visit.set < 256

-- what the stores leave
abbrev pub entered : ℕ → Open → Open
entered q o = record o { stack = record o.stack { now = set o.stack.now o.count q }; count = o.count + 1 }

abbrev pub numbered : ℕ → ℕ → States → States
numbered q v t = record t { numbers = record t.numbers { now = set t.numbers.now q v } }

abbrev pub begun : ℕ → ℕ → Visit
begun q v = record { state = q; next = 0; low = v; set = 0 }

abbrev pub kept : Visit → Open → Open
kept v o =
    record o {
      path = record o.path { now = set o.path.now o.depth v.state };
      lows = record o.lows { now = set o.lows.now o.depth v.low };
      sets = record o.sets { now = set o.sets.now o.depth v.set };
      depth = o.depth + 1;
    }

abbrev pub next_is : ℕ → ℕ → States → States
next_is q v t = record t { nexts = record t.nexts { now = set t.nexts.now q v } }

abbrev pub visit_at : Open → States → ℕ → Visit
visit_at o t k = record { state = at o.path.now k; next = next_at o t k; low = at o.lows.now k; set = at o.sets.now k }

pub record JoinSays (marks : ℕ → ℕ → ℕ) (v v' r : Visit) : Type 0 where
  pub state : r.state ≡ v.state
  pub next : r.next ≡ v.next + 1
  pub lower : (r.low ≤ v.low) × (r.low ≤ v'.low)
  pub either : r.low < v.low → r.low ≡ v'.low
  pub set : (i : ℕ) → bit i r.set ≡ bit i v.set || (bit i v'.set || bit i (marks v.state v.next))

pub record PassedDone (from to : ℕ) (stack : ℕ → ℕ) (numbers numbers' : List ℕ) : Type 0 where
  pub done : (i : ℕ) → from ≤ i → i < to → at numbers' (stack i) ≡ done_number
  pub others : (q : ℕ) → ((i : ℕ) → from ≤ i → i < to → stack i ≡ q → ⊥) → at numbers' q ≡ at numbers q
  pub fewer : occurs 0 numbers' ≤ occurs 0 numbers
  pub size : length numbers' ≡ length numbers

pub record DoneFrom (from : ℕ) (o : Open) (t t' : States) : Type 0 where
  pub passed : PassedDone from o.count (at o.stack.now) t.numbers.now t'.numbers.now
  pub nexts : t'.nexts ≡ t.nexts

pub record HandSays {T : Type 0} (holds : Holds T) (from bits : ℕ) (o : Open) (t t' : States) (x x' : T) : Type 0 where
  pub members : List ℕ
  pub many : length members ≡ o.count - from
  pub are : (i : ℕ) → i < length members → at members i ≡ at o.stack.now (from + i)
  pub entries : SameBeside members t.nexts.now t'.nexts.now
  pub done : (i : ℕ) → i < length members → at t'.numbers.now (at members i) ≡ done_number
  pub others : (q : ℕ) → ((i : ℕ) → i < length members → at members i ≡ q → ⊥) → at t'.numbers.now q ≡ at t.numbers.now q
  pub fewer : occurs 0 t'.numbers.now ≤ occurs 0 t.numbers.now
  pub size : length t'.numbers.now ≡ length t.numbers.now
  pub same : t'.nexts.ghost_name ≡ t.nexts.ghost_name
  pub takes : (s : System) (marks : ℕ → ℕ → ℕ) (done done' : ℕ → Bool) → holds x t.nexts.now s marks done → IsComponent s marks members bits
      → HandedOver members done done' → holds x' t'.nexts.now s marks done'

abbrev pub ClosedTest : System → (ℕ → Bool) → Type 0
ClosedTest s b = (p q : ℕ) → b p ≡ true → reaches s p q ≡ true → b q ≡ true

abbrev pub MetIn : System → (ℕ → Bool) → States → Type 0
MetIn s b t = (q : ℕ) → q < s.states → 0 < at t.numbers.now q → b q ≡ true

-- what is met stays met; the entries of what is not met, and of what is no state, are as they were; and a taker holds what was handed over
pub record Progress {T : Type 0} (s : System) (marks : ℕ → ℕ → ℕ) (holds : Holds T) (t t' : States) (x x' : T) : Type 0 where
  pub met : (q : ℕ) → q < s.states → 0 < at t.numbers.now q → 0 < at t'.numbers.now q
  pub rest : (q : ℕ) → (q < s.states → at t'.numbers.now q ≡ 0) → at t'.nexts.now q ≡ at t.nexts.now q
  pub size : length t'.nexts.now ≡ length t.nexts.now
  pub same : t'.nexts.ghost_name ≡ t.nexts.ghost_name
  pub takes : holds x t.nexts.now s marks (done_in s t.numbers.now) → holds x' t'.nexts.now s marks (done_in s t'.numbers.now)

abbrev pub to_do : Open → States → ℕ
to_do o t = 2 * occurs 0 t.numbers.now + o.depth

abbrev pub turns_left : Open → States → Option Visit → ℕ
turns_left o t r = pick (is_some r) 1 0 + to_do o t

pub record TurnSays {T : Type 0} (s : System) (marks : ℕ → ℕ → ℕ) (holds : Holds T) (o o' : Open) (t t' : States) (x x' : T)
    (r : Option Visit) : Type 0 where
  pub on : IfSome r (λ v. SearchedIn s marks o' t' v × (to_do o' t' < to_do o t))
  pub over : is_some r ≡ false → (o'.count ≡ 0) × (o'.depth ≡ 0) × KeptIn s marks o' t' × (to_do o' t' ≤ to_do o t)
  pub only : (b : ℕ → Bool) → ClosedTest s b → MetIn s b t → MetIn s b t'
  pub progress : Progress s marks holds t t' x x'

pub record WalkSays {T : Type 0} (s : System) (marks : ℕ → ℕ → ℕ) (holds : Holds T) (root : ℕ) (o o' : Open) (t t' : States) (x x' : T) : Type 0 where
  pub after : KeptIn s marks o' t'
  pub none : (o'.count ≡ 0) × (o'.depth ≡ 0)
  pub root_met : 0 < at t'.numbers.now root
  pub only : (b : ℕ → Bool) → ClosedTest s b → b root ≡ true → MetIn s b t → MetIn s b t'
  pub progress : Progress s marks holds t t' x x'

-- the components of all that the states from lo up to hi reach are handed over, and no others
pub record SearchSays {T : Type 0} (s : System) (marks : ℕ → ℕ → ℕ) (holds : Holds T) (lo hi : ℕ) (es es' : List ℕ) (x x' : T) : Type 0 where
  pub size : length es' ≡ length es
  pub taken : (done : ℕ → Bool) × ReachedAre s lo hi done × ((q : ℕ) → done q ≡ false → at es' q ≡ at es q) × (holds x es s marks (λ q. false) → holds x' es' s marks done)
