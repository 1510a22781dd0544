-- Components are handed over one after the other.
--     Holds T                              type: what may hold of a taker and the entries once the components of some states are handed over
--     Lasts holds                          claim: it goes on to hold, whatever the entries of the other states are
--     HandedOver members done done'        claim: the members are not done, and then they are, with what was done before
--     SameBeside members es es'            claim: the arrays are the same beside the entries of the members
--     search_fits s lo hi ..               test: a search from the states from lo up to hi can begin: sizes, and the lengths of three arrays: an entry
--                                          for each state, four to work in, an entry for each state
--     ReachedAre s lo hi done              claim: a state is done exactly if some state from lo up to hi reaches it, and nothing else is done
--     NamedIn es s done                    claim: what is done has the smallest state of its component in its entry
--     ComponentsTaken s marks holds ..     claim: the components of what these states reach, and no others, are handed to a taker; the other states'
--                                          entries are as they were
use Rattle.std.specs.Prelude.{◌≡◌, Bool, true, false, ◌&&◌, List, ℕ, ◌*◌, ◌<◌, ◌≤◌, ltb, leb, length}
use Rattle.rules.specs.Systems.{System, reaches, component_of}
use Rattle.components.specs.Places.{done_number, at}

abbrev pub Holds : Type 0 → Type 1
Holds T = T → List ℕ → System → (ℕ → ℕ → ℕ) → (ℕ → Bool) → Type 0

abbrev pub Lasts : {T : Type 0} → Holds T → Type 0
Lasts {T} holds =
    (x : T) (es es' : List ℕ) (s : System) (marks : ℕ → ℕ → ℕ) (done done' : ℕ → Bool) → holds x es s marks done → length es' ≡ length es
    → ((q : ℕ) → done' q ≡ done q) → ((q : ℕ) → done q ≡ true → at es' q ≡ at es q) → holds x es' s marks done'

pub record HandedOver (members : List ℕ) (done done' : ℕ → Bool) : Type 0 where
  pub fresh : (i : ℕ) → i < length members → done (at members i) ≡ false
  pub now : (i : ℕ) → i < length members → done' (at members i) ≡ true
  pub others : (q : ℕ) → ((i : ℕ) → i < length members → at members i ≡ q → ⊥) → done' q ≡ done q

pub record SameBeside (members es es' : List ℕ) : Type 0 where
  pub size : length es' ≡ length es
  pub others : (q : ℕ) → ((i : ℕ) → i < length members → at members i ≡ q → ⊥) → at es' q ≡ at es q

abbrev pub search_fits : System → ℕ → ℕ → ℕ → ℕ → ℕ → Bool
search_fits s lo hi a w e =
    ltb s.states done_number && (ltb s.letters done_number && (leb lo hi && (leb hi s.states && (leb s.states a && (leb (4 * s.states) w && leb s.states e)))))

-- what one of these states reaches is done; what none of them reaches is not, nor is what is no state
pub record ReachedAre (s : System) (lo hi : ℕ) (done : ℕ → Bool) : Type 0 where
  pub reached : (r q : ℕ) → lo ≤ r → r < hi → q < s.states → reaches s r q ≡ true → done q ≡ true
  pub others : (q : ℕ) → q < s.states → ((r : ℕ) → lo ≤ r → r < hi → reaches s r q ≡ false) → done q ≡ false
  pub states : (q : ℕ) → s.states ≤ q → done q ≡ false

abbrev pub NamedIn : List ℕ → System → (ℕ → Bool) → Type 0
NamedIn es s done = (q : ℕ) → q < s.states → done q ≡ true → at es q ≡ component_of s q

pub record ComponentsTaken {T : Type 0} (s : System) (marks : ℕ → ℕ → ℕ) (holds : Holds T)
    (lo hi a w : ℕ) (es es' : List ℕ) (x x' : T) (r : Bool) : Type 0 where
  pub answer : r ≡ search_fits s lo hi a w (length es)
  pub unfit : r ≡ false → (x' ≡ x) × (es' ≡ es)
  pub size : length es' ≡ length es
  pub taken : r ≡ true → (done : ℕ → Bool) × ReachedAre s lo hi done × ((q : ℕ) → done q ≡ false → at es' q ≡ at es q)
      × (holds x es s marks (λ q. false) → holds x' es' s marks done)
