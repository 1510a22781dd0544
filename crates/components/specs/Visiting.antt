-- A depth-first search for components, in Tarjan's way: states are open from when they are met until their component is known. The open states are
-- on a stack, each with its place plus 1 as its number. Some of them are visited: their letters are being read, and each visited state but the last
-- has gone on to the next by the letter that it reads next. Each visited state knows the lowest number that it, or what was met after it and is
-- visited no longer, leads to, and a set with the marks of the transitions read there that stay in its component; for any system and whatever the marks are.
--     Places s c ..                        claim: numbers and places fit
--     IsRead l path next q a               claim: letter a of the open state q is read: q is visited no longer, or reads a later letter next
--     IsUnder c l number path k q          claim: q was met while visited state number k was the last, and is open
--     Visited s c l ..                     claim: l of the c open states are visited, in the order met; and how the open states lead to each other
--     Reads s marks c l ..                 claim: what the letters read lead to, and which marks are found
--     Closed s number                      claim: what is done leads only to what is done
--     Searched s marks c l ..              claim: `Places`, `Visited`, `Reads` and `Closed`
--     LettersRead s marks number q ..      claim: what the letters of q from `from` up to b give
--     marks_within s marks q               number: the marks that some inside transition of q's component has, as one byte
--     IsComponent s marks members set      claim: the members are a component, each listed once, and the set has the marks of its inside transitions
use Rattle.std.specs.Prelude.{◌≡◌, true, false, List, ℕ, suc, ◌-◌, ◌<◌, ◌≤◌, length}
use Rattle.rules.specs.Basics.{bit, as_bits}
use Rattle.rules.specs.Systems.{System, reaches, together, some_within}
use Rattle.components.specs.Places.{done_number, at, Rising}

pub record Places (s : System) (c : ℕ) (number stack : ℕ → ℕ) : Type 0 where
  pub few : c ≤ s.states
  pub state : (i : ℕ) → i < c → stack i < s.states
  pub numbered : (i : ℕ) → i < c → number (stack i) ≡ suc i
  pub placed : (q : ℕ) → q < s.states → 0 < number q → number q ≤ c → stack (number q - 1) ≡ q
  pub done : (q : ℕ) → q < s.states → c < number q → number q ≡ done_number

abbrev pub IsRead : ℕ → (ℕ → ℕ) → (ℕ → ℕ) → ℕ → ℕ → Type 0
IsRead l path next q a = (k : ℕ) → k < l → path k ≡ q → a < next k

pub record IsUnder (c l : ℕ) (number path : ℕ → ℕ) (k q : ℕ) : Type 0 where
  pub from : number (path k) ≤ number q
  pub within : number q ≤ c
  pub to : suc k < l → number q < number (path (suc k))

pub record Visited (s : System) (c l : ℕ) (number stack path : ℕ → ℕ) : Type 0 where
  pub some : 0 < c → 0 < l
  pub state : (k : ℕ) → k < l → path k < s.states
  pub met : (k : ℕ) → k < l → 0 < number (path k)
  pub within : (k : ℕ) → k < l → number (path k) ≤ c
  pub first : 0 < l → number (path 0) ≡ 1
  pub order : Rising l (λ k. number (path k))
  -- an open state leads to the next, and back, unless the next is visited
  pub forth : (i : ℕ) → suc i < c → reaches s (stack i) (stack (suc i)) ≡ true
  pub back : (i : ℕ) → suc i < c → ((k : ℕ) → k < l → path k ≡ stack (suc i) → ⊥) → reaches s (stack (suc i)) (stack i) ≡ true

pub record Reads (s : System) (marks : ℕ → ℕ → ℕ) (c l : ℕ) (number stack path next low set : ℕ → ℕ) : Type 0 where
  pub upto : (k : ℕ) → k < l → next k ≤ s.letters
  pub letter : (k : ℕ) → suc k < l → next k < s.letters
  pub led : (k : ℕ) → suc k < l → s.go (path k) (next k) ≡ path (suc k)
  pub some : (k : ℕ) → k < l → 0 < low k
  pub lower : (k : ℕ) → k < l → low k ≤ number (path k)
  pub low_met : (k : ℕ) → k < l → reaches s (path k) (stack (low k - 1)) ≡ true
  pub least : (k q a : ℕ) → k < l → q < s.states → IsUnder c l number path k q → a < s.letters → IsRead l path next q a → s.go q a < s.states
      → low k ≤ number (s.go q a)
  pub held : (k q a b : ℕ) → k < l → q < s.states → IsUnder c l number path k q → a < s.letters → IsRead l path next q a → s.go q a < s.states
      → number (s.go q a) ≤ c → bit b (marks q a) ≡ true → bit b (set k) ≡ true
  pub real : (k b : ℕ) → k < l → bit b (set k) ≡ true → some_within s (λ p a. bit b (marks p a)) (path k) ≡ true

abbrev pub Closed : System → (ℕ → ℕ) → Type 0
Closed s number = (q a : ℕ) → q < s.states → number q ≡ done_number → a < s.letters → s.go q a < s.states → number (s.go q a) ≡ done_number

pub record Searched (s : System) (marks : ℕ → ℕ → ℕ) (c l : ℕ) (number stack path next low set : ℕ → ℕ) : Type 0 where
  pub places : Places s c number stack
  pub visited : Visited s c l number stack path
  pub reads : Reads s marks c l number stack path next low set
  pub closed : Closed s number

-- the letters of q from `from` up to b are read: none leads to a state that is not met; the lowest number was `low` and is low', the set was
-- `set` and is set'
pub record LettersRead (s : System) (marks : ℕ → ℕ → ℕ) (number : ℕ → ℕ) (q from b low low' set set' : ℕ) : Type 0 where
  pub upto : b ≤ s.letters
  pub met : (a : ℕ) → from ≤ a → a < b → a < s.letters → s.go q a < s.states → 0 < number (s.go q a)
  pub lower : low' ≤ low
  pub least : (a : ℕ) → from ≤ a → a < b → a < s.letters → s.go q a < s.states → low' ≤ number (s.go q a)
  pub low_met : low' < low → (a : ℕ) × (from ≤ a) × (a < b) × (a < s.letters) × (s.go q a < s.states) × (number (s.go q a) ≡ low')
  pub kept : (i : ℕ) → bit i set ≡ true → bit i set' ≡ true
  pub held : (a i : ℕ) → from ≤ a → a < b → a < s.letters → s.go q a < s.states → (number (s.go q a) ≡ done_number → ⊥) → bit i (marks q a) ≡ true
      → bit i set' ≡ true
  pub real : (i : ℕ) → bit i set ≡ false → bit i set' ≡ true
      → (a : ℕ) × (from ≤ a) × (a < b) × (a < s.letters) × (s.go q a < s.states) × (number (s.go q a) ≡ done_number → ⊥) × (bit i (marks q a) ≡ true)

unfoldable pub marks_within : System → (ℕ → ℕ → ℕ) → ℕ → ℕ
marks_within s marks q = as_bits 8 (λ b. some_within s (λ p a. bit b (marks p a)) q)

pub record IsComponent (s : System) (marks : ℕ → ℕ → ℕ) (members : List ℕ) (set : ℕ) : Type 0 where
  pub some : 0 < length members
  pub state : (i : ℕ) → i < length members → at members i < s.states
  pub apart : (i j : ℕ) → i < j → j < length members → at members i ≡ at members j → ⊥
  pub shared : (i j : ℕ) → i < length members → j < length members → together s (at members i) (at members j) ≡ true
  pub whole : (i q : ℕ) → i < length members → together s (at members i) q ≡ true → (j : ℕ) × (j < length members) × (at members j ≡ q)
  pub marked : (i b : ℕ) → i < length members → bit b set ≡ some_within s (λ p a. bit b (marks p a)) (at members i)
