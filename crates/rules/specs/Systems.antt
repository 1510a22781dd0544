-- Transition systems: reach and components, for any number of states.
--     System               record: states 0 .. states - 1, letters 0 .. letters - 1, and where a state goes by a letter; a target that is no
--                          state means that there is no transition (a partial deterministic transition system)
--     linked s p q         test: some letter leads from p to q
--     via e k p q          test: a chain of links e leads from p to q, passing only through states below k (Warshall's closure)
--     reaches s p q        test: p and q are equal, or a chain of transitions leads from p to q
--     together s p q       test: p and q share a component (a strongly connected component)
--     component_of s q     number: the smallest state of q's component
--     is_inside s q a      test: the transition of q by a is there and both its ends share a component; if it is there and is not inside, it is
--                          crossing
--     some_within s b q    test: some inside transition of q's component passes the test b
--     Path s p w q         claim: the letters of w lead from p to q by transitions that are there
--     Leads s p q          claim: some letters lead from p to q
--     ComponentsAre s f    claim: f gives each state the smallest state of its component, in terms of paths
--     cell m q a           number: that of the cell of state (or row) q and letter a in a table with m letters
use Rattle.std.specs.Prelude.{◌≡◌, ◌↔◌, Bool, ◌&&◌, ◌||◌, List, [], ◌∷◌, ℕ, zero, suc, ◌+◌, ◌*◌, ◌<◌, ◌≤◌, eqb, ltb}
use Rattle.rules.specs.Basics.{any_below, least}

pub record System : Type 0 where
  pub states : ℕ
  pub letters : ℕ
  pub go : ℕ → ℕ → ℕ

unfoldable pub linked : System → ℕ → ℕ → Bool
linked s p q = ltb q s.states && any_below s.letters (λ a. eqb (s.go p a) q)

abbrev pub via : (ℕ → ℕ → Bool) → ℕ → ℕ → ℕ → Bool
via e zero p q = e p q
via e (suc k) p q = via e k p q || (via e k p k && via e k k q)

unfoldable pub reaches : System → ℕ → ℕ → Bool
reaches s p q = eqb p q || via (linked s) s.states p q

unfoldable pub together : System → ℕ → ℕ → Bool
together s p q = reaches s p q && reaches s q p

unfoldable pub component_of : System → ℕ → ℕ
component_of s q = least s.states 0 (together s q)

unfoldable pub is_inside : System → ℕ → ℕ → Bool
is_inside s q a = ltb (s.go q a) s.states && together s q (s.go q a)

unfoldable pub some_within : System → (ℕ → ℕ → Bool) → ℕ → Bool
some_within s b q = any_below s.states (λ p. together s q p && any_below s.letters (λ a. is_inside s p a && b p a))

pub data Path (s : System) : ℕ → List ℕ → ℕ → Type 0 where
  here : {p : ℕ} → Path s p [] p
  step : {p a : ℕ} {w : List ℕ} {q : ℕ} → a < s.letters → s.go p a < s.states → Path s (s.go p a) w q → Path s p (a ∷ w) q

abbrev pub Leads : System → ℕ → ℕ → Type 0
Leads s p q = (w : List ℕ) × Path s p w q

pub record ComponentsAre (s : System) (f : ℕ → ℕ) : Type 0 where
  -- two states have the same number exactly if each reaches the other
  pub shared : (p q : ℕ) → p < s.states → q < s.states → (f p ≡ f q) ↔ (Leads s p q × Leads s q p)
  -- the number is a state of the component, and none of it is smaller
  pub member : (q : ℕ) → q < s.states → (f q < s.states) × (f (f q) ≡ f q)
  pub smallest : (p q : ℕ) → p < s.states → q < s.states → f p ≡ f q → f q ≤ p

abbrev pub cell : ℕ → ℕ → ℕ → ℕ
cell m q a = q * m + a
