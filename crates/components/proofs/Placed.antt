-- Open states and their places.
--     room    where a state is not yet met, not all are open
use mathlib.Core.Path.{◌≡◌, ap}
use Prim.Native.Nat.{ℕ, ◌<◌, ◌≤◌}
use native.Mathlib.Omega.{arith}
use lib.Dec.{ltb}
use borrow.Author.Tests.{lt-ltb, ltb-true, ltb-false}
use mathlib.Core.Bool.{true}
use Rattle.rules.specs.Basics.{pick}
use Rattle.rules.specs.Systems.{System}
use Rattle.rules.proofs.Bools.{by}
use Rattle.rules.proofs.Pigeonhole.{pigeonhole}
use Rattle.components.specs.Visiting.{Places}

-- not all states are open where one is not yet met
module _ (s : System) (c : ℕ) (number stack : ℕ → ℕ) (x : Places s c number stack) (w : ℕ) (l : w < s.states) (z : number w ≡ 0) where
  abbrev placed : ℕ → ℕ
  placed i = pick (ltb i s.states) (stack i) w

  placed_below : s.states ≤ c → (i : ℕ) → i ≤ s.states → placed i < s.states
  placed_below h i b = by (ltb i s.states) (λ e. rw e (x.state i (omega (arith, ltb-true i s.states e)))) (λ e. rw e l)

  placed_differ : s.states ≤ c → (i j : ℕ) → i < j → j ≤ s.states → placed i ≡ placed j → ⊥
  placed_differ h i j b t e =
      let f : ltb i s.states ≡ true = lt-ltb i s.states (omega arith) in
      by
      (ltb j s.states)
      (λ g. omega (arith, x.numbered i (omega arith), x.numbered j (omega (arith, ltb-true j s.states g)), ap number (rw (f, g) at e)))
      (λ g. omega (arith, x.numbered i (omega arith), ap number (rw (f, g) at e)))

  pub room : c < s.states
  room = by (ltb c s.states) (λ e. ltb-true c s.states e) (λ e. absurd (full (ltb-false c s.states e)))
    where
      full : s.states ≤ c → ⊥
      full h = let r = pigeonhole s.states placed (placed_below h) in placed_differ h r.0 r.1 r.2 r.3 r.4
