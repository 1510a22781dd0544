-- The marks within a component, as one byte.
--     within_small    they are a byte
--     set_is          the set of a component that is handed over is these marks
use mathlib.Core.Path.{◌≡◌}
use mathlib.Core.List.{List}
use Prim.Native.Nat.{ℕ, ◌<◌}
use lib.ListN.{length}
use Rattle.rules.specs.Basics.{bit}
use Rattle.rules.specs.Systems.{System, some_within}
use Rattle.rules.proofs.Bits.{as_bits_below, bits_are}
use Rattle.components.specs.Places.{at}
use Rattle.components.specs.Visiting.{marks_within, IsComponent}

pub within_small : (s : System) (marks : ℕ → ℕ → ℕ) (q : ℕ) → marks_within s marks q < 256
unfolding marks_within
within_small s marks q = as_bits_below (λ b. some_within s (λ p a. bit b (marks p a)) q) 8

pub set_is : {s : System} {marks : ℕ → ℕ → ℕ} {members : List ℕ} {set : ℕ} → IsComponent s marks members set → set < 256 → (i : ℕ)
    → i < length members → set ≡ marks_within s marks (at members i)
unfolding marks_within
set_is {s} {marks} {members} {set} c small i l = bits_are 8 set _ small (λ b h. c.marked i b l)
