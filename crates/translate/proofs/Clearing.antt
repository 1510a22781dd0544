-- Zeros that a function writes into a part of an array.
--     cleared_part    an array whose places from i up to k were filled with 0
use mathlib.Core.Path.{◌≡◌, ◌∙◌, ap}
use mathlib.Core.List.{List}
use Prim.Native.Nat.{ℕ, ◌-◌, ◌≤◌}
use native.Mathlib.Omega.{arith}
use lib.ListN.{length, take, drop, replicate, length-take, length-drop}
use borrow.Rule.Slice.PartMut.{put_mid}
use Rattle.rules.specs.Arrays.{Cleared}
use Rattle.rules.proofs.Filling.{zeros_at}
use Rattle.std.proofs.Common.{rules}
use Rattle.std.proofs.lemmas.Grind.{common_steps}
use Rattle.std.proofs.lemmas.List.{places}

pub cleared_part : {i k : ℕ} {old zs : List ℕ} → i ≤ k → k ≤ length old → (((y : ℕ) → y ≡ 0 → y ≡ 0) → zs ≡ replicate (length (take (k - i) (drop i old))) 0)
    → Cleared i k old (put_mid i (k - i) old zs)
cleared_part {i} {k} {old} {zs} l r filled =
    rw zeros
    record {
      size = grind (arith, common_steps);
      front = λ j b. search (rules, places);
      zeros = λ j b u. grind (arith, common_steps, zeros_at);
      rest = λ j b. search (rules, places);
    }
  where
    zeros : zs ≡ replicate (k - i) 0
    zeros = filled (λ y e. e) ∙ ap (λ (n : ℕ). replicate n 0) (simp (length-take, length-drop) (omega arith))
