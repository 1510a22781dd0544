-- `records::Record::rear` meets its contract. The invariant: the positions from p on make of the code what all positions make of the empty one.
use mathlib.Core.Path.{◌≡◌}
use mathlib.Core.Bool.{not}
use mathlib.Core.List.{◌∷◌}
use Prim.Native.Nat.{◌<◌}
use lib.ListN.{drop}
use Rattle.records.specs.Packed.{is_marked, places}
use Rattle.records.proofs.Packing.{in_rear}
use Rattle.records.proofs.Record.rear.Given as goal

abbrev pub invariant-loop-p : goal.invariant-loop-p
invariant-loop-p l =
    (l.code < 262144) × (in_rear (λ i. not (is_marked l.mask i)) l.code (drop l.p (0 ∷ places l.self.code)) ≡ in_rear (λ i. not (is_marked l.mask i)) 0 (places l.self.code))
