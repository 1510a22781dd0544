-- `records::Record::number` meets its contract. The invariant: the number still has room for a digit, and followed by the pairs from position p on
-- it is the whole number.
use mathlib.Core.Path.{◌≡◌}
use mathlib.Core.List.{◌∷◌}
use Prim.Native.Nat.{suc, ◌*◌, ◌^◌, ◌≤◌}
use lib.ListN.{drop}
use Rattle.rules.specs.Basics.{keep}
use Rattle.rules.specs.Records.{decimal_from, decimal}
use Rattle.records.specs.Packed.{is_pair, places, pairs_in}
use Rattle.records.proofs.Record.number.Given as goal

abbrev pub invariant-loop-p : goal.invariant-loop-p
invariant-loop-p l =
    (10 * suc l.number ≤ 10 ^ l.p) × (decimal_from l.number (keep is_pair (drop l.p (0 ∷ places l.self.code))) ≡ decimal (pairs_in l.self.code))
