-- `records::Record::front` meets its contract. The invariant: the code holds the pairs of the set past position p.
use mathlib.Core.Path.{◌≡◌}
use lib.ListN.{drop}
use Rattle.rules.specs.Basics.{keep}
use Rattle.records.specs.Packed.{is_marked, packed, places}
use Rattle.records.proofs.Record.front.Given as goal

abbrev pub invariant-loop-p : goal.invariant-loop-p
invariant-loop-p l = l.code ≡ packed (keep (is_marked l.mask) (drop l.p (places l.self.code)))
