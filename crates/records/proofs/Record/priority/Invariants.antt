-- `records::Record::priority` meets its contract. The invariant: the positions from p on make of `best` the whole priority.
use mathlib.Core.Path.{◌≡◌}
use mathlib.Core.List.{◌∷◌}
use lib.ListN.{drop}
use Rattle.rules.specs.Records.{priority_from, priority}
use Rattle.records.specs.Packed.{marks_by, places}
use Rattle.records.proofs.Record.priority.Given as goal

abbrev pub invariant-loop-p : goal.invariant-loop-p
invariant-loop-p l =
    priority_from l.p (marks_by l.prohibited l.required) (drop l.p (0 ∷ places l.self.code)) l.best
    ≡ priority (marks_by l.prohibited l.required) (places l.self.code)
