-- `explore::rows::Rows::read_from` meets its contract. The invariant: the rows below i are read.
use Prim.Native.Nat.{suc, ◌-◌, ◌≤◌}
use Rattle.explore.specs.Index.{Linked}
use Rattle.explore.specs.Exploring.{RowsPart}
use Rattle.explore.specs.Lending.{lent_in, SameLent}
use Rattle.explore.proofs.rows.Rows.read_from.Given as goal

abbrev pub invariant-loop-i : goal.invariant-loop-i
invariant-loop-i g l =
    RowsPart g.R.Rule.effect l.checked.task l.checked.cells.now l.fn.self.capacity l.i (lent_in l.fn.self) (lent_in l.self) l.known
    × (l.known ≤ l.fn.self.capacity) × Linked l.known l.self.keys.now l.index.heads l.index.links × (l.fn.from.known ≤ l.known) × SameLent l.fn.self l.self

abbrev pub decreases-loop-i : goal.decreases-loop-i
decreases-loop-i g l = suc l.fn.self.capacity - l.i
