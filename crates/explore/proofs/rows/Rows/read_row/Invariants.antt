-- `explore::rows::Rows::read_row` meets its contract: the effects of the row's cells, and then its letters. The invariant: row i is read by the letters below a.
use Prim.Native.Nat.{◌≤◌}
use Rattle.explore.specs.Index.{Linked}
use Rattle.explore.specs.Lending.{lent_in, SameLent}
use Rattle.explore.proofs.Rounds.{RowPart}
use Rattle.explore.proofs.rows.Rows.read_row.Given as goal

abbrev pub invariant-loop-a : goal.invariant-loop-a
invariant-loop-a g l =
    RowPart g.R.Rule.effect l.checked.task l.checked.cells.now l.fn.self.capacity l.n l.i l.a (lent_in l.fn.self) (lent_in l.self) l.known
    × (l.known ≤ l.fn.self.capacity) × Linked l.known l.self.keys.now l.index.heads l.index.links × SameLent l.fn.self l.self
