-- `explore::index::Index::of` meets its contract. The invariant: the first i keys are indexed.
use Rattle.explore.specs.Index.{Indexed}
use Rattle.explore.proofs.index.Index.of.Given as goal

abbrev pub invariant-loop-i : goal.invariant-loop-i
invariant-loop-i g l = Indexed g.row.SLOTS l.i l.keys l.index.heads l.index.links
