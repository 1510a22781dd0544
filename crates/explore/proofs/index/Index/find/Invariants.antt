-- `explore::index::Index::find` meets its contract. The invariant: the search is at `at`, and every place of the key is below it.
use Prim.Native.Nat.{ℕ, ◌≤◌}
use lib.ListN.{length}
use Rattle.explore.specs.Index.{Linked}
use Rattle.explore.proofs.Chains.{Sought}
use Rattle.explore.proofs.index.Index.find.Given as goal

abbrev pub invariant-loop-at : goal.invariant-loop-at
invariant-loop-at g l =
    (l.at ≤ length l.keys) × (l.at ≤ length l.self.links) × ((n : ℕ) → Linked n l.keys l.self.heads l.self.links → Sought (length l.self.heads) n l.key l.keys l.at)

abbrev pub decreases-loop-at : goal.decreases-loop-at
decreases-loop-at g l = l.at
