-- `components::path_to` meets its contract. The invariant: the entries before begin are untouched; and where the places met lead to earlier ones, the
-- letters from begin on lead from the state at place i to that at the place asked for.
use Rattle.components.proofs.Reaches.{Leading}
use Rattle.components.proofs.path_to.Given as goal

abbrev pub invariant-loop-i : goal.invariant-loop-i
invariant-loop-i l = Leading l.place l.parents l.by l.initial.out l.out l.begin l.i

abbrev pub decreases-loop-i : goal.decreases-loop-i
decreases-loop-i l = l.begin
