-- `explore::effects::write_each` meets its contract. The invariant: the effects of the codes below a are written.
use lib.ListN.{get_or}
use Rattle.rules.proofs.Filling.{Filled}
use Rattle.explore.specs.Cells.{marks_in}
use Rattle.explore.specs.Effects.{IsEffect}
use Rattle.explore.proofs.effects.write_each.Given as goal

abbrev pub invariant-loop-a : goal.invariant-loop-a
invariant-loop-a g l = Filled (λ b e. IsEffect g.R.Rule.effect l.memory (marks_in (get_or l.row b 0)) e) l.initial.effects l.effects l.a
