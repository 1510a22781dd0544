-- `survey::layout::lay_targets` meets its contract.
use native.Mathlib.Nat.{le_antisymm}
use Rattle.rules.proofs.Filling.{filled_over}
use Rattle.survey.proofs.layout.lay_targets.Goals as goal

pub returns : goal.returns
returns c = filled_over _ _ _ _ c.requires (rw (le_antisymm c.loop-c.auto.c-end c.loop-c-test.false) at c.loop-c.invariant)
