-- `survey::homes::narrow` meets its contract.
use native.Mathlib.Nat.{le_antisymm}
use Rattle.rules.proofs.Filling.{filled_over}
use Rattle.survey.proofs.homes.narrow.Goals as goal

pub returns : goal.returns
returns c = filled_over _ _ _ _ c.requires.0 (rw (le_antisymm c.loop-q.auto.q-end c.loop-q-test.false) at c.loop-q.invariant)
