-- `tables::check::bad_targets` meets its contract.
use Rattle.std.proofs.Common.{◌∙◌, arith}
use Rattle.rules.proofs.Sets.{any_turn, any_end}
use Rattle.tables.proofs.check.bad_targets.Goals as goal

pub loop-target-preserved : goal.loop-target-preserved
loop-target-preserved c = let i = c.loop-target in any_turn _ i.bad _ i.target-index (omega arith) ∙ i.invariant

pub returns : goal.returns
returns c = any_end _ c.loop-target.bad c.args.targets.now c.loop-target.target-index c.loop-target-test.false c.loop-target.invariant
