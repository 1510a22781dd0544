-- `components::reach::Met::read_state` meets its contract.
use Rattle.std.proofs.Common.{◌∙◌, arith}
use Rattle.components.proofs.Reaches.{reaching_more}
use Rattle.components.proofs.reach.Met.read_state.Goals as goal

pub loop-a-preserved : goal.loop-a-preserved
loop-a-preserved c =
    let i = c.loop-a.invariant in
    let r = c.read_letter.ensures in
    record { more = omega (arith, i.more, r.0.more); same = r.1 ∙ i.same; reaching = reaching_more _ _ _ _ _ _ _ _ _ i.reaching r.0 }
