-- `components::reach::search` meets its contract.
use Rattle.std.proofs.Common.{rules}
use Rattle.components.proofs.Reaches.{reaching_all}
use Rattle.components.proofs.reach.search.Goals as goal

pub returns-clause-says : goal.returns-clause-says
returns-clause-says c =
    let i = c.loop-k.invariant in
    reaching_all _ _ _ _ _ _ _ _ _ i.reaching i.read c.loop-k-test.false c.requires.1 (search rules) (search rules) (search rules) (search rules)
