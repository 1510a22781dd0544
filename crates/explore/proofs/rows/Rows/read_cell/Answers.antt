-- `explore::rows::Rows::read_cell` meets its contract: the transition is missing, or its key is filed, or there is no room for it.
use native.Mathlib.Omega.{arith}
use Rattle.explore.proofs.FilingLaws.{number_most}
use Rattle.explore.proofs.Steps.{read_there}
use Rattle.explore.proofs.rows.Rows.read_cell.Goals as goal

pub overflow_cast-self : goal.overflow_cast-self
overflow_cast-self g c =
    let s = c.args in
    omega (arith, c.in_ok-row.ensures.0.number, number_most s.n c.in-Some.step.key s.self.now.keys.now (omega (arith, c.requires.0.few, c.requires.0.key_room)), c.requires.0.few, c.requires.0.most)

pub returns-clause-cell : goal.returns-clause-cell
returns-clause-cell g c =
    let x = c.in_ok-row.ensures in
    let t = c.in-Some.ensures in
    (read_there _ _ _ _ _ _ _ _ _ _ _ _ t.0 t.1 t.2 x.0 x.1, x.2, x.3)
