-- `explore::rows::Rows::read_row` meets its contract: the effects of the row's cells, and then its letters. The invariant: row i is read by the letters below a.
use borrow.Author.Rules.{rules}
use native.Mathlib.Omega.{arith}
use Rattle.rules.proofs.Arrays.{row_ends}
use Rattle.explore.proofs.Steps.{row_size, row_effect, row_step}
use Rattle.explore.proofs.LendingLaws.{same_then}
use Rattle.explore.proofs.Rounds.{row_next, row_full}
use Rattle.explore.proofs.rows.Rows.read_row.Goals as goal

pub read_cell-requires : goal.read_cell-requires
read_cell-requires g c =
    let s = c.args in
    let i = c.loop-a in
    let f = i.invariant in
    let k = f.0.known f.1 in
    let letter = rw (row_size g.R.Rule.effect s.checked.task s.checked.cells.now _ (c.requires.1.fits s.i c.requires.0)) at c.loop-a-test.true in
    let in_rows = row_ends s.self.now.capacity s.checked.task.letters s.i (omega (arith, c.requires.0, c.requires.1.filed.few)) in
    let effect = row_effect g.R.Rule.effect s.checked.task s.checked.cells.now _ (c.requires.1.fits s.i c.requires.0) i.a _ _ c.loop-a-test.true c.write_effects-stride.ensures in
    rw f.3.capacity
    (search rules, (k.filed, f.2, λ l. c.requires.3 i.known l (omega (arith, f.0.most, letter)), effect.small, omega (arith, letter, in_rows, k.target_room), omega (arith, letter, in_rows, k.priority_room)))

pub returns-in_err-known-clause-row : goal.returns-in_err-known-clause-row
returns-in_err-known-clause-row g c =
    let s = c.args in
    let i = c.loop-a in
    let f = i.invariant in
    let letter = rw (row_size g.R.Rule.effect s.checked.task s.checked.cells.now _ (c.requires.1.fits s.i c.requires.0)) at c.loop-a-test.true in
    let x = rw f.3.capacity at c.in_err-known.ensures.cell in
    let step = row_step g.R.Rule.effect s.checked.task s.checked.cells.now _ (c.requires.1.fits s.i c.requires.0) i.a _ _ c.loop-a-test.true c.write_effects-stride.ensures _ (f.0.front f.1) in
    rw (c.from_residual.ensures, x.2) (row_full g.R.Rule.effect s.checked.task s.checked.cells.now _ _ _ _ _ _ _ _ _ _ _ s.checked.closed c.requires.0 letter f.1 f.0 _ step x.0 x.1)

pub loop-a-preserved : goal.loop-a-preserved
loop-a-preserved g c =
    let s = c.args in
    let i = c.loop-a in
    let f = i.invariant in
    let letter = rw (row_size g.R.Rule.effect s.checked.task s.checked.cells.now _ (c.requires.1.fits s.i c.requires.0)) at c.loop-a-test.true in
    let x = rw f.3.capacity at c.in_ok-known.ensures.cell in
    let step = row_step g.R.Rule.effect s.checked.task s.checked.cells.now _ (c.requires.1.fits s.i c.requires.0) i.a _ _ c.loop-a-test.true c.write_effects-stride.ensures _ (f.0.front f.1) in
    (row_next g.R.Rule.effect s.checked.task s.checked.cells.now _ _ _ _ _ _ _ _ _ _ _ _ _ _ _ s.checked.closed c.requires.0 letter f.1 f.0 _ step x.0, x.1, x.2, same_then f.3 c.in_ok-known.ensures.same)
