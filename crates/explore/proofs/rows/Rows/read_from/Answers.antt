-- `explore::rows::Rows::read_from` meets its contract. The invariant: the rows below i are read.
use borrow.Author.Rules.{rules}
use native.Mathlib.Omega.{arith}
use Rattle.explore.proofs.LendingLaws.{same_then}
use Rattle.explore.proofs.Rounds.{rows_next, all_over}
use Rattle.explore.proofs.rows.Rows.read_from.Goals as goal

pub read_row-requires : goal.read_row-requires
read_row-requires g c =
    let f = c.loop-i.invariant in
    rw f.4.capacity (search rules, (omega arith, (f.0.stage f.1).known, f.2, λ x l k. c.requires.5 x l (omega arith)))

pub returns-in_err-known : goal.returns-in_err-known
returns-in_err-known g c =
    let s = c.args in
    let f = c.loop-i.invariant in
    let x = rw f.4.capacity at c.in_err-known.ensures.row in
    rw c.from_residual.ensures
    (record {
      rows = all_over g.R.Rule.effect s.checked.task s.checked.cells.now _ _ _ _ _ _ _ _ _ (omega arith) (rows_next g.R.Rule.effect s.checked.task s.checked.cells.now _ _ _ _ _ _ _ _ _ _ _ _ _ (omega arith) f.1 f.0 x);
      same = same_then f.4 c.in_err-known.ensures.same;
    })

pub loop-i-preserved : goal.loop-i-preserved
loop-i-preserved g c =
    let s = c.args in
    let f = c.loop-i.invariant in
    let x = rw f.4.capacity at c.in_ok-known.ensures.row in
    (rows_next g.R.Rule.effect s.checked.task s.checked.cells.now _ _ _ _ _ _ _ _ _ _ _ _ _ (omega arith) f.1 f.0 x.0, x.1, x.2, omega (arith, x.0.longer, f.3), same_then f.4 c.in_ok-known.ensures.same)
