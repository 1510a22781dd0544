-- `explore::rows::Rows::explore` meets its contract: with a small index if few rows are found, else with both.
use borrow.Author.Rules.{rules}
use native.Mathlib.Omega.{arith}
use Rattle.explore.proofs.Rounds.{stage_begun, all_after}
use Rattle.explore.proofs.Answers.{rows_done, many_after}
use Rattle.explore.proofs.rows.Rows.explore.Goals as goal

pub read_from-requires : goal.read_from-requires
read_from-requires g c =
    let s = c.args in
    let k = s.checked.closed in
    (stage_begun g.R.Rule.effect s.checked.task s.checked.cells.now _ _ _ _ k c.requires, omega arith, omega arith, omega arith, omega arith, λ x l n. omega (arith, k.most_letters))

pub returns-then-few : goal.returns-then-few
returns-then-few g c =
    let s = c.args in
    let x = c.in_ok-few.ensures.rows in
    record {
      all = (all_after g.R.Rule.effect s.checked.task s.checked.cells.now _ _ _ _ _ _ _ _ _ c.requires.some_rows x.0.longer (rows_done _ _ _ _ _ _ _ _ _ _ _ _ x.0.part (λ l k. absurd (omega (arith, c.if-few.true)))), x.1);
      same = search rules;
    }

pub returns-in_err-all : goal.returns-in_err-all
returns-in_err-all g c =
    let s = c.args in
    let x = c.in_ok-few.ensures.rows in
    let y = rw c.in_ok-few.ensures.same.capacity at c.in_err-all.ensures.rows in
    rw c.from_residual-in_err-all.ensures
    (record {
      all = all_after g.R.Rule.effect s.checked.task s.checked.cells.now _ _ _ _ _ _ _ _ _ c.requires.some_rows (omega arith) (many_after _ _ _ _ _ _ _ _ _ _ _ _ x.0.part x.1 _ _ _ _ (omega arith) y);
      same = search rules;
    })

pub returns : goal.returns
returns g c =
    let s = c.args in
    let x = c.in_ok-few.ensures.rows in
    let y = rw c.in_ok-few.ensures.same.capacity at c.in_ok-all.ensures.rows in
    record {
      all = (all_after g.R.Rule.effect s.checked.task s.checked.cells.now _ _ _ _ _ _ _ _ _ c.requires.some_rows (omega (arith, x.0.longer, y.0.longer)) (many_after _ _ _ _ _ _ _ _ _ _ _ _ x.0.part x.1 _ _ _ _ y.0.longer (rows_done _ _ _ _ _ _ _ _ _ _ _ _ y.0.part (λ l k. y.0.ended l k k))), y.1);
      same = search rules;
    }
