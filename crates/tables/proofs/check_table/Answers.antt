-- `tables::check_table` meets its contract: each return is one law of `Refused`, from what the tests before it left.
use Rattle.std.proofs.Common.{sym, ◌∙◌}
use borrow.Author.Tests.{lt-ltb, le-ltb, le-leb, lt-leb}
use Rattle.rules.specs.Basics.{first_of, when}
use Rattle.rules.specs.Refusals as Refusal
use Rattle.rules.specs.Says.{CheckSays}
use Rattle.tables.proofs.Refused.{header_short, sizes_bad, cells_short, cells_long, start_bad, cells_judged}
use Rattle.tables.proofs.check_table.Goals as goal
use Rattle.tables.proofs.check_table.Goals.{After-bad_marks-wrong_marks}

pub returns-then-table-lt-HEADER_SIZE-clause-says : goal.returns-then-table-lt-HEADER_SIZE-clause-says
returns-then-table-lt-HEADER_SIZE-clause-says c = header_short _ (lt-ltb _ _ c.if-table-lt-HEADER_SIZE.true)

pub returns-then-bad_sizes-clause-says : goal.returns-then-bad_sizes-clause-says
returns-then-bad_sizes-clause-says c = sizes_bad _ (le-ltb _ _ c.if-table-lt-HEADER_SIZE.false) (sym c.bad_sizes.ensures ∙ c.if-bad_sizes.true)

pub returns-then-table-length-clause-says : goal.returns-then-table-length-clause-says
returns-then-table-length-clause-says c =
    cells_short _ (le-ltb _ _ c.if-table-lt-HEADER_SIZE.false) (sym c.bad_sizes.ensures ∙ c.if-bad_sizes.false) (lt-ltb _ _ (rw (c.from.ensures, c.from-2.ensures) at c.if-table-length.true))

pub returns-then-length-table-clause-says : goal.returns-then-length-table-clause-says
returns-then-length-table-clause-says c =
    cells_long _ (le-ltb _ _ c.if-table-lt-HEADER_SIZE.false) (sym c.bad_sizes.ensures ∙ c.if-bad_sizes.false) (le-ltb _ _ (rw (c.from.ensures, c.from-2.ensures) at c.if-table-length.false))
    (lt-ltb _ _ (rw (c.from.ensures, c.from-2.ensures) at c.if-length-table.true))

pub returns-then-n-table-clause-says : goal.returns-then-n-table-clause-says
returns-then-n-table-clause-says c =
    start_bad _ (le-ltb _ _ c.if-table-lt-HEADER_SIZE.false) (sym c.bad_sizes.ensures ∙ c.if-bad_sizes.false) (le-ltb _ _ (rw (c.from.ensures, c.from-2.ensures) at c.if-table-length.false))
    (le-ltb _ _ (rw (c.from.ensures, c.from-2.ensures) at c.if-length-table.false)) (le-leb _ _ c.if-n-table.true)

-- the cells are all there, and both tests of them are made
judged : (c : After-bad_marks-wrong_marks)
    → CheckSays c.args.table.now (first_of (when c.bad_targets-wrong_target.result Refusal.target) (when c.bad_marks-wrong_marks.result Refusal.marks))
judged c =
    cells_judged _ (le-ltb _ _ c.if-table-lt-HEADER_SIZE.false) (sym c.bad_sizes.ensures ∙ c.if-bad_sizes.false) (le-ltb _ _ (rw (c.from.ensures, c.from-2.ensures) at c.if-table-length.false))
    (le-ltb _ _ (rw (c.from.ensures, c.from-2.ensures) at c.if-length-table.false)) _ _ (lt-leb _ _ c.if-n-table.false) (rw (c.from.ensures, c.from-2.ensures) at c.bad_targets-wrong_target.ensures)
    (rw (c.from.ensures, c.from-2.ensures) at c.bad_marks-wrong_marks.ensures)

pub returns-then-wrong_target-clause-says : goal.returns-then-wrong_target-clause-says
returns-then-wrong_target-clause-says c = rw c.if-wrong_target.true at (judged (goal.at.returns-then-wrong_target-clause-says c).After-bad_marks-wrong_marks)

pub returns-then-wrong_marks-clause-says : goal.returns-then-wrong_marks-clause-says
returns-then-wrong_marks-clause-says c =
    rw (c.if-wrong_target.false, c.if-wrong_marks.true) at (judged (goal.at.returns-then-wrong_marks-clause-says c).After-bad_marks-wrong_marks)

pub invariant_of-result : goal.invariant_of-result
invariant_of-result c = record {
  has_header = c.if-table-lt-HEADER_SIZE.false;
  well_formed = sym (rw (c.if-wrong_target.false, c.if-wrong_marks.false) at (judged (goal.at.invariant_of-result c).After-bad_marks-wrong_marks));
}
