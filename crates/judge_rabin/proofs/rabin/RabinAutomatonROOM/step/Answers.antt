-- The Rabin table's `step` meets its contract: in the letter's column the target is at the state's first cell.
use Rattle.std.proofs.Common.{◌+◌, ◌*◌, ◌∙◌, arith, add-one}
use Rattle.rules.specs.Tables.{table_of}
use Rattle.rules.proofs.Arrays.{get_d_any}
use Rattle.judge.proofs.Pieces.{column_long, column_at}
use Rattle.judge_rabin.proofs.Marks.{CellFacts, cell_facts}
use Rattle.judge_rabin.proofs.rabin.RabinAutomatonROOM.step.Goals as goal
use Rattle.judge_rabin.proofs.rabin.RabinAutomatonROOM.step.Goals.{After-letters}

-- the transition's cell
here : (c : After-letters) → CellFacts c.args.self.table.bytes.now c.args.place c.args.letter
here c = cell_facts c.args.self.table.bytes.now c.args.place c.args.letter c.args.self.table.well_formed c.requires

pub overflow_mul-first : goal.overflow_mul-first
overflow_mul-first c = rw c.letters.ensures (omega (arith, here c))

pub slice_bounds-column-count : goal.slice_bounds-column-count
slice_bounds-column-count c =
    let h = here (goal.at.slice_bounds-column-count c).After-letters in
    rw c.targets-targets.ensures (omega (arith, h))

pub slice_bounds-column-start : goal.slice_bounds-column-start
slice_bounds-column-start c =
    let h = here (goal.at.slice_bounds-column-start c).After-letters in
    rw c.targets-targets.ensures (omega (arith, h))

pub bounds-column-first : goal.bounds-column-first
bounds-column-first c =
    let h = here (goal.at.bounds-column-first c).After-letters in
    let ts = (table_of c.args.self.table.bytes.now).targets in
    rw (c.letters.ensures, c.targets-targets.ensures) (omega (arith, h, column_long ts c.args.letter (omega (arith, h))))

pub overflow_add-at : goal.overflow_add-at
overflow_add-at c = rw c.letters.ensures (omega (arith, here (goal.at.overflow_add-at c).After-letters))

pub overflow_mul-at : goal.overflow_mul-at
overflow_mul-at c = rw c.letters.ensures (omega (arith, here (goal.at.overflow_mul-at c).After-letters))

pub bounds-marks-at : goal.bounds-marks-at
bounds-marks-at c = rw (c.letters.ensures, c.marks-marks.ensures) (omega (arith, here (goal.at.bounds-marks-at c).After-letters))

pub overflow_add-at-2 : goal.overflow_add-at-2
overflow_add-at-2 c = rw c.letters.ensures (omega (arith, here (goal.at.overflow_add-at-2 c).After-letters))

pub bounds-marks-at-2 : goal.bounds-marks-at-2
bounds-marks-at-2 c = rw (c.letters.ensures, c.marks-marks.ensures) (omega (arith, here (goal.at.bounds-marks-at-2 c).After-letters))

pub returns : goal.returns
returns c =
    let h = here (goal.at.returns c).After-letters in
    let t = table_of c.args.self.table.bytes.now in
    let first = c.args.place * t.letters in
    record {
      place = (rw (c.letters.ensures, c.targets-targets.ensures) at c.from-target.ensures) ∙ column_at t.targets c.args.letter first h.target ∙ get_d_any t.targets (first + c.args.letter) 0 t.states h.target;
      below = rw c.states.ensures at c.if-states-target.false;
      mark = rw (c.letters.ensures, c.marks-marks.ensures, add-one) at c.mask_of.ensures;
    }
