-- `survey::lay_table` meets its contract: what is laid out of the parts of the table's bytes is the table's.
use Rattle.std.proofs.Common.{length, ap, arith, ltb-false}
use Rattle.rules.proofs.Bools.{or_none}
use Rattle.rules.proofs.Refusals.{table_facts}
use Rattle.tables.proofs.Cells.{mark_count}
use Rattle.survey.proofs.Laying.{targets_written, marks_written}
use Rattle.survey.proofs.Promises.{laid}
use Rattle.survey.proofs.lay_table.Goals as goal

pub invariant_of-laid : goal.invariant_of-laid
invariant_of-laid c =
    let x = c.in_ok-table.table in
    let k = table_facts x.bytes.now x.well_formed in
    record { sizes = rw (c.states.ensures, c.letters.ensures, c.start.ensures) (k.sizes.most_states, k.sizes.most_letters, k.start_state) }

pub lay_marks-requires : goal.lay_marks-requires
lay_marks-requires c =
    let x = c.in_ok-table.table in
    (rw (c.states.ensures, c.letters.ensures) (omega (arith, ap length c.marks.ensures, mark_count x.bytes.now x.well_formed)), ltb-false _ _ (or_none _ _ c.if-targets-cells.false).1)

pub returns : goal.returns
returns c =
    let x = c.in_ok-table.table in
    let ts = targets_written x.bytes.now x.well_formed _ _ _ c.targets.ensures c.lay_targets.ensures in
    let ms = marks_written x.bytes.now x.well_formed _ _ _ c.marks.ensures (rw (c.states.ensures, c.letters.ensures) at c.lay_marks.ensures) in
    rw (← c.in_ok-table.ensures.same, c.states.ensures, c.letters.ensures, c.start.ensures) (laid x.bytes.now x.well_formed _ _ _ _ (rw (c.states.ensures, c.letters.ensures) at c.if-targets-cells.false) ts ms)
