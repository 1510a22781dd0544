-- `tables::Table::marks` meets its contract: the marks follow the targets, which follow the header.
use Rattle.std.proofs.Common.{arith}
use Rattle.rules.proofs.Refusals.{table_facts}
use Rattle.tables.proofs.Refused.{marks_part}
use Rattle.tables.proofs.Table.marks.Goals as goal

pub overflow_mul-from : goal.overflow_mul-from
overflow_mul-from c = let facts = table_facts c.args.self.bytes.now c.args.self.well_formed in rw (c.states.ensures, c.letters.ensures) (omega (arith, facts.sizes.most_cells, facts.exact))

pub overflow_add-from : goal.overflow_add-from
overflow_add-from c = let facts = table_facts c.args.self.bytes.now c.args.self.well_formed in rw (c.states.ensures, c.letters.ensures) (omega (arith, facts.sizes.most_cells, facts.exact))

pub slice_bounds-result-count : goal.slice_bounds-result-count
slice_bounds-result-count c = let facts = table_facts c.args.self.bytes.now c.args.self.well_formed in rw (c.states.ensures, c.letters.ensures) (omega (arith, facts.sizes.most_cells, facts.exact))

pub slice_bounds-result-start : goal.slice_bounds-result-start
slice_bounds-result-start c = let facts = table_facts c.args.self.bytes.now c.args.self.well_formed in rw (c.states.ensures, c.letters.ensures) (omega (arith, facts.sizes.most_cells, facts.exact))

pub returns : goal.returns
returns c =
    let facts = table_facts c.args.self.bytes.now c.args.self.well_formed in
    rw (c.states.ensures, c.letters.ensures, facts.exact) (marks_part c.args.self.bytes.now)
