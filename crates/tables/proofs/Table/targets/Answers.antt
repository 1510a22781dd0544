-- `tables::Table::targets` meets its contract: the targets follow the header.
use Rattle.std.proofs.Common.{arith}
use Rattle.rules.proofs.Refusals.{table_facts}
use Rattle.tables.proofs.Table.targets.Goals as goal

pub overflow_mul-end : goal.overflow_mul-end
overflow_mul-end c = let facts = table_facts c.args.self.bytes.now c.args.self.well_formed in rw (c.states.ensures, c.letters.ensures) (omega (arith, facts.sizes.most_cells, facts.exact))

pub overflow_add-end : goal.overflow_add-end
overflow_add-end c = let facts = table_facts c.args.self.bytes.now c.args.self.well_formed in rw (c.states.ensures, c.letters.ensures) (omega (arith, facts.sizes.most_cells, facts.exact))

pub slice_bounds-result-end : goal.slice_bounds-result-end
slice_bounds-result-end c = let facts = table_facts c.args.self.bytes.now c.args.self.well_formed in rw (c.states.ensures, c.letters.ensures) (omega (arith, facts.sizes.most_cells, facts.exact))
