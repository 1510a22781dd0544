-- `forecast::cells::Cells::of` meets its contract: the parts of the bytes are the table's.
use Rattle.std.proofs.Common.{refl, arith}
use Rattle.rules.proofs.Refusals.{table_facts}
use Rattle.tables.proofs.Cells.{target_count, mark_count}
use Rattle.forecast.proofs.cells.Cells.of.Goals as goal

pub invariant_of-result : goal.invariant_of-result
invariant_of-result c =
    let bs = c.args.table.bytes.now in
    let formed = c.args.table.well_formed in
    record {
      room = rw (c.states.ensures, c.letters.ensures, c.targets.ensures, c.marks.ensures) (record {
        few = (table_facts bs formed).sizes.most_cells;
        targets = omega (arith, target_count bs formed);
        marks = omega (arith, mark_count bs formed);
      });
    }

pub returns : goal.returns
returns c =
    record {
      system = rw (c.states.ensures, c.letters.ensures, c.targets.ensures) refl;
      marks = rw (c.letters.ensures, c.marks.ensures) refl;
    }
