-- `tables::letters_of` meets its contract: the second byte, or the default where there is none.
use mathlib.Core.Path.{sym}
use native.Mathlib.Omega.{arith}
use lib.ListN.{get_or-eq_default}
use Rattle.tables.proofs.letters_of.Goals as goal

pub returns-then-table-lt2 : goal.returns-then-table-lt2
returns-then-table-lt2 c = sym (get_or-eq_default c.args.table.now 0 {n = 1} (omega (arith, c.if-table-lt2.true)))
