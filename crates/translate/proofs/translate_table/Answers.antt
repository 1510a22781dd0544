-- `translate::translate_table` meets its contract: a table of few bytes has few cells.
use native.Mathlib.Omega.{arith}
use Rattle.survey.proofs.Tables.{many_cells}
use Rattle.translate.proofs.CellCodes.{few_cells_lem}
use Rattle.translate.proofs.translate_table.Goals as goal

pub translate-requires : goal.translate-requires
translate-requires c = (omega arith, few_cells_lem _ c.if-table-le-FEW_BYTES.true)

pub translate-requires-2 : goal.translate-requires-2
translate-requires-2 c = (omega arith, many_cells _)
