-- From what laying out and surveying promise to the pairs that count.
--     counted_rising     the set surveyed for a state is that of the rising pairs
use mathlib.Core.Path.{◌≡◌, ◌∙◌}
use mathlib.Core.Bool.{Bool}
use mathlib.Core.List.{List}
use Prim.Native.Nat.{ℕ, ◌≤◌, ◌<◌}
use native.Mathlib.Omega.{arith}
use lib.ListN.{length, get_or}
use Rattle.rules.specs.Basics.{keep, tabulate}
use Rattle.rules.specs.Tables.{table_of, table_fault, rising}
use Rattle.records.specs.Packed.{limit, is_marked}
use Rattle.survey.specs.Layouts.{HasCells, LaySays, SurveySays}
use Rattle.survey.proofs.Laying.{is_table}
use Rattle.survey.proofs.Tables.{lay_fault_lem, many_cells, laid_table, surveyed}
use Rattle.translate.proofs.CellCodes.{rising_marked}

module _ {bs ts ts' ms ms' hs hs' cs cs' : List ℕ} {number n m start : ℕ} {fits : Bool} (formed : table_fault bs ≡ 0) (lt : 1024 ≤ length ts) (lm : 1024 ≤ length ms) (lh : 64 ≤ length hs) (lc : 64 ≤ length cs) (kt : length ts' ≡ length ts) (km : length ms' ≡ length ms) (kh : length hs' ≡ length hs) (kc : length cs' ≡ length cs) (lay : LaySays bs ts ts' ms ms' number n m start) (survey : SurveySays n m ts' ms' hs hs' cs cs' fits) where
  target_cells : HasCells bs (length ts)
  target_cells z = omega (arith, many_cells bs z)

  mark_cells : HasCells bs (length ms)
  mark_cells z = omega (arith, many_cells bs z)

  pub counted_rising : (q : ℕ) → q < (table_of bs).states → keep (is_marked (get_or cs' q 0)) (tabulate limit 1 (λ i. i)) ≡ rising (table_of bs) q
  counted_rising q l =
      let good = is_table bs formed in
      let none : number ≡ 0 = lay.refusal ∙ lay_fault_lem bs (length ts) (length ms) target_cells mark_cells ∙ formed in
      let laid = laid_table formed none kt km target_cells mark_cells lay in
      let sets = (surveyed good laid (omega (arith, good.few_states)) (omega (arith, good.few_states)) kh kc survey).1 in
      rw (sets.entry q l) (rising_marked (table_of bs) q good.few_pairs)
