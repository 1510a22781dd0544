-- Demand 3: no looped word and no closed walk distinguishes the two tables.
--     table_rows bs c         list: the rows of the translation of the table that the bytes give, as far as the capacity c lets them be found
--     row_targets bs c        lists: its four arrays, each without the entries past the rows
--     row_priorities bs c
--     source_states bs c
--     record_numbers bs c
--     exceeds bs c            test: more than c rows are reachable, so the translation is full
--     translated bs c         test: the table is well formed, the capacity is in range, and the rows do not exceed it
--     Agrees bs n ts ps ss    claim: n rows with these targets, priorities and source states agree with the Rabin table: on words of any
--                             length, in the answers of the judges, refusals included, and on closed walks of any length
use Rattle.std.specs.Prelude.{◌≡◌, ◌↔◌, Bool, true, false, ◌&&◌, not, List, map, ℕ, ◌<◌, eqb, leb, length}
use Rattle.rules.specs.Limits.{max_rows, no_row}
use Rattle.rules.specs.Runs.{Taken, stray_letter, is_closed_walk, projected}
use Rattle.rules.specs.Records.{decimal}
use Rattle.rules.specs.Rows.{Row, rows_of, is_full, all_targets, all_priorities, sources}
use Rattle.rules.specs.Tables.{table_of, table_fault, table_plan}
use Rattle.rules.specs.Judges.{satisfies, parity_system, parity_good, rabin_run, parity_run, rabin_judge, parity_judge}

abbrev pub table_rows : List ℕ → ℕ → List (Row (List ℕ))
table_rows bs c = rows_of (table_plan (table_of bs)) c

abbrev pub row_targets : List ℕ → ℕ → List ℕ
row_targets bs c = all_targets (table_plan (table_of bs)) no_row (table_rows bs c)

abbrev pub row_priorities : List ℕ → ℕ → List ℕ
row_priorities bs c = all_priorities (table_plan (table_of bs)) (table_rows bs c)

abbrev pub source_states : List ℕ → ℕ → List ℕ
source_states bs c = sources (table_rows bs c)

abbrev pub record_numbers : List ℕ → ℕ → List ℕ
record_numbers bs c = map (λ r. decimal r.memory) (table_rows bs c)

abbrev pub exceeds : List ℕ → ℕ → Bool
exceeds bs c = is_full (table_plan (table_of bs)) c

abbrev pub translated : List ℕ → ℕ → Bool
translated bs c = eqb (table_fault bs) 0 && (leb 1 c && (leb c max_rows && not (exceeds bs c)))

pub record Agrees (bs : List ℕ) (n : ℕ) (ts ps ss : List ℕ) : Type 0 where
  pub words : (lead l : List ℕ) → 0 < length l → stray_letter (table_of bs).letters lead ≡ false
      → stray_letter (table_of bs).letters l ≡ false → parity_run n (table_of bs).letters ts ps lead l ≡ rabin_run (table_of bs) lead l
  pub judges : (lead l : List ℕ) → parity_judge n (table_of bs).letters ts ps lead l ≡ rabin_judge bs lead l
  pub walks : (xs : List Taken) → is_closed_walk (parity_system n (table_of bs).letters ts) xs ≡ true
      → (parity_good (table_of bs).letters ps xs ≡ true) ↔ (satisfies (table_of bs) (projected ss xs) ≡ true)
