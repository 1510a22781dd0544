-- Rows as keys: the key of a row holds the row, and nothing else.
--     row_source, row_code, row_of_key    what the key of a row says of its state and its record, and that it stands for the row
--     row_pairs                           every element of a row's record is the number of a pair that a place can hold
--     row_is_key                          the key of a row is a key
--     entry_is_row, entry_small           the row by which a crossing enters at a state, and its record's code
use mathlib.Core.Path.{◌≡◌, sym, ap, ◌∙◌}
use mathlib.Core.List.{List}
use Prim.Native.Nat.{ℕ, ◌≤◌, ◌<◌}
use native.Mathlib.Omega.{arith}
use Rattle.rules.specs.Basics.{tabulate}
use Rattle.rules.specs.Limits.{max_pairs}
use Rattle.rules.specs.Rows.{Row, row}
use Rattle.rules.specs.Tables.{Table, counts, rising}
use Rattle.rules.proofs.Appearance.{kept_length}
use Rattle.rules.proofs.Arrays.{tabulate_length}
use Rattle.rules.proofs.RabinTables.{rising_ordering, ordering_holds, counted_parts}
use Rattle.records.specs.Packed.{packed}
use Rattle.records.proofs.Packing.{AllPairs, pairs_packed, packed_small}
use Rattle.explore.specs.Cells.{span, source_in, memory_in}
use Rattle.translate.specs.Keys.{row_key, key_row, IsRow, IsKey}

module _ (t : Table) (pairs : t.pairs ≤ max_pairs) (r : Row (List ℕ)) (good : IsRow t r) where
  pub row_pairs : AllPairs r.memory
  row_pairs i h =
      let p = counted_parts t r.source i (sym (ordering_holds t r.source i r.memory good.ordering) ∙ h) in
      (p.0, omega (arith, p.1))

  code_small : packed r.memory < span
  code_small = packed_small r.memory good.few row_pairs

  pub row_source : source_in (row_key r) ≡ r.source
  row_source = omega (arith, code_small)

  pub row_code : memory_in (row_key r) ≡ packed r.memory
  row_code = omega (arith, code_small)

  pub row_of_key : key_row (row_key r) ≡ r
  row_of_key = rw (row_source, row_code, pairs_packed r.memory good.few row_pairs)

  pub row_is_key : IsKey t (row_key r)
  row_is_key = record { is_row = rw row_of_key good; exact = ap row_key row_of_key }

pub entry_is_row : (t : Table) (q : ℕ) → t.pairs ≤ max_pairs → q < t.states → IsRow t (row q (rising t q))
entry_is_row t q pairs l =
    record {
      state = l;
      ordering = rising_ordering t q;
      few = omega (arith, kept_length (counts t q) (tabulate t.pairs 1 (λ i. i)), tabulate_length (λ i. i) t.pairs 1);
    }

pub entry_small : (t : Table) (q : ℕ) → t.pairs ≤ max_pairs → q < t.states → packed (rising t q) < span
entry_small t q pairs l = code_small t pairs (row q (rising t q)) (entry_is_row t q pairs l)
