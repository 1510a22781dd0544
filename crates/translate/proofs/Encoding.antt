-- A table that is laid out and then written as codes.
--     parts_surveyed    what is surveyed of laid-out cells, where the sizes fit
--     codes_encoded     the codes that are written are the table's, and the key is that of its first row
use mathlib.Core.Path.{◌≡◌, ◌∙◌}
use mathlib.Core.Bool.{Bool, true}
use mathlib.Core.List.{List}
use Prim.Native.Nat.{ℕ, ◌*◌, ◌≤◌}
use native.Mathlib.Omega.{arith}
use lib.ListN.{length, take}
use borrow.Author.Tests.{le-leb}
use Rattle.rules.specs.Judges.{parity_system}
use Rattle.rules.specs.Limits.{max_states, max_letters}
use Rattle.rules.specs.Systems.{component_of}
use Rattle.rules.specs.Tables.{Table, system_of}
use Rattle.survey.specs.Layouts.{IsTable, counted_pairs, counted_in, SurveySays}
use Rattle.survey.specs.Parts.{Listed}
use Rattle.survey.proofs.Laying.{laid_homes_at, laid_counted}
use Rattle.survey.proofs.Surveying.{listed}
use Rattle.survey.proofs.Tables.{LaidTable}
use Rattle.translate.specs.Cells.{entry_key, TableCodes, CellsEncoded}
use Rattle.translate.proofs.CellCodes.{first_key, codes_written}

module _ {n m : ℕ} {ts ms hs hs' cs cs' : List ℕ} {r : Bool} (survey : SurveySays n m ts ms hs hs' cs cs' r) where
  pub parts_surveyed : n ≤ max_states → m ≤ max_letters → n * m ≤ length ts → n * m ≤ length ms → n ≤ length hs → n ≤ length cs → length hs' ≡ length hs → length cs' ≡ length cs
      → Listed n (component_of (parity_system n m ts)) hs' × Listed n (counted_in n m ts ms) cs'
  parts_surveyed few letters lt lm lh lc kh kc =
      let e : r ≡ true = survey.answer ∙ rw (le-leb n max_states few, le-leb m max_letters letters, le-leb (n * m) (length ts) lt, le-leb (n * m) (length ms) lm, le-leb n (length hs) lh, le-leb n (length cs) lc) in
      (listed n _ hs hs' (omega arith) (rw e at survey.home_array), listed n _ cs cs' (omega arith) (rw e at survey.counted_array))

module _ {t : Table} {ts ms : List ℕ} {n m start : ℕ} (good : IsTable t) (x : LaidTable t n m start ts ms) where
  pub codes_encoded : {cells : List ℕ} {first : ℕ} → CellsEncoded n m start ts ms cells first → (first ≡ entry_key t t.start) × (n * m ≤ length cells) × TableCodes t (take (n * m) cells)
  codes_encoded e =
      let homes = rw (x.states, x.letters) at e.home_array in
      let sets = rw (x.states, x.letters) at e.set_array in
      let hl : Listed t.states (component_of (system_of t)) e.homes = record { enough = homes.enough; entry = λ q l. homes.entry q l ∙ laid_homes_at t good ts x.targets q l } in
      let cl : Listed t.states (counted_pairs t) e.sets = record { enough = sets.enough; entry = λ q l. sets.entry q l ∙ laid_counted t good ts x.targets ms x.marks q l } in
      let codes = codes_written good x hl cl _ e.codes in
      (e.first_key ∙ first_key good x hl cl, codes.0, codes.1)
