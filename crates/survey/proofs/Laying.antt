-- A well-formed table, laid out: what its arrays say of its system and of what counts.
--     targets_written, marks_written    what is laid out of the parts of the bytes is the table's
--     targets_laid, marks_laid          an array with the table's targets or marks at its front, by state and letter
--     laid_go, go_laid                  the system in the array of targets has the table's transitions, and no others
--     is_table                          a well-formed table has sizes in range
--     laid_homes_at, laid_homes         its components are the table's
--     same_bits                         sets of the same bits are the same
--     laid_counts, laid_counted         what its inside transitions require is what counts in the table
use mathlib.Core.Path.{◌≡◌, refl, sym, ap, ◌∙◌}
use mathlib.Core.Bool.{Bool, false}
use mathlib.Core.List.{List}
use Prim.Native.Nat.{ℕ, zero, suc, ◌+◌, ◌-◌, ◌*◌, ◌/◌, ◌^◌, ◌<◌, ◌≤◌}
use native.Mathlib.Nat.{lt_of_lt_of_le}
use native.Mathlib.Omega.{arith}
use lib.Dec.{eqb}
use lib.ListN.{length, get_or}
use lib.Pow.{pow_mono}
use borrow.Author.Tests.{ne_eqb}
use Rattle.rules.specs.Basics.{tabulate, as_bits}
use Rattle.rules.specs.Judges.{parity_system}
use Rattle.rules.specs.Limits.{no_state, no_row}
use Rattle.rules.specs.Says.{over}
use Rattle.rules.specs.Systems.{System, component_of, some_within, cell}
use Rattle.rules.specs.Tables.{Table, table_of, system_of, target_of, prohibited_byte, required_byte, requires, counts}
use Rattle.rules.proofs.Arrays.{get_d_any, cell_within}
use Rattle.rules.proofs.Bits.{bit_over}
use Rattle.rules.proofs.Bools.{by}
use Rattle.rules.proofs.Reach.{within_none}
use Rattle.rules.proofs.Filling.{over_at}
use Rattle.rules.proofs.Refusals.{TableFacts, table_facts}
use Rattle.rules.proofs.Reaching.{SameGo, same_component, same_within}
use Rattle.components.specs.Visiting.{marks_within}
use Rattle.survey.specs.Layouts.{wide_target, target_entry, mask_entry, TargetsLaid, MarksLaid, target_cells, mark_cells, IsTable, counted_pairs, required_in, counted_in}
use Rattle.tables.specs.Parts.{WellFormed}
use Rattle.survey.specs.Parts.{Listed}
use Rattle.tables.proofs.Cells.{target_count, marks_small}

-- ---- sets of pairs with more bits than there are pairs
cut_bits : (b : ℕ → Bool) (k d : ℕ) → ((i : ℕ) → k ≤ i → b i ≡ false) → as_bits (k + d) b ≡ as_bits k b
cut_bits b k zero none = let e : k + 0 ≡ k = omega arith in rw e
cut_bits b k (suc d) none = let e : k + suc d ≡ suc (k + d) = omega arith in rw (e, none (k + d) (omega arith)) (omega (arith, cut_bits b k d none))

pub same_bits : (b d : ℕ → Bool) (k : ℕ) → ((i : ℕ) → b i ≡ d i) → as_bits k b ≡ as_bits k d
same_bits b d zero same = refl
same_bits b d (suc k) same = rw (same k, same_bits b d k same)

-- the targets of a list, by another name
wide_list : (part xs : List ℕ) (k : ℕ) → part ≡ xs → length xs ≡ k
    → tabulate (length part) 0 (λ c. wide_target (get_or part c 0)) ≡ tabulate k 0 (λ c. wide_target (get_or xs c 0))
wide_list part xs k e l =
    ap (λ (ys : List ℕ). tabulate (length ys) 0 (λ c. wide_target (get_or ys c 0))) e
    ∙ ap (λ (j : ℕ). tabulate j 0 (λ c. wide_target (get_or xs c 0))) l

module _ (bs : List ℕ) (formed : WellFormed bs) where
  abbrev t : Table
  t = table_of bs

  abbrev n : ℕ
  n = t.states

  abbrev m : ℕ
  m = t.letters

  known : TableFacts bs
  known = table_facts bs formed

  pub targets_written : (part old ts : List ℕ) → part ≡ t.targets → ts ≡ over (tabulate (length part) 0 (λ c. wide_target (get_or part c 0))) old
      → ts ≡ over (target_cells t) old
  targets_written part old ts e h = h ∙ ap (λ (xs : List ℕ). over xs old) (wide_list part t.targets (n * m) e (target_count bs formed))

  pub marks_written : (part old ms : List ℕ) → part ≡ t.marks
      → ms ≡ over (tabulate (n * m) 0 (λ c. get_or part (suc (2 * c)) 0 * 256 + get_or part (2 * c) 0)) old → ms ≡ over (mark_cells t) old
  marks_written part old ms e h = h ∙ ap (λ (xs : List ℕ). over (tabulate (n * m) 0 (λ c. get_or xs (suc (2 * c)) 0 * 256 + get_or xs (2 * c) 0)) old) e

  pub targets_laid : (old ts : List ℕ) → n * m ≤ length ts → ts ≡ over (target_cells t) old → TargetsLaid t ts
  targets_laid old ts lt e =
      record {
        enough = lt;
        entry = λ q a l r. let c = cell_within n m q a l r in rw e (over_at (target_entry t) (n * m) old (cell m q a) c) ∙ ap wide_target (get_d_any t.targets (cell m q a) 0 n (omega (arith, target_count bs formed)));
      }

  pub marks_laid : (old ms : List ℕ) → n * m ≤ length ms → ms ≡ over (mark_cells t) old → MarksLaid t ms
  marks_laid old ms lm e = record { enough = lm; entry = λ q a l r. rw e (over_at (mask_entry t) (n * m) old (cell m q a) (cell_within n m q a l r)) }

  pub is_table : IsTable t
  is_table =
      record {
        few_states = known.sizes.most_states;
        few_letters = known.sizes.most_letters;
        few_pairs = known.sizes.most_pairs;
        start_state = known.start_state;
        small_marks = marks_small bs formed;
      }

module _ (t : Table) (good : IsTable t) where
  module _ (ts : List ℕ) (laid : TargetsLaid t ts) where
    abbrev s : System
    s = parity_system t.states t.letters ts

    -- an entry is the target, unless that is missing
    entry : (q a : ℕ) → q < t.states → a < t.letters → get_or ts (cell t.letters q a) no_row ≡ wide_target (target_of t q a)
    entry q a l r =
        get_d_any ts (cell t.letters q a) no_row 0 (omega (arith, cell_within t.states t.letters q a l r, laid.enough)) ∙ laid.entry q a l r

    pub laid_go : SameGo (system_of t) s
    laid_go =
        record {
          states = refl;
          letters = refl;
          go = λ q a l r b. entry q a l r ∙ rw (ne_eqb (target_of t q a) no_state (λ z. omega (arith, good.few_states)));
        }

    pub go_laid : SameGo s (system_of t)
    go_laid = record { states = refl; letters = refl; go = back }
      where
        back : (q a : ℕ) → q < t.states → a < t.letters → get_or ts (cell t.letters q a) no_row < t.states → target_of t q a ≡ get_or ts (cell t.letters q a) no_row
        back q a l r b =
            let e = entry q a l r in
            by
            (eqb (target_of t q a) no_state)
            (λ z. let f : get_or ts (cell t.letters q a) no_row ≡ no_row = rw z at e in absurd (omega (arith, good.few_states)))
            (λ z. sym (rw z at e))

    pub laid_homes_at : (q : ℕ) → q < t.states → component_of s q ≡ component_of (system_of t) q
    laid_homes_at q l = same_component s (system_of t) go_laid laid_go q l

    pub laid_homes : (old hs : List ℕ) → t.states ≤ length hs → hs ≡ over (tabulate t.states 0 (component_of s)) old
        → Listed t.states (component_of (system_of t)) hs
    laid_homes old hs l e = record { enough = l; entry = λ q b. rw e (over_at (component_of s) t.states old q b) ∙ laid_homes_at q b }

    module _ (ms : List ℕ) (marks : MarksLaid t ms) where
      -- both bytes of a cell's marks are small
      small : (q a : ℕ) → (prohibited_byte t q a < 2 ^ t.pairs) × (required_byte t q a < 2 ^ t.pairs)
      small q a = good.small_marks (cell t.letters q a)

      required : (q a : ℕ) → q < t.states → a < t.letters → get_or ms (cell t.letters q a) 0 / 256 ≡ required_byte t q a
      required q a l r =
          let p : prohibited_byte t q a < 256 = lt_of_lt_of_le (small q a).0 (pow_mono {i = t.pairs} {j = 8} (omega (arith, good.few_pairs))) in
          rw (marks.entry q a l r) (omega arith)

      pub laid_counts : (i q : ℕ) → q < t.states → some_within s (required_in t.letters ms i) q ≡ counts t q (suc i)
      laid_counts i q l =
          same_within s (system_of t) go_laid laid_go (required_in t.letters ms i) (λ p a. requires t p a (suc i))
          (λ p a lp la. let e : suc i - 1 ≡ i = omega arith in rw (e, required p a lp la)) q l

      none_above : (i q : ℕ) → t.pairs ≤ i → counts t q (suc i) ≡ false
      none_above i q h =
          let e : suc i - 1 ≡ i = omega arith in
          within_none (system_of t) (λ p a. requires t p a (suc i)) q (λ p a. rw e (bit_over i (required_byte t p a) (lt_of_lt_of_le (small p a).1 (pow_mono {i = t.pairs} {j = i} h))))

      pub laid_counted : (q : ℕ) → q < t.states → counted_in t.states t.letters ts ms q ≡ counted_pairs t q
      unfolding marks_within
      laid_counted q l =
          let e : 8 ≡ t.pairs + (8 - t.pairs) = omega (arith, good.few_pairs) in
          same_bits _ (λ i. counts t q (suc i)) 8 (λ i. laid_counts i q l)
          ∙ ap (λ (k : ℕ). as_bits k (λ i. counts t q (suc i))) e
          ∙ cut_bits (λ i. counts t q (suc i)) t.pairs (8 - t.pairs) (λ i h. none_above i q h)
