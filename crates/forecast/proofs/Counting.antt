-- The figures of a table, from what is added up of its components.
--     set_pairs                      the pairs that count at a state, by the set of them
--     reached_done                   what is done once the search from the start is over: what the start reaches
--     figures_are                    what is then added up are the table's figures
--     figures_taken                  so they are in what the search gives
--     refused_says, forecast_says    what the call promises
use mathlib.Core.Path.{◌≡◌, refl, sym, ap, ap₂, ◌∙◌}
use mathlib.Core.Bool.{Bool, true, false}
use mathlib.Core.List.{List, [], ◌∷◌}
use Prim.Native.Nat.{ℕ, zero, suc, ◌+◌, ◌-◌, ◌*◌, ◌^◌, ◌≤◌, ◌<◌}
use native.Mathlib.Nat.{zero-add, lt_of_lt_of_le, mod-eq_of_lt}
use native.Mathlib.Omega.{arith}
use lib.Count.{ones, ones_cat}
use lib.ListN.{length, length-append}
use lib.Pow.{pow_mono}
use borrow.Author.Tests.{ne_eqb, lt-ltb, le-leb}
use Rattle.rules.specs.Basics.{when, sum_below, keep, tabulate, bit, as_bits}
use Rattle.rules.specs.Systems.{System, reaches, some_within, cell}
use Rattle.rules.specs.Tables.{Table, table_of, table_fault, system_of, required_byte, counts}
use Rattle.rules.specs.Forecasts.{factorial, pairs_at, forecast_rows, forecast_pairs}
use Rattle.rules.specs.Says.{ForecastSays, ForecastMeans}
use Rattle.rules.proofs.Arrays.{tabulate_last}
use Rattle.rules.proofs.Appearance.{keep_append}
use Rattle.rules.proofs.Bits.{as_bits_below, bit_over}
use Rattle.rules.proofs.Bools.{by}
use Rattle.rules.proofs.Reach.{within_none}
use Rattle.rules.proofs.Refusals.{table_facts}
use Rattle.rules.proofs.Forecasts.{sum_same, sum_few, most_same, most_least, rows_by_state, pairs_by_state, forecast_means}
use Rattle.components.specs.Visiting.{marks_within}
use Rattle.components.specs.Handing.{search_fits, ReachedAre}
use Rattle.components.proofs.Marks.{within_small}
use Rattle.tables.specs.Parts.{WellFormed}
use Rattle.tables.proofs.Cells.{marks_small}
use Rattle.forecast.specs.Figures.{AddedUp, FiguresAre}
use Rattle.forecast.proofs.Adding.{none_added, few_ones, orders_few}

-- ---- counts
ones_none : ones 0 ≡ 0
unfolding ones
ones_none = refl

ones_one : ones 1 ≡ 1
unfolding ones
ones_one = refl

bits_counted : (k : ℕ) (b : ℕ → Bool) → ones (as_bits k b) ≡ sum_below k (λ i. when (b i) 1)
bits_counted zero b = ones_none
bits_counted (suc k) b =
    by
    (b k)
    (λ e. rw e (let z : 2 ^ k + as_bits k b ≡ 1 * 2 ^ k + as_bits k b = omega arith in ap ones z ∙ ones_cat k 1 (as_bits k b) (as_bits_below b k) ∙ ap₂ (λ (x y : ℕ). x + y) ones_one (bits_counted k b)))
    (λ e. rw e (ap ones (zero-add (as_bits k b)) ∙ bits_counted k b ∙ sym (zero-add (sum_below k (λ i. when (b i) 1)))))

kept_counted : (k : ℕ) (b : ℕ → Bool) → length (keep b (tabulate k 1 (λ i. i))) ≡ sum_below k (λ i. when (b (suc i)) 1)
kept_counted zero b = refl
kept_counted (suc k) b =
    ap (λ (o : List ℕ). length (keep b o)) (tabulate_last (λ i. i) k 1)
    ∙ ap length (keep_append b (tabulate k 1 (λ i. i)) ((1 + k) ∷ []))
    ∙ length-append (keep b (tabulate k 1 (λ i. i))) (keep b ((1 + k) ∷ []))
    ∙ (let z : 1 + k ≡ suc k = omega arith in rw (kept_counted k b, z) (by (b (suc k)) (λ e. rw e (omega arith)) (λ e. rw e (omega arith))))

-- a sum of which nothing is left from k on
cut_sum : (f : ℕ → ℕ) (k d : ℕ) → ((i : ℕ) → k ≤ i → f i ≡ 0) → sum_below (k + d) f ≡ sum_below k f
cut_sum f k zero none = let e : k + 0 ≡ k = omega arith in rw e
cut_sum f k (suc d) none = let e : k + suc d ≡ suc (k + d) = omega arith in rw (e, none (k + d) (omega arith)) (omega (arith, cut_sum f k d none))

module _ (bs : List ℕ) (formed : WellFormed bs) where
  abbrev t : Table
  t = table_of bs

  abbrev s : System
  s = system_of t

  -- whether a transition within q's component has bit b in its required byte
  abbrev marked : ℕ → ℕ → Bool
  marked q b = some_within s (λ p a. bit b (required_byte t p a)) q

  none_above : (q b : ℕ) → t.pairs ≤ b → marked q b ≡ false
  none_above q b l =
      within_none s (λ p a. bit b (required_byte t p a)) q
      (λ p a. bit_over b (required_byte t p a) (lt_of_lt_of_le (marks_small bs formed (cell t.letters p a)).1 (pow_mono {i = t.pairs} {j = b} l)))

  pub set_pairs : (q : ℕ) → ones (marks_within s (required_byte t) q) ≡ pairs_at t q
  unfolding marks_within
  set_pairs q =
      let few = (table_facts bs formed).sizes.most_pairs in
      let e : 8 ≡ t.pairs + (8 - t.pairs) = omega arith in
      bits_counted 8 (marked q)
      ∙ ap (λ (k : ℕ). sum_below k (λ b. when (marked q b) 1)) e
      ∙ cut_sum (λ b. when (marked q b) 1) t.pairs (8 - t.pairs) (λ b l. rw (none_above q b l))
      ∙ sum_same t.pairs _ _ (λ b l. same b)
      ∙ sym (kept_counted t.pairs (counts t q))
    where
      same : (b : ℕ) → when (marked q b) 1 ≡ when (counts t q (suc b)) 1
      same b = let e : b ≡ suc b - 1 = omega arith in ap (λ (i : ℕ). when (marked q i) 1) e

  module _ (done : ℕ → Bool) (are : ReachedAre s t.start (t.start + 1) done) where
    pub reached_done : (q : ℕ) → q < t.states → done q ≡ reaches s t.start q
    reached_done q l =
        by
        (reaches s t.start q)
        (λ e. rw e (are.reached t.start q (omega arith) (omega arith) l e))
        (λ e. rw e (are.others q l (λ r f b. let z : r ≡ t.start = omega arith in rw z e)))

    pub figures_are : {rows pairs : ℕ} → AddedUp s (required_byte t) done rows pairs → FiguresAre t rows pairs × (rows ≤ 64 * 40320) × (pairs ≤ 8)
    figures_are {rows} {pairs} x =
        (record { row_figure = row_figure; pair_figure = pair_figure }, omega (arith, rows_are, sum_small, (table_facts bs formed).sizes.most_states), omega (arith, x.most_pairs, most_least t.states 8 _ pairs_small))
      where
        set_few : (q : ℕ) → ones (marks_within s (required_byte t) q) ≤ 8
        set_few q = few_ones _ (within_small s (required_byte t) q)

        pairs_small : (q : ℕ) → q < t.states → when (done q) (ones (marks_within s (required_byte t) q)) ≤ 8
        pairs_small q l = by (done q) (λ e. rw e (set_few q)) (λ e. rw e (omega arith))

        orders_small : (q : ℕ) → q < t.states → when (done q) (factorial (ones (marks_within s (required_byte t) q))) ≤ 40320
        orders_small q l = by (done q) (λ e. rw e (orders_few _ (set_few q))) (λ e. rw e (omega arith))

        row_sum : ℕ
        row_sum = sum_below t.states (λ q. when (done q) (factorial (ones (marks_within s (required_byte t) q))))

        sum_small : row_sum ≤ t.states * 40320
        sum_small = sum_few t.states 40320 _ orders_small

        rows_are : rows ≡ row_sum
        rows_are = x.row_sum ∙ mod-eq_of_lt (omega (arith, sum_small, (table_facts bs formed).sizes.most_states))

        row_figure : rows ≡ forecast_rows t
        row_figure = rows_are ∙ sum_same t.states _ _ (λ q l. rw (reached_done q l, set_pairs q)) ∙ rows_by_state t

        pair_figure : pairs ≡ forecast_pairs t
        pair_figure = x.most_pairs ∙ most_same t.states _ _ (λ q l. rw (reached_done q l, set_pairs q)) ∙ pairs_by_state t

  -- the search from the start fits
  search_begins : search_fits s t.start (t.start + 1) 256 256 64 ≡ true
  search_begins =
      let f = table_facts bs formed in
      rw (lt-ltb t.states 65535 (omega (arith, f.sizes.most_states)), lt-ltb t.letters 65535 (omega (arith, f.sizes.most_letters)), le-leb t.start (t.start + 1) (omega arith), le-leb (t.start + 1) t.states (omega (arith, f.start_state)), le-leb t.states 256 (omega (arith, f.sizes.most_states)), le-leb (4 * t.states) 256 (omega (arith, f.sizes.most_states)), le-leb t.states 64 (omega (arith, f.sizes.most_states)))

  -- what the search gives, for a system and marks that are the table's, whatever else it gives
  pub figures_taken : (s' : System) (marks : ℕ → ℕ → ℕ) {lo hi rows pairs : ℕ} {Q : (ℕ → Bool) → Type 0} {r : Bool} → s' ≡ s → marks ≡ required_byte t → lo ≡ t.start
      → hi ≡ t.start + 1 → r ≡ search_fits s' lo hi 256 256 64
      → (r ≡ true → (done : ℕ → Bool) × ReachedAre s' lo hi done × Q done × (AddedUp s' marks (λ q. false) 0 0 → AddedUp s' marks done rows pairs))
      → FiguresAre t rows pairs × (rows ≤ 64 * 40320) × (pairs ≤ 8)
  figures_taken s' marks same same_marks first last answer taken =
      let fits = rw (same, first, last) at answer in
      let found = (rw (same, same_marks, first, last) at taken) (fits ∙ search_begins) in
      figures_are found.0 found.1 (found.3 (none_added s (required_byte t)))

-- ---- the promises
pub refused_says : {bs : List ℕ} {number : ℕ} → number ≡ table_fault bs → (number ≡ 0 → ⊥) → ForecastSays bs number 0 0 × ForecastMeans bs number 0 0
refused_says {bs} {number} e d = promised (record { refusal = e; row_figure = rw (ne_eqb number 0 d); pair_figure = rw (ne_eqb number 0 d) })
  where
    promised : ForecastSays bs number 0 0 → ForecastSays bs number 0 0 × ForecastMeans bs number 0 0
    promised says = (says, forecast_means bs number 0 0 says)

pub forecast_says : {bs : List ℕ} {rows pairs : ℕ} → 0 ≡ table_fault bs → FiguresAre (table_of bs) rows pairs → ForecastSays bs 0 rows pairs × ForecastMeans bs 0 rows pairs
forecast_says {bs} {rows} {pairs} e f =
    let says : ForecastSays bs 0 rows pairs = record { refusal = e; row_figure = f.row_figure; pair_figure = f.pair_figure } in
    (says, forecast_means bs 0 rows pairs says)
