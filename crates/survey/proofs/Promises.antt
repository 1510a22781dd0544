-- From what a call found to what it promises.
--     components_refused, lay_refused    the table's own refusal
--     components_short, lay_short        an array too short
--     components_found, laid             done
--     components_promised                the components' second promise, from the first
--     homes_found                        the homes in the targets that are laid out are the table's components
--     front_few, front_at, front_is      the part of an array that a list is at the front of
--     survey_room                        what holds where a survey fits
--     home_few, survey_done              where it is done: the homes are places of the sets; what a survey promises
use mathlib.Core.Path.{◌≡◌, refl, sym, ap, ◌∙◌}
use mathlib.Core.Bool.{Bool, true, false, ◌&&◌, ◌||◌}
use mathlib.Core.List.{List}
use Prim.Native.Nat.{ℕ, zero, suc, ◌*◌, ◌<◌, ◌≤◌}
use native.Mathlib.Omega.{arith}
use lib.Dec.{eqb-suc-zero, leb, ltb}
use lib.ListN.{length, get_or, take}
use lib.Seq.{get_or-take, length-take-le}
use borrow.Author.Tests.{lt-ltb, le-ltb, le-leb, leb-true}
use Rattle.rules.specs.Basics.{tabulate}
use Rattle.rules.specs.Judges.{parity_system}
use Rattle.rules.specs.Limits.{max_states, max_letters}
use Rattle.rules.specs.Refusals as Refusal
use Rattle.rules.specs.Systems.{component_of}
use Rattle.rules.specs.Tables.{table_of, table_fault, system_of}
use Rattle.rules.specs.Says.{over, components, ComponentsSay, ComponentsMean}
use Rattle.rules.proofs.Arrays.{tabulate_same}
use Rattle.rules.proofs.Bools.{and_parts}
use Rattle.rules.proofs.Filling.{Filled, filled_over}
use Rattle.rules.proofs.Meanings.{components_mean}
use Rattle.rules.proofs.Reaching.{component_below}
use Rattle.rules.proofs.Refusals.{table_facts}
use Rattle.tables.specs.Parts.{WellFormed}
use Rattle.components.specs.Places.{done_number}
use Rattle.components.specs.Calls.{components_fit, ComponentsFound}
use Rattle.survey.specs.declared.cells.Counted.{Counted}
use Rattle.survey.specs.Layouts.{wide_target, target_cells, mark_cells, lay_fault, LaySays, survey_fits, required_of, counted_in, SurveySays}
use Rattle.survey.specs.Parts.{Listed, SurveyedIn}
use Rattle.survey.proofs.Laying.{targets_written, targets_laid, is_table, laid_homes}
use Rattle.survey.proofs.Surveying.{AllTaken, marks_at_home}

pub components_refused : (bs o : List ℕ) (r : ℕ) → r ≡ table_fault bs → (r ≡ 0 → ⊥) → ComponentsSay bs o o r
components_refused bs o zero e d = absurd (d refl)
components_refused bs o (suc r) e d = record { number = rw (← e); array = rw (← e, eqb-suc-zero r) }

pub components_promised : {bs o o' : List ℕ} {r : ℕ} → ComponentsSay bs o o' r → ComponentsSay bs o o' r × ComponentsMean bs o' r
components_promised says = (says, components_mean _ _ _ _ says)

-- nothing is laid out, with a refusal that is not 0
unlaid : (bs ts ms : List ℕ) (r : ℕ) → (r ≡ 0 → ⊥) → r ≡ lay_fault bs (length ts) (length ms) → LaySays bs ts ts ms ms r 0 0 0
unlaid bs ts ms zero d e = absurd (d refl)
unlaid bs ts ms (suc r) d e =
    let z = eqb-suc-zero r in
    record { refusal = e; state_count = rw z; letter_count = rw z; start_state = rw z; target_array = rw z; mark_array = rw z }

pub lay_refused : (bs ts ms : List ℕ) (r : ℕ) → r ≡ table_fault bs → (r ≡ 0 → ⊥) → LaySays bs ts ts ms ms r 0 0 0
lay_refused bs ts ms zero e d = absurd (d refl)
lay_refused bs ts ms (suc r) e d = unlaid bs ts ms (suc r) d (rw (← e))

module _ (bs : List ℕ) (formed : WellFormed bs) where
  pub components_short : (o : List ℕ) → length o < (table_of bs).states → ComponentsSay bs o o Refusal.arrays
  components_short o l =
      let e = lt-ltb (length o) (table_of bs).states l in record { number = rw (formed, e); array = rw (formed, e) }

  pub components_found : (o o' : List ℕ) → (table_of bs).states ≤ length o → o' ≡ over (components (table_of bs)) o → ComponentsSay bs o o' 0
  components_found o o' l h =
      let e = le-ltb (length o) (table_of bs).states l in record { number = rw (formed, e); array = rw (formed, e) h }

  module _ (ts ms : List ℕ) where
    abbrev short : Bool
    short = let cells = (table_of bs).states * (table_of bs).letters in ltb (length ts) cells || ltb (length ms) cells

    pub lay_short : short ≡ true → LaySays bs ts ts ms ms Refusal.arrays 0 0 0
    lay_short e = unlaid bs ts ms Refusal.arrays (λ z. omega arith) (rw (formed, e))

    pub laid : (ts' ms' : List ℕ) → short ≡ false → ts' ≡ over (target_cells (table_of bs)) ts → ms' ≡ over (mark_cells (table_of bs)) ms
        → LaySays bs ts ts' ms ms' 0 (table_of bs).states (table_of bs).letters (table_of bs).start
    laid ts' ms' e et em =
        record { refusal = rw (formed, e); state_count = refl; letter_count = refl; start_state = refl; target_array = et; mark_array = em }

-- ---- components
-- with room for them all are found
components_written : {n m : ℕ} {ts work hs hs' : List ℕ} {r : Bool} → n ≤ max_states → m ≤ max_letters → n * m ≤ length ts → 5 * n ≤ length work → n ≤ length hs
    → ComponentsFound n m ts work hs hs' r → hs' ≡ over (tabulate n 0 (component_of (parity_system n m ts))) hs
components_written {n} {m} {ts} {work} {hs} few letters lt lw lh x =
    let fits : components_fit n m (length ts) (length work) (length hs) ≡ true = rw (lt-ltb n done_number (omega arith), lt-ltb m done_number (omega arith), le-leb (n * m) (length ts) lt, le-leb (5 * n) (length work) lw, le-leb n (length hs) lh) in
    rw (x.answer ∙ fits) at x.array

module _ (bs : List ℕ) (formed : WellFormed bs) where
  pub homes_found : {n m : ℕ} {part ts work zs hs : List ℕ} {r : Bool} (old : List ℕ) → n ≡ (table_of bs).states → m ≡ (table_of bs).letters
      → part ≡ (table_of bs).targets → max_states * max_letters ≤ length ts → ts ≡ over (tabulate (length part) 0 (λ c. wide_target (get_or part c 0))) old
      → 5 * max_states ≤ length work → max_states ≤ length zs → length hs ≡ length zs → ComponentsFound n m ts work zs hs r
      → Listed (table_of bs).states (component_of (system_of (table_of bs))) hs
  homes_found {n} {m} {part} {ts} {work} {zs} {hs} old en em ep room written lw lz size found =
      let k = (table_facts bs formed).sizes in
      let laid = targets_laid bs formed old ts (omega (arith, k.most_cells)) (targets_written bs formed part old ts ep written) in
      let same = components_written (omega arith) (omega arith) (rw (en, em) (omega (arith, k.most_cells))) (omega (arith, k.most_states)) (omega (arith, k.most_states)) found in
      laid_homes (table_of bs) (is_table bs formed) ts laid zs hs (omega (arith, k.most_states)) (rw (en, em) at same)

module _ (n : ℕ) (f : ℕ → ℕ) (xs : List ℕ) (x : Listed n f xs) where
  pub front_few : length (take n xs) ≡ n
  front_few = length-take-le n xs x.enough

  pub front_at : (q : ℕ) → q < length (take n xs) → get_or (take n xs) q 0 ≡ f q
  front_at q l = let b : q < n = omega (arith, front_few) in get_or-take n xs q 0 b ∙ x.entry q b

  pub front_is : tabulate (length (take n xs)) 0 (λ q. get_or (take n xs) q 0) ≡ tabulate n 0 f
  front_is =
      ap (λ (k : ℕ). tabulate k 0 (λ q. get_or (take n xs) q 0)) front_few ∙ tabulate_same _ f n 0 (λ q l u. front_at q (omega (arith, front_few)))

-- ---- surveys
-- a survey that fits has room
pub survey_room : (n m a b c d : ℕ) → survey_fits n m a b c d ≡ true
    → (n ≤ max_states) × (m ≤ max_letters) × (n * m ≤ a) × (n * m ≤ b) × (n ≤ c) × (n ≤ d)
survey_room n m a b c d h =
    let p = and_parts (leb n max_states) (leb m max_letters && (leb (n * m) a && (leb (n * m) b && (leb n c && leb n d)))) h in
    let q = and_parts (leb m max_letters) (leb (n * m) a && (leb (n * m) b && (leb n c && leb n d))) p.1 in
    let r = and_parts (leb (n * m) a) (leb (n * m) b && (leb n c && leb n d)) q.1 in
    let s = and_parts (leb (n * m) b) (leb n c && leb n d) r.1 in
    let u = and_parts (leb n c) (leb n d) s.1 in
    (leb-true n max_states p.0, leb-true m max_letters q.0, leb-true (n * m) a r.0, leb-true (n * m) b s.0, leb-true n c u.0, leb-true n d u.1)

-- all states are done, and each has the set of its component's smallest state
module _ (n m : ℕ) (ts ms hs hs' cs cs' : List ℕ) (x : Counted) (fits : survey_fits n m (length ts) (length ms) (length hs) (length cs) ≡ true)
    (size : length hs' ≡ length hs) (taken : AllTaken (parity_system n m ts) (required_of m ms) (λ (y : Counted). SurveyedIn y.sets) hs hs' x)
    (few : n ≤ length x.sets)
  where
    room : (n ≤ max_states) × (m ≤ max_letters) × (n * m ≤ length ts) × (n * m ≤ length ms) × (n ≤ length hs) × (n ≤ length cs)
    room = survey_room n m (length ts) (length ms) (length hs) (length cs) fits

    homes : Filled (λ q v. v ≡ component_of (parity_system n m ts) q) hs hs' n
    homes = record { size = size; done = λ q l. taken.held.0 q l (taken.all q l); rest = taken.rest }

    named : (q : ℕ) → q < n → get_or (take n hs') q 0 ≡ component_of (parity_system n m ts) q
    named q l = get_or-take n hs' q 0 l ∙ homes.done q l

    pub home_few : (q : ℕ) → q < n → get_or (take n hs') q 0 < length x.sets
    home_few q l = rw (named q l) (omega (arith, component_below (parity_system n m ts) q l, few))

    module _ (spread : Filled (λ q v. v ≡ get_or x.sets (get_or (take n hs') q 0) 0) cs cs' n) where
      counted : Filled (λ q v. v ≡ counted_in n m ts ms q) cs cs' n
      counted = record { size = spread.size; done = each; rest = spread.rest }
        where
          each : (q : ℕ) → q < n → get_or cs' q 0 ≡ counted_in n m ts ms q
          each q l =
              let s = parity_system n m ts in
              let below = component_below s q l in
              spread.done q l ∙ rw (named q l) (taken.held.1 (component_of s q) (omega (arith, below, few)) (taken.all (component_of s q) below))
              ∙ marks_at_home s (required_of m ms) q l

      pub survey_done : SurveySays n m ts ms hs hs' cs cs' true
      survey_done =
          record {
            answer = sym fits;
            home_array = filled_over (component_of (parity_system n m ts)) n hs hs' (omega (arith, room)) homes;
            counted_array = filled_over (counted_in n m ts ms) n cs cs' (omega (arith, room)) counted;
          }
