-- The forecast bounds the rows and the priorities, for any system, any keeper and any number of pairs and states.
--     sum_same, sum_zero, sum_add, sum_times, sum_few        sums over the numbers below a bound
--     sum_grouped                                            a sum, grouped by a number
--     sum_within, sum_place                                  numbers in stretches of different lengths: below the whole, and in one stretch at one place only
--     most_above, most_least, most_same                      the largest over the numbers below a bound
--     Alike s f                                              claim: f is the same for a whole component
--     reached_alike                                          a whole component is reached, or nothing of it
--     over_by_state, most_by_state                           a sum, or a maximum, state by state is the one component by component
--     rows_bounded                                           the rows of a lawful construction, where the memories at a state can be numbered
--     priorities_bounded                                     its priorities
--     pairs_alike                                            the pairs that count are as many in a whole component
--     rows_by_state, pairs_by_state                          the forecast of a Rabin table, state by state
--     rows_within, priorities_within                         no more rows are reachable than it says, and no priority is larger
--     forecast_means                                         what the figures bound, for every capacity
use mathlib.Core.Path.{◌≡◌, refl, sym, ap, ap₂, ◌∙◌, fun_ext}
use mathlib.Core.Bool.{Bool, true, false}
use mathlib.Core.List.{List}
use Prim.Native.Nat.{ℕ, zero, suc, ◌+◌, ◌*◌, ◌≤◌, ◌<◌}
use native.Mathlib.Nat.{add-mul, mul-zero, le_antisymm}
use native.Mathlib.Omega.{arith}
use lib.Dec.{eqb, ltb, leb}
use lib.ListN.{length}
use borrow.Author.Tests.{eqb-true, eqb-false, eq-eqb, ne_eqb, ltb-true, ltb-false, lt-ltb, le-ltb, leb-true, leb-false}
use Rattle.rules.specs.Basics.{when, sum_below, most_below, keep, tabulate}
use Rattle.rules.specs.Systems.{System, reaches, together, component_of, is_inside}
use Rattle.rules.specs.Runs.{Taken}
use Rattle.rules.specs.Rows.{Row, row, Keeper, plan_of, row_at, Reached, first_row, next_row, MoreThan}
use Rattle.rules.specs.Constructions.{Lawful}
use Rattle.rules.specs.Tables.{Table, table_of, system_of, counts_by, rising, IsOrdering, marks_of, record_keeper, table_plan}
use Rattle.rules.specs.Judges.{satisfies}
use Rattle.rules.specs.Forecasts.{factorial, names_reached, component_size, over_components, most_in_component, pairs_at, forecast_rows, forecast_pairs}
use Rattle.rules.specs.Claims.{table_rows}
use Rattle.rules.specs.Says.{TranslateSays, RowArrays, ForecastSays, ForecastMeans}
use Rattle.rules.proofs.Bools.{by, and_parts, bool_ext}
use Rattle.rules.proofs.Reach.{within_same, component_together, together_component}
use Rattle.rules.proofs.Reaching.{reaches_refl, reaches_trans, reaches_step, component_below}
use Rattle.rules.proofs.Appearance.{priority_bound}
use Rattle.rules.proofs.Pigeonhole.{pigeonhole}
use Rattle.rules.proofs.Exploration.{rows_distinct}
use Rattle.rules.proofs.Orderings.{SameOccurs, rank, same_length, rank_below, rank_apart}
use Rattle.rules.proofs.Steps.{step_missing, step_inside, step_crossing, step_source, step_present}
use Rattle.rules.proofs.Refusals.{table_facts, translation_facts}
use Rattle.rules.proofs.Demand3.{reached_fits}
use Rattle.rules.proofs.RabinTables.{rising_ordering, rabin_lawful, table_same, table_rows_lem}
use Rattle.rules.proofs.Meanings.{components_are, translation_means}

-- ---- sums
pub sum_same : (n : ℕ) (f g : ℕ → ℕ) → ((i : ℕ) → i < n → f i ≡ g i) → sum_below n f ≡ sum_below n g
sum_same zero f g h = refl
sum_same (suc n) f g h = rw (h n (omega arith), sum_same n f g (λ i l. h i (omega arith)))

sum_zero : (n : ℕ) (f : ℕ → ℕ) → ((i : ℕ) → i < n → f i ≡ 0) → sum_below n f ≡ 0
sum_zero zero f h = refl
sum_zero (suc n) f h = omega (arith, h n (omega arith), sum_zero n f (λ i l. h i (omega arith)))

sum_add : (n : ℕ) (f g : ℕ → ℕ) → sum_below n (λ i. f i + g i) ≡ sum_below n f + sum_below n g
sum_add zero f g = refl
sum_add (suc n) f g = omega (arith, sum_add n f g)

sum_times : (n v : ℕ) (b : ℕ → Bool) → sum_below n (λ i. when (b i) v) ≡ sum_below n (λ i. when (b i) 1) * v
sum_times zero v b = omega arith
sum_times (suc n) v b =
    rw (sum_times n v b, add-mul) (by (b n) (λ e. rw e (omega arith)) (λ e. rw e (omega arith)))

pub sum_few : (n v : ℕ) (f : ℕ → ℕ) → ((i : ℕ) → i < n → f i ≤ v) → sum_below n f ≤ n * v
sum_few zero v f h = omega arith
sum_few (suc n) v f h = omega (arith, h n (omega arith), sum_few n v f (λ i l. h i (omega arith)))

-- grouped by a number c i
sum_grouped : (n m : ℕ) (c f : ℕ → ℕ)
    → sum_below n (λ i. when (ltb (c i) m) (f i)) ≡ sum_below m (λ r. sum_below n (λ i. when (eqb (c i) r) (f i)))
sum_grouped n zero c f = sum_zero n _ (λ i l. rw (le-ltb (c i) 0 (omega arith)))
sum_grouped n (suc m) c f =
    sum_same n _ _ (λ i l. split (c i) (f i)) ∙ sum_add n _ _ ∙ ap (λ (v : ℕ). sum_below n (λ i. when (eqb (c i) m) (f i)) + v) (sum_grouped n m c f)
  where
    beside : (x v : ℕ) → (x ≡ m → ⊥) → when (ltb x (suc m)) v ≡ when (ltb x m) v
    beside x v d =
        by
        (ltb x m)
        (λ l. rw (l, lt-ltb x (suc m) (omega (arith, ltb-true x m l))))
        (λ l. rw (l, le-ltb x (suc m) (omega (arith, ltb-false x m l))))

    split : (x v : ℕ) → when (ltb x (suc m)) v ≡ when (eqb x m) v + when (ltb x m) v
    split x v =
        by
        (eqb x m)
        (λ e. let z = eqb-true x m e in rw (e, lt-ltb x (suc m) (omega arith), le-ltb x m (omega arith)) (omega arith))
        (λ e. rw e (omega (arith, beside x v (eqb-false x m e))))

-- stretches of lengths g 0, g 1 ..: the number of place a of stretch i
module _ (g : ℕ → ℕ) where
  sum_grows : (n i : ℕ) → i ≤ n → sum_below i g ≤ sum_below n g
  sum_grows zero i l = let z : i ≡ 0 = omega arith in rw z (omega arith)
  sum_grows (suc n) i l =
      by (eqb i (suc n)) (λ e. rw (eqb-true i (suc n) e) (omega arith)) (λ e. omega (arith, sum_grows n i (omega (arith, eqb-false i (suc n) e))))

  sum_within : (n i a : ℕ) → i < n → a < g i → sum_below i g + a < sum_below n g
  sum_within n i a l h = omega (arith, sum_grows n (suc i) l)

  sum_place : (i j a b : ℕ) → a < g i → b < g j → sum_below i g + a ≡ sum_below j g + b → i ≡ j
  sum_place i j a b h k e =
      by
      (ltb i j)
      (λ l. absurd (omega (arith, sum_within j i a (ltb-true i j l) h)))
      (λ l. by (ltb j i) (λ m. absurd (omega (arith, sum_within i j b (ltb-true j i m) k))) (λ m. omega (arith, ltb-false i j l, ltb-false j i m)))

-- ---- maxima
most_above : (n i : ℕ) (f : ℕ → ℕ) → i < n → f i ≤ most_below n f
most_above zero i f l = absurd (omega arith)
most_above (suc n) i f l =
    by (eqb i n) (λ e. rw (eqb-true i n e) (omega arith)) (λ e. omega (arith, most_above n i f (omega (arith, eqb-false i n e))))

pub most_least : (n v : ℕ) (f : ℕ → ℕ) → ((i : ℕ) → i < n → f i ≤ v) → most_below n f ≤ v
most_least zero v f h = omega arith
most_least (suc n) v f h = omega (arith, h n (omega arith), most_least n v f (λ i l. h i (omega arith)))

pub most_same : (n : ℕ) (f g : ℕ → ℕ) → ((i : ℕ) → i < n → f i ≡ g i) → most_below n f ≡ most_below n g
most_same zero f g h = refl
most_same (suc n) f g h = rw (h n (omega arith), most_same n f g (λ i l. h i (omega arith)))

-- ---- component by component
abbrev pub Alike : System → (ℕ → ℕ) → Type 0
Alike s f = (p q : ℕ) → together s p q ≡ true → f p ≡ f q

module _ (s : System) (start : ℕ) where
  pub reached_alike : (p q : ℕ) → together s p q ≡ true → reaches s start p ≡ reaches s start q
  unfolding together
  reached_alike p q t =
      let r = and_parts (reaches s p q) (reaches s q p) t in
      bool_ext (reaches s start p) (reaches s start q) (λ h. reaches_trans s start p q h r.0) (λ h. reaches_trans s start q p h r.1)

  module _ (f : ℕ → ℕ) (alike : Alike s f) where
    -- f where the start reaches, else 0
    abbrev term : ℕ → ℕ
    term q = when (reaches s start q) (f q)

    -- what the states of the component that r names add
    abbrev share : ℕ → ℕ
    share r = sum_below s.states (λ q. when (eqb (component_of s q) r) (term q))

    share_is : (r : ℕ) → r < s.states → share r ≡ when (names_reached s start r) (component_size s r * f r)
    share_is r l = by (eqb (component_of s r) r) named unnamed
      where
        member : eqb (component_of s r) r ≡ true → (q : ℕ) → q < s.states → when (eqb (component_of s q) r) (term q) ≡ when (together s r q) (term r)
        member e q k =
            let z = together_component s r q l k ∙ ap (eqb (component_of s q)) (eqb-true (component_of s r) r e) in
            rw (← z) (by (together s r q) (λ t. rw t (sym (ap₂ when (reached_alike r q t) (alike r q t)))) (λ t. rw t))

        named : eqb (component_of s r) r ≡ true → share r ≡ when (names_reached s start r) (component_size s r * f r)
        named e =
            sum_same s.states _ _ (member e) ∙ sum_times s.states (term r) (together s r)
            ∙ by (reaches s start r) (λ h. rw (e, h)) (λ h. rw (e, h) (mul-zero (component_size s r)))

        stranger : eqb (component_of s r) r ≡ false → (q : ℕ) → q < s.states → component_of s q ≡ r → ⊥
        stranger e q k z = eqb-false (component_of s r) r e (ap (component_of s) (sym z) ∙ ((components_are s).member q k).1 ∙ z)

        unnamed : eqb (component_of s r) r ≡ false → share r ≡ when (names_reached s start r) (component_size s r * f r)
        unnamed e = sum_zero s.states _ (λ q k. rw (ne_eqb (component_of s q) r (stranger e q k))) ∙ rw e

    pub over_by_state : sum_below s.states (λ q. when (reaches s start q) (f q)) ≡ over_components s start f
    unfolding over_components
    over_by_state =
        sum_same s.states _ _ (λ q l. rw (lt-ltb (component_of s q) s.states (component_below s q l)))
        ∙ sum_grouped s.states s.states (component_of s) term
        ∙ sum_same s.states _ _ share_is

    pub most_by_state : most_below s.states (λ q. when (reaches s start q) (f q)) ≡ most_in_component s start f
    unfolding most_in_component
    most_by_state = le_antisymm (most_least s.states _ term of_state) (most_least s.states _ named of_component)
      where
        named : ℕ → ℕ
        named q = when (names_reached s start q) (f q)

        of_state : (q : ℕ) → q < s.states → term q ≤ most_below s.states named
        of_state q l =
            let c = component_of s q in
            let t = component_together s q l in
            let names = eq-eqb (component_of s c) c ((components_are s).member q l).1 in
            let e : named c ≡ term q = rw names (sym (ap₂ when (reached_alike q c t) (alike q c t))) in
            rw (← e) (most_above s.states c named (component_below s q l))

        of_component : (q : ℕ) → q < s.states → named q ≤ most_below s.states term
        of_component q l = by (eqb (component_of s q) q) (λ e. rw e (most_above s.states q term l)) (λ e. rw e (omega arith))

-- ---- lawful constructions
module _
    {M : Type 0}
    (s : System)
    (start : ℕ)
    (is_start : start < s.states)
    (k : Keeper M)
    (good : List Taken → Bool)
    (Fits : ℕ → M → Type 0)
    (law : Lawful s k good Fits)
  where
    fits : {r : Row M} → Reached (plan_of s start k) r → (r.source < s.states) × Fits r.source r.memory
    fits = reached_fits s start k good Fits law is_start

    reached_source : {r : Row M} → Reached (plan_of s start k) r → reaches s start r.source ≡ true
    reached_source first_row = reaches_refl s start
    reached_source (next_row {r = r} {a = a} h l t) =
        let there = step_present s k r a t in
        rw (step_source s k r a there) (reaches_trans s start r.source _ (reached_source h) (reaches_step s r.source a l there))

    -- a row's number: what the states before its source have, plus its memory's
    module _
        (places : ℕ → ℕ)
        (alike : Alike s places)
        (number : ℕ → M → ℕ)
        (number-below : (q : ℕ) (m : M) → Fits q m → number q m < places q)
        (number-apart : (q : ℕ) (m m' : M) → Fits q m → Fits q m' → number q m ≡ number q m' → m ≡ m')
      where
        abbrev places_at : ℕ → ℕ
        places_at q = when (reaches s start q) (places q)

        abbrev number_at : Row M → ℕ
        number_at r = sum_below r.source places_at + number r.source r.memory

        memory_below : {r : Row M} → Reached (plan_of s start k) r → number r.source r.memory < places_at r.source
        memory_below {r} h = rw (reached_source h) (number-below r.source r.memory (fits h).1)

        row_below : {r : Row M} → Reached (plan_of s start k) r → number_at r < over_components s start places
        row_below {r} h =
            rw (← over_by_state s start places alike) (sum_within places_at s.states r.source _ (fits h).0 (memory_below h))

        row_apart : {r r' : Row M} → Reached (plan_of s start k) r → Reached (plan_of s start k) r' → number_at r ≡ number_at r' → r ≡ r'
        row_apart {r} {r'} h h' e =
            let z : r'.source ≡ r.source = sym (sum_place places_at r.source r'.source _ _ (memory_below h) (memory_below h') e) in
            let e' = rw z at e in
            ap₂ row (sym z) (number-apart r.source r.memory r'.memory (fits h).1 (rw z at (fits h').1) (omega arith))

        pub rows_bounded : MoreThan (plan_of s start k) (over_components s start places) → ⊥
        rows_bounded m =
            let more = m.more in
            let at : ℕ → Row M = row_at (plan_of s start k) m.many in
            let p = pigeonhole (over_components s start places) (λ i. number_at (at i)) (λ i l. row_below (m.reached i (omega arith))) in
            let i = p.0 in
            let j = p.1 in
            let before = p.2 in
            let last = p.3 in
            m.distinct i j before (omega arith) (row_apart (m.reached i (omega arith)) (m.reached j (omega arith)) p.4)

    module _ (pairs : ℕ → ℕ) (alike : Alike s pairs) (prio-below : (q a : ℕ) (m : M) → Fits q m → k.prio q a m ≤ 2 * pairs q + 1) where
      pairs_below : {r : Row M} → Reached (plan_of s start k) r → pairs r.source ≤ most_in_component s start pairs
      pairs_below {r} h =
          rw (← most_by_state s start pairs alike)
          (rw (reached_source h) at (most_above s.states r.source (λ q. when (reaches s start q) (pairs q)) (fits h).0))

      pub priorities_bounded : {r : Row M} → Reached (plan_of s start k) r → (a : ℕ)
          → ((plan_of s start k).step r a).prio ≤ 2 * most_in_component s start pairs + 1
      priorities_bounded {r} h a =
          by
          (leb s.states (s.go r.source a))
          (λ e. rw (step_missing s k r a (leb-true _ _ e)) (omega arith))
          (λ e. present (leb-false s.states (s.go r.source a) e))
        where
          present : s.go r.source a < s.states → ((plan_of s start k).step r a).prio ≤ 2 * most_in_component s start pairs + 1
          present l =
              by
              (is_inside s r.source a)
              (λ i. rw (step_inside s k r a l i) (omega (arith, prio-below r.source a r.memory (fits h).1, pairs_below h)))
              (λ i. rw (step_crossing s k r a l i) (omega arith))

-- ---- Rabin tables
module _ (t : Table) where
  pub pairs_alike : Alike (system_of t) (pairs_at t)
  pairs_alike p q h =
      ap (λ (c : ℕ → Bool). length (keep c (tabulate t.pairs 1 (λ i. i)))) (fun_ext (λ i. within_same (system_of t) (counts_by t i) p q h))

  factorials_alike : Alike (system_of t) (λ q. factorial (pairs_at t q))
  factorials_alike p q h = ap factorial (pairs_alike p q h)

  ordering_same : (q : ℕ) (o : List ℕ) → IsOrdering t q o → SameOccurs o (rising t q)
  ordering_same q o f i = f i ∙ sym (rising_ordering t q i)

  pub rows_by_state : sum_below t.states (λ q. when (reaches (system_of t) t.start q) (factorial (pairs_at t q))) ≡ forecast_rows t
  rows_by_state = over_by_state (system_of t) t.start (λ q. factorial (pairs_at t q)) factorials_alike

  pub pairs_by_state : most_below t.states (λ q. when (reaches (system_of t) t.start q) (pairs_at t q)) ≡ forecast_pairs t
  pairs_by_state = most_by_state (system_of t) t.start (pairs_at t) pairs_alike

  module _ (is_start : t.start < t.states) where
    pub rows_within : MoreThan (table_plan t) (forecast_rows t) → ⊥
    rows_within =
        rows_bounded (system_of t) t.start is_start (record_keeper t) (satisfies t) (IsOrdering t) (rabin_lawful t)
        (λ q. factorial (pairs_at t q)) factorials_alike (λ q o. rank (rising t q) o)
        (λ q o f. rank_below o (rising t q) (ordering_same q o f))
        (λ q o o' f g e. rank_apart o o' (rising t q) (ordering_same q o f) (ordering_same q o' g) e)

    pub priorities_within : {r : Row (List ℕ)} → Reached (table_plan t) r → (a : ℕ) → ((table_plan t).step r a).prio ≤ 2 * forecast_pairs t + 1
    priorities_within h a =
        priorities_bounded (system_of t) t.start is_start (record_keeper t) (satisfies t) (IsOrdering t) (rabin_lawful t)
        (pairs_at t) pairs_alike
        (λ q b o f. omega (arith, priority_bound (marks_of t q b) o, same_length o (rising t q) (ordering_same q o f))) h a

-- ---- what the call says
pub forecast_means : (bs : List ℕ) (number rows pairs : ℕ) → ForecastSays bs number rows pairs → ForecastMeans bs number rows pairs
forecast_means bs number rows pairs says =
    record {
      bound = bound;
      enough = λ z c o o' answer count said l full. fewer z l ((translation_means bs c o o' answer count said).full full);
      within = within;
      priorities = λ z h a. let e : pairs ≡ forecast_pairs t = says.pair_figure ∙ rw z in rw e (priorities_within t (is_start z) h a);
    }
  where
    t : Table
    t = table_of bs

    is_start : number ≡ 0 → t.start < t.states
    is_start z = (table_facts bs (sym says.refusal ∙ z)).start_state

    bound : number ≡ 0 → MoreThan (table_plan t) rows → ⊥
    bound z = let e : rows ≡ forecast_rows t = says.row_figure ∙ rw z in rw e (rows_within t (is_start z))

    fewer : number ≡ 0 → {c : ℕ} → rows ≤ c → MoreThan (table_plan t) c → ⊥
    fewer z l m = let more = m.more in bound z (record { many = m.many; more = omega arith; distinct = m.distinct; reached = m.reached })

    all_found : (c : ℕ) → rows < length (table_rows bs c) → MoreThan (table_plan t) rows
    all_found c l = record { many = table_rows bs c; more = l; distinct = rows_distinct (table_plan t) (table_same t) c; reached = (table_rows_lem t c).reached }

    found : (c : ℕ) → number ≡ 0 → length (table_rows bs c) ≤ rows
    found c z =
        by
        (leb (length (table_rows bs c)) rows)
        (leb-true _ rows)
        (λ e. absurd (bound z (all_found c (leb-false _ rows e))))

    within : (c : ℕ) (o o' : RowArrays) (answer count : ℕ) → TranslateSays bs c o o' answer count → count ≤ rows
    within c o o' answer count said =
        by
        (eqb answer 0)
        (λ e. rw (said.count, e) (found c (says.refusal ∙ (translation_facts bs c _ _ _ _ (sym said.refusal ∙ eqb-true answer 0 e)).fault)))
        (λ e. rw (said.count, e) (omega arith))
