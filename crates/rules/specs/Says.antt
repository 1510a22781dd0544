-- What the public calls promise: the result, and the later contents of every lent array, for all arguments and every outcome.
-- A prime marks an array's contents at exit.
--     CheckSays bs r                                               claim: checking a table gives r
--     over xs o                                                    list: o with xs at its front, the entries past them untouched
--     components t                                                 list: the smallest state of each state's component
--     components_fault bs n                                        refusal: the table's, then 7 for an array of n bytes that is too short
--     ComponentsSay bs o o' r                                      claim: finding the components gives r, and o becomes o'
--     are_short c m a b d e                                        test: the capacity is out of range, or a lent array, of length a, b, d or e, is too short
--     arrays_fault c m a b d e                                     refusal: 7 where that holds
--     translate_fault bs c a b d e                                 refusal: the table's, then 7, then 8
--     padded n xs o                                                list: o with xs and zeros up to n at its front
--     afterwards f n xs o                                          list: what an array o with n places for rows holds after the refusal f: on success xs and zeros,
--                                                                  on 8 zeros, else what it held
--     RowArrays                                                    record of the four lent arrays: targets, priorities, source states and record numbers
--     row_arrays ts ps ss es                                       the four as one record
--     TranslateSays bs c o o' number rows                          claim: translating with the capacity c gives this refusal and count, and the arrays o become o'
--     TranslationAgrees bs ts' ps' ss' number rows                 claim: demand 3 of the arrays as they are left, whatever the entries past the rows
--     ForecastSays bs number rows pairs                            claim: the forecast of a table gives this refusal and these figures
--     ForecastMeans bs number rows pairs                           claim: what the figures bound, for every capacity: the reachable rows, the rows of a translation,
--                                                                  and the priorities
--     RabinSays, ParitySays                                        claims: judging a looped word gives this answer
--     ComponentsMean, TranslationMeans, RabinMeans, ParityMeans    claims: what the equalities above mean, in terms of paths, reachable rows,
--                                                                  orderings, missing transitions and recurring ones
--     RestSays lead l i part                                       claim: the rest of a piece is that very part of it
use Rattle.std.specs.Prelude.{◌≡◌, Bool, ◌||◌, List, [], ◌++◌, ℕ, ◌+◌, ◌-◌, ◌*◌, ◌≤◌, eqb, ltb, length, get_or, drop, replicate}
use Rattle.rules.specs.Basics.{pick, first_of, when, tabulate}
use Rattle.rules.specs.Limits.{max_rows}
use Rattle.rules.specs.Refusals as Refusal
use Rattle.rules.specs.Systems.{component_of, ComponentsAre}
use Rattle.rules.specs.Records.{decimal}
use Rattle.rules.specs.Rows.{Row, Reached, MoreThan, RowsAre}
use Rattle.rules.specs.Tables.{Table, table_of, table_fault, system_of, IsOrdering, table_plan, StepIs}
use Rattle.rules.specs.Answers.{Answer, JudgedAs}
use Rattle.rules.specs.Judges.{satisfies, parity_system, parity_good, word_fault, parity_fault, rabin_judge, parity_judge, rest_of}
use Rattle.rules.specs.Forecasts.{forecast_rows, forecast_pairs}
use Rattle.rules.specs.Claims.{table_rows, row_targets, row_priorities, source_states, record_numbers, exceeds, Agrees}

abbrev pub CheckSays : List ℕ → ℕ → Type 0
CheckSays bs r = r ≡ table_fault bs

abbrev pub over : List ℕ → List ℕ → List ℕ
over xs o = xs ++ drop (length xs) o

-- components
abbrev pub components : Table → List ℕ
components t = tabulate t.states 0 (component_of (system_of t))

abbrev pub components_fault : List ℕ → ℕ → ℕ
components_fault bs n = first_of (table_fault bs) (when (ltb n (table_of bs).states) Refusal.arrays)

pub record ComponentsSay (bs o o' : List ℕ) (r : ℕ) : Type 0 where
  pub number : r ≡ components_fault bs (length o)
  pub array : o' ≡ pick (eqb (components_fault bs (length o)) 0) (over (components (table_of bs)) o) o

abbrev pub ComponentsMean : List ℕ → List ℕ → ℕ → Type 0
ComponentsMean bs o' r = r ≡ 0 → ComponentsAre (system_of (table_of bs)) (λ q. get_or o' q 0)

-- translating
abbrev pub are_short : ℕ → ℕ → ℕ → ℕ → ℕ → ℕ → Bool
are_short c m a b d e = eqb c 0 || (ltb max_rows c || (ltb a (c * m) || (ltb b (c * m) || (ltb d c || ltb e c))))

abbrev pub arrays_fault : ℕ → ℕ → ℕ → ℕ → ℕ → ℕ → ℕ
arrays_fault c m a b d e = when (are_short c m a b d e) Refusal.arrays

unfoldable pub translate_fault : List ℕ → ℕ → ℕ → ℕ → ℕ → ℕ → ℕ
translate_fault bs c a b d e = first_of (table_fault bs) (first_of (arrays_fault c (table_of bs).letters a b d e) (when (exceeds bs c) Refusal.full))

abbrev pub padded : ℕ → List ℕ → List ℕ → List ℕ
padded n xs o = over (xs ++ replicate (n - length xs) 0) o

abbrev pub afterwards : ℕ → ℕ → List ℕ → List ℕ → List ℕ
afterwards f n xs o = pick (eqb f 0) (padded n xs o) (pick (eqb f Refusal.full) (padded n [] o) o)

pub record RowArrays : Type 0 where
  pub targets : List ℕ
  pub priorities : List ℕ
  pub sources : List ℕ
  pub records : List ℕ

abbrev pub row_arrays : List ℕ → List ℕ → List ℕ → List ℕ → RowArrays
row_arrays ts ps ss es = record { targets = ts; priorities = ps; sources = ss; records = es }

pub record TranslateSays (bs : List ℕ) (c : ℕ) (o o' : RowArrays) (number rows : ℕ) : Type 0 where
  pub refusal : number ≡ translate_fault bs c (length o.targets) (length o.priorities) (length o.sources) (length o.records)
  pub count : rows ≡ pick (eqb number 0) (length (table_rows bs c)) 0
  pub target_array : o'.targets ≡ afterwards number (c * (table_of bs).letters) (row_targets bs c) o.targets
  pub priority_array : o'.priorities ≡ afterwards number (c * (table_of bs).letters) (row_priorities bs c) o.priorities
  pub source_array : o'.sources ≡ afterwards number c (source_states bs c) o.sources
  pub record_array : o'.records ≡ afterwards number c (record_numbers bs c) o.records

abbrev pub TranslationAgrees : List ℕ → List ℕ → List ℕ → List ℕ → ℕ → ℕ → Type 0
TranslationAgrees bs ts' ps' ss' number rows = number ≡ 0 → Agrees bs rows ts' ps' ss'

pub record TranslationMeans (bs : List ℕ) (c number : ℕ) : Type 0 where
  -- refused 8 only where more than c different rows are reachable, and not refused only where there are no more
  pub full : number ≡ Refusal.full → MoreThan (table_plan (table_of bs)) c
  pub whole : number ≡ 0 → MoreThan (table_plan (table_of bs)) c → ⊥
  -- for every capacity: the rows are exactly the reachable ones, each once, in order of discovery, unless there are more than c
  pub rows : RowsAre (table_plan (table_of bs)) c
  -- from a row by a letter
  pub steps : (r : Row (List ℕ)) (a : ℕ) → StepIs (table_of bs) r a ((table_plan (table_of bs)).step r a)
  -- each record is an ordering of the pairs that count in the component of its state, and its number determines it
  pub orderings : table_fault bs ≡ 0 → {r : Row (List ℕ)} → Reached (table_plan (table_of bs)) r → IsOrdering (table_of bs) r.source r.memory
  pub numbers : table_fault bs ≡ 0 → {r r' : Row (List ℕ)} → Reached (table_plan (table_of bs)) r → Reached (table_plan (table_of bs)) r'
      → decimal r.memory ≡ decimal r'.memory → r.memory ≡ r'.memory

-- forecasting
pub record ForecastSays (bs : List ℕ) (number rows pairs : ℕ) : Type 0 where
  pub refusal : number ≡ table_fault bs
  pub row_figure : rows ≡ pick (eqb number 0) (forecast_rows (table_of bs)) 0
  pub pair_figure : pairs ≡ pick (eqb number 0) (forecast_pairs (table_of bs)) 0

pub record ForecastMeans (bs : List ℕ) (number rows pairs : ℕ) : Type 0 where
  -- no list of more than `rows` different rows is reachable
  pub bound : number ≡ 0 → MoreThan (table_plan (table_of bs)) rows → ⊥
  -- so a translation with a capacity of at least `rows` is not refused 8, and none has more rows, whatever is lent
  pub enough : number ≡ 0 → (c : ℕ) (o o' : RowArrays) (answer count : ℕ) → TranslateSays bs c o o' answer count → rows ≤ c → answer ≡ Refusal.full → ⊥
  pub within : (c : ℕ) (o o' : RowArrays) (answer count : ℕ) → TranslateSays bs c o o' answer count → count ≤ rows
  -- no transition of a reachable row has a larger priority, also where a capacity is refused 8
  pub priorities : number ≡ 0 → {r : Row (List ℕ)} → Reached (table_plan (table_of bs)) r → (a : ℕ) → ((table_plan (table_of bs)).step r a).prio ≤ 2 * pairs + 1

-- judging
abbrev pub RabinSays : List ℕ → List ℕ → List ℕ → Answer → Type 0
RabinSays bs lead l r = r ≡ rabin_judge bs lead l

abbrev pub ParitySays : ℕ → ℕ → List ℕ → List ℕ → List ℕ → List ℕ → Answer → Type 0
ParitySays n m ts ps lead l r = r ≡ parity_judge n m ts ps lead l

abbrev pub RabinMeans : List ℕ → List ℕ → List ℕ → Answer → Type 0
RabinMeans bs lead l r = table_fault bs ≡ 0 → word_fault (table_of bs).letters lead l ≡ 0
    → JudgedAs (system_of (table_of bs)) (table_of bs).start lead l (satisfies (table_of bs)) r

abbrev pub ParityMeans : ℕ → ℕ → List ℕ → List ℕ → List ℕ → List ℕ → Answer → Type 0
ParityMeans n m ts ps lead l r = parity_fault n m ts ps ≡ 0 → word_fault m lead l ≡ 0
    → JudgedAs (parity_system n m ts) 0 lead l (parity_good m ps) r

abbrev pub RestSays : List ℕ → List ℕ → ℕ → List ℕ → Type 0
RestSays lead l i part = part ≡ rest_of lead l i
