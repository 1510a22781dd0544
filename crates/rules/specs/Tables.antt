-- The Rabin table (a deterministic Rabin automaton with marks on its transitions): its bytes, its refusals, its components and its rows.
--     Table                                         record: sizes, start, targets by cell, marks two by two: the prohibited byte, then the required byte
--     table_of bs                                   the table that the bytes give
--     target_of t q a                               number: where q goes by a; no state where the transition is missing, nor past the last cell
--     prohibited_byte t q a, required_byte t q a    numbers: the marks of the transition of q by a, bit i - 1 for pair i
--     prohibits t q a i                             test: the transition of q by a has pair i's prohibited bit: it is in the pair's Fin set
--     requires t q a i                              test: the transition of q by a has pair i's required bit: it is in the pair's Inf set
--     bad_sizes n m k                               test: a size is out of range
--     table_length n m                              number: the bytes that the sizes demand
--     bad_targets n none ts                         test: some target is neither below n nor `none`
--     bad_mark k target p r                         test: the marks p and r of one transition are not right for k pairs and its target
--     bad_marks k ts ms                             test: some of the marks are not
--     table_fault bs                                refusal of the bytes, 1 to 6 as in RULES, "Order", or 0 if the table is well formed
--     system_of t                                   system: the table's transitions
--     counts_by t i p a                             test: the transition of p by a, if it is inside, makes pair i count: it has the required bit
--     counts t q i                                  test: pair i counts in q's component: some inside transition of it makes it count
--     rising t q                                    list: the pairs that count in q's component, rising
--     is_counted t q i                              test: i is a pair, and it counts in q's component
--     IsOrdering t q o                              claim: o holds each pair that counts in q's component once, and nothing else
--     marks_of t q a                                the marks of the transition of q by a
--     record_keeper t                               the keeper whose memories are index appearance records
--     table_plan t                                  the plan of the table's translation
--     StepIs t r a x                                claim: x is what the row r does by the letter a, whole: no transition, a crossing, or an inside transition
use Rattle.std.specs.Prelude.{◌≡◌, Bool, true, false, not, ◌&&◌, ◌||◌, List, [], ◌∷◌, ◌++◌, ℕ, suc, ◌+◌, ◌-◌, ◌*◌, ◌^◌, ◌≤◌, ◌<◌, eqb, ltb, leb, length, get_or, take, drop}
use Rattle.rules.specs.Basics.{pick, any, first_of, when, occurs, keep, tabulate, bit}
use Rattle.rules.specs.Limits.{max_states, max_letters, max_pairs, header_size, no_state}
use Rattle.rules.specs.Refusals as Refusal
use Rattle.rules.specs.Systems.{System, cell, is_inside, some_within}
use Rattle.rules.specs.Records.{Marks, as_they_stood, moved, priority, PriorityIs, same_order}
use Rattle.rules.specs.Rows.{Step, Keeper, Row, row, Plan, plan_of}

pub record Table : Type 0 where
  pub states : ℕ
  pub letters : ℕ
  pub pairs : ℕ
  pub start : ℕ
  pub targets : List ℕ
  pub marks : List ℕ

abbrev pub table_of : List ℕ → Table
table_of bs =
    let n = get_or bs 0 0 in
    let m = get_or bs 1 0 in
    record { states = n; letters = m; pairs = get_or bs 2 0; start = get_or bs 3 0; targets = take (n * m) (drop header_size bs); marks = take (2 * (n * m)) (drop (header_size + n * m) bs) }

abbrev pub target_of : Table → ℕ → ℕ → ℕ
target_of t q a = get_or t.targets (cell t.letters q a) t.states

abbrev pub prohibited_byte : Table → ℕ → ℕ → ℕ
prohibited_byte t q a = get_or t.marks (2 * cell t.letters q a) 0

abbrev pub required_byte : Table → ℕ → ℕ → ℕ
required_byte t q a = get_or t.marks (suc (2 * cell t.letters q a)) 0

abbrev pub prohibits : Table → ℕ → ℕ → ℕ → Bool
prohibits t q a i = bit (i - 1) (prohibited_byte t q a)

abbrev pub requires : Table → ℕ → ℕ → ℕ → Bool
requires t q a i = bit (i - 1) (required_byte t q a)

-- refusals
abbrev pub bad_sizes : ℕ → ℕ → ℕ → Bool
bad_sizes n m k = eqb n 0 || (ltb max_states n || (eqb m 0 || (ltb max_letters m || ltb max_pairs k)))

abbrev pub table_length : ℕ → ℕ → ℕ
table_length n m = header_size + 3 * (n * m)

-- over the targets of a parity table too
abbrev pub bad_targets : ℕ → ℕ → List ℕ → Bool
bad_targets n none ts = any (λ x. not (ltb x n || eqb x none)) ts

-- a bit above pair k, or any bit on a missing transition
abbrev pub bad_mark : ℕ → ℕ → ℕ → ℕ → Bool
bad_mark k x prohibited required =
    not (ltb prohibited (2 ^ k) && ltb required (2 ^ k)) || (eqb x no_state && not (eqb prohibited 0 && eqb required 0))

abbrev pub bad_marks : ℕ → List ℕ → List ℕ → Bool
bad_marks k [] ms = false
bad_marks k (x ∷ ts) ms = bad_mark k x (get_or ms 0 0) (get_or ms 1 0) || bad_marks k ts (drop 2 ms)

unfoldable pub table_fault : List ℕ → ℕ
table_fault bs =
    let t = table_of bs in
    first_of (when (ltb (length bs) header_size) Refusal.short)
    (first_of (when (bad_sizes t.states t.letters t.pairs) Refusal.sizes)
    (first_of (when (ltb (length bs) (table_length t.states t.letters)) Refusal.short)
    (first_of (when (ltb (table_length t.states t.letters) (length bs)) Refusal.long)
    (first_of (when (leb t.states t.start) Refusal.start)
    (first_of (when (bad_targets t.states no_state t.targets) Refusal.target)
    (when (bad_marks t.pairs t.targets t.marks) Refusal.marks))))))

-- components and records
abbrev pub system_of : Table → System
system_of t = record { states = t.states; letters = t.letters; go = target_of t }

abbrev pub counts_by : Table → ℕ → ℕ → ℕ → Bool
counts_by t i p a = requires t p a i

abbrev pub counts : Table → ℕ → ℕ → Bool
counts t q i = some_within (system_of t) (counts_by t i) q

abbrev pub rising : Table → ℕ → List ℕ
rising t q = keep (counts t q) (tabulate t.pairs 1 (λ i. i))

abbrev pub is_counted : Table → ℕ → ℕ → Bool
is_counted t q i = leb 1 i && (leb i t.pairs && counts t q i)

abbrev pub IsOrdering : Table → ℕ → List ℕ → Type 0
IsOrdering t q o = (i : ℕ) → occurs i o ≡ pick (is_counted t q i) 1 0

abbrev pub marks_of : Table → ℕ → ℕ → Marks
marks_of t q a = record { prohibited = prohibits t q a; required = requires t q a }

abbrev pub record_keeper : Table → Keeper (List ℕ)
record_keeper t = record { enter = rising t; move = λ q a o. moved as_they_stood (prohibits t q a) o; prio = λ q a o. priority (marks_of t q a) o; same = same_order }

abbrev pub table_plan : Table → Plan (Row (List ℕ))
table_plan t = plan_of (system_of t) t.start (record_keeper t)

pub record StepIs (t : Table) (r : Row (List ℕ)) (a : ℕ) (x : Step (Row (List ℕ))) : Type 0 where
  -- no transition: priority 0
  pub missing : t.states ≤ target_of t r.source a → (x.there ≡ false) × (x.prio ≡ 0)
  -- crossing: the target with its pairs rising, priority 1, whatever the marks
  pub crossing : target_of t r.source a < t.states → is_inside (system_of t) r.source a ≡ false
      → (x.there ≡ true) × (x.to ≡ row (target_of t r.source a) (rising t (target_of t r.source a))) × (x.prio ≡ 1)
  -- inside: the prohibited pairs first and then the others, each in the order that they had; the priority by the record before the move
  pub inside : target_of t r.source a < t.states → is_inside (system_of t) r.source a ≡ true
      → (x.there ≡ true) × (x.to ≡ row (target_of t r.source a) (keep (prohibits t r.source a) r.memory ++ keep (λ i. not (prohibits t r.source a i)) r.memory)) × PriorityIs (marks_of t r.source a) r.memory x.prio
