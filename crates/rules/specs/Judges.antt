-- Both judges (they decide whether an automaton accepts a looped word), their refusals, and the rest of a piece.
--     satisfies_pair t i xs          test: the set of transitions xs satisfies pair i (a Rabin pair)
--     satisfies t xs                 test: it satisfies the table
--     rabin_run t lead l             answer of a Rabin table to a word of letters, of any length
--     parity_system n m ts           system: the transitions of a parity table of n rows
--     priority_at m ps x             number: the priority of the transition x of a parity table
--     parity_good m ps xs            test: the largest priority of the set of transitions xs is even
--     parity_run n m ts ps lead l    answer of a parity table to a word of letters, of any length
--     word_fault m lead l            refusal of a word: 10, 9 or 0
--     parity_fault n m ts ps         refusal of a parity table: 11 or 0
--     rabin_judge, parity_judge      the answers with their refusals
--     rest_of lead l i               list: the letters from place i of the word to the end of its piece
use Rattle.std.specs.Prelude.{Bool, not, ◌&&◌, ◌||◌, List, ℕ, suc, ◌-◌, ◌*◌, eqb, ltb, length, get_or, take, drop}
use Rattle.rules.specs.Basics.{pick, any, any_below, first_of, when, largest, is_even}
use Rattle.rules.specs.Limits.{max_letters, max_rows, max_piece, no_row}
use Rattle.rules.specs.Refusals as Refusal
use Rattle.rules.specs.Systems.{System, cell}
use Rattle.rules.specs.Runs.{Taken, stray_letter}
use Rattle.rules.specs.Answers.{Answer, judged_by, unless_refused}
use Rattle.rules.specs.Tables.{Table, table_of, table_fault, bad_targets, system_of, prohibits, requires}

-- the Rabin table
abbrev pub satisfies_pair : Table → ℕ → List Taken → Bool
satisfies_pair t i xs = not (any (λ x. prohibits t x.from x.by i) xs) && any (λ x. requires t x.from x.by i) xs

abbrev pub satisfies : Table → List Taken → Bool
satisfies t xs = any_below t.pairs (λ i. satisfies_pair t (suc i) xs)

abbrev pub rabin_run : Table → List ℕ → List ℕ → Answer
rabin_run t lead l = judged_by (system_of t) t.start lead l (satisfies t)

-- the parity table
abbrev pub parity_system : ℕ → ℕ → List ℕ → System
parity_system n m ts = record { states = n; letters = m; go = λ q a. get_or ts (cell m q a) no_row }

abbrev pub priority_at : ℕ → List ℕ → Taken → ℕ
priority_at m ps x = get_or ps (cell m x.from x.by) 0

abbrev pub parity_good : ℕ → List ℕ → List Taken → Bool
parity_good m ps xs = is_even (largest (priority_at m ps) xs)

abbrev pub parity_run : ℕ → ℕ → List ℕ → List ℕ → List ℕ → List ℕ → Answer
parity_run n m ts ps lead l = judged_by (parity_system n m ts) 0 lead l (parity_good m ps)

-- refusals
abbrev pub word_fault : ℕ → List ℕ → List ℕ → ℕ
word_fault m lead l = first_of (when (eqb (length l) 0 || (ltb max_piece (length lead) || ltb max_piece (length l))) Refusal.loop) (when (stray_letter m lead || stray_letter m l) Refusal.letter)

abbrev pub parity_fault : ℕ → ℕ → List ℕ → List ℕ → ℕ
parity_fault n m ts ps = when (eqb n 0 || (ltb max_rows n || (eqb m 0 || (ltb max_letters m || (ltb (length ts) (n * m) || (ltb (length ps) (n * m) || bad_targets n no_row (take (n * m) ts))))))) Refusal.parity

abbrev pub rabin_judge : List ℕ → List ℕ → List ℕ → Answer
rabin_judge bs lead l = unless_refused (first_of (table_fault bs) (word_fault (table_of bs).letters lead l)) (rabin_run (table_of bs) lead l)

abbrev pub parity_judge : ℕ → ℕ → List ℕ → List ℕ → List ℕ → List ℕ → Answer
parity_judge n m ts ps lead l = unless_refused (first_of (parity_fault n m ts ps) (word_fault m lead l)) (parity_run n m ts ps lead l)

abbrev pub rest_of : List ℕ → List ℕ → ℕ → List ℕ
rest_of lead l i = pick (ltb i (length lead)) (drop i lead) (drop (i - length lead) l)
