-- The cards with a star (RULES, "Cards"), and the table T: examples shown of the rules themselves, jointly, by `cards_hold` (proofs/Cards). The
-- program `cards` runs them, and its contracts cite the list.
--     Card                          one example:
--     judged bs lead l x            the table's judge gives x for the word, and so does the judge of its translation
--     moves o ps o'                 the record o, with the pairs ps prohibited, becomes o'
--     translates bs x               the table is translated, and x are the targets, the priorities, the source states and the record numbers
--     counted bs q o                the pairs that count in q's component are o
--     CardJudged, CardTranslated    claims: what the cards of these two kinds say
--     Holds c                       claim: what the card says
--     AllHold cs                    claim: every card of a list holds
--     table_t                       bytes: the table T: two states, two letters, two pairs
--     self_loop k p r               bytes: one state and one letter that loops on it, k pairs, a prohibited and a required byte
--     only_crossing                 bytes: state 0 goes to 1 with both bits of pair 1, state 1 to itself with none
--     one_missing                   bytes: one state: letter 0 loops, letter 1 is missing
--     cards                         the list
--     CardsHold                     claim: every card of the list holds
--     IsCard c                      claim: c is a card of the list, the one with this number
--     Begins x o rows               claim: there are as many rows as x has, and the arrays o begin with x
use Rattle.std.specs.Prelude.{◌≡◌, true, List, [], ◌∷◌, ℕ, ◌<◌, length, get_or, take}
use Rattle.rules.specs.Basics.{is_in}
use Rattle.rules.specs.Limits.{max_rows}
use Rattle.rules.specs.Records.{as_they_stood, moved}
use Rattle.rules.specs.Tables.{table_of, rising}
use Rattle.rules.specs.Answers.{Answer, accepts, rejects, stops}
use Rattle.rules.specs.Judges.{rabin_judge, parity_judge}
use Rattle.rules.specs.Claims.{table_rows, row_targets, row_priorities, source_states, record_numbers, translated}
use Rattle.rules.specs.Says.{RowArrays, row_arrays}

pub data Card : Type 0 where
  judged : List ℕ → List ℕ → List ℕ → Answer → Card
  moves : List ℕ → List ℕ → List ℕ → Card
  translates : List ℕ → RowArrays → Card
  counted : List ℕ → ℕ → List ℕ → Card

-- claims
pub record CardJudged (bs lead l : List ℕ) (x : Answer) : Type 0 where
  pub is_translated : translated bs max_rows ≡ true
  pub rabin : rabin_judge bs lead l ≡ x
  pub parity : parity_judge (length (table_rows bs max_rows)) (table_of bs).letters (row_targets bs max_rows) (row_priorities bs max_rows) lead l ≡ x

pub record CardTranslated (bs : List ℕ) (x : RowArrays) : Type 0 where
  pub is_translated : translated bs max_rows ≡ true
  pub target_list : row_targets bs max_rows ≡ x.targets
  pub priority_list : row_priorities bs max_rows ≡ x.priorities
  pub source_list : source_states bs max_rows ≡ x.sources
  pub record_list : record_numbers bs max_rows ≡ x.records

abbrev pub Holds : Card → Type 0
Holds (judged bs lead l x) = CardJudged bs lead l x
Holds (moves o ps o') = moved as_they_stood (λ i. is_in i ps) o ≡ o'
Holds (translates bs x) = CardTranslated bs x
Holds (counted bs q o) = rising (table_of bs) q ≡ o

abbrev pub AllHold : List Card → Type 0
AllHold [] = Unit
AllHold (c ∷ cs) = Holds c × AllHold cs

-- tables
abbrev pub table_t : List ℕ
table_t = 2 ∷ 2 ∷ 2 ∷ 0 ∷ 0 ∷ 1 ∷ 0 ∷ 1 ∷ 1 ∷ 2 ∷ 0 ∷ 0 ∷ 0 ∷ 1 ∷ 2 ∷ 0 ∷ []

abbrev pub self_loop : ℕ → ℕ → ℕ → List ℕ
self_loop k p r = 1 ∷ 1 ∷ k ∷ 0 ∷ 0 ∷ p ∷ r ∷ []

abbrev pub only_crossing : List ℕ
only_crossing = 2 ∷ 1 ∷ 1 ∷ 0 ∷ 1 ∷ 1 ∷ 1 ∷ 1 ∷ 0 ∷ 0 ∷ []

abbrev pub one_missing : List ℕ
one_missing = 1 ∷ 2 ∷ 0 ∷ 0 ∷ 0 ∷ 255 ∷ 0 ∷ 0 ∷ 0 ∷ 0 ∷ []

-- the list
abbrev pub cards : List Card
cards =
    judged table_t [] (0 ∷ []) accepts
    ∷ judged table_t [] (1 ∷ []) rejects
    ∷ judged table_t [] (0 ∷ 1 ∷ []) accepts
    ∷ judged table_t [] (1 ∷ 1 ∷ 0 ∷ []) accepts
    ∷ judged table_t [] (1 ∷ 1 ∷ 0 ∷ 0 ∷ []) rejects
    ∷ translates table_t (row_arrays (0 ∷ 1 ∷ 0 ∷ 2 ∷ 3 ∷ 2 ∷ 0 ∷ 2 ∷ []) (4 ∷ 1 ∷ 2 ∷ 5 ∷ 4 ∷ 3 ∷ 5 ∷ 1 ∷ []) (0 ∷ 1 ∷ 1 ∷ 0 ∷ []) (12 ∷ 12 ∷ 21 ∷ 21 ∷ []))
    ∷ moves (1 ∷ 2 ∷ 3 ∷ []) (3 ∷ []) (3 ∷ 1 ∷ 2 ∷ [])
    ∷ moves (1 ∷ 2 ∷ 3 ∷ []) (2 ∷ 3 ∷ []) (2 ∷ 3 ∷ 1 ∷ [])
    ∷ moves (3 ∷ 2 ∷ 1 ∷ []) (1 ∷ 2 ∷ []) (2 ∷ 1 ∷ 3 ∷ [])
    ∷ translates (self_loop 1 0 1) (row_arrays (0 ∷ []) (2 ∷ []) (0 ∷ []) (1 ∷ []))
    ∷ translates (self_loop 1 1 1) (row_arrays (0 ∷ []) (3 ∷ []) (0 ∷ []) (1 ∷ []))
    ∷ translates (self_loop 0 0 0) (row_arrays (0 ∷ []) (1 ∷ []) (0 ∷ []) (0 ∷ []))
    ∷ judged (self_loop 0 0 0) [] (0 ∷ []) rejects
    ∷ counted only_crossing 0 []
    ∷ counted only_crossing 1 []
    ∷ translates only_crossing (row_arrays (1 ∷ 1 ∷ []) (1 ∷ 1 ∷ []) (0 ∷ 1 ∷ []) (0 ∷ 0 ∷ []))
    ∷ judged one_missing [] (0 ∷ 1 ∷ []) (stops 1)
    ∷ judged one_missing (0 ∷ 0 ∷ []) (1 ∷ []) (stops 2)
    ∷ []

abbrev pub CardsHold : Type 0
CardsHold = AllHold cards

pub record IsCard (c : Card) : Type 0 where
  pub number : ℕ
  pub within : number < length cards
  pub same : get_or cards number c ≡ c

pub record Begins (x o : RowArrays) (rows : ℕ) : Type 0 where
  pub count : rows ≡ length x.sources
  pub target_front : take (length x.targets) o.targets ≡ x.targets
  pub priority_front : take (length x.priorities) o.priorities ≡ x.priorities
  pub source_front : take (length x.sources) o.sources ≡ x.sources
  pub record_front : take (length x.records) o.records ≡ x.records
