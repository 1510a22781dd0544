-- Index appearance records: an ordering of pair numbers, positions counted from 1.
--     Marks                        record of two tests: which pairs a transition prohibits and which it requires
--     as_they_stood                the arrangement that keeps the order that they had among themselves
--     moved arr p o                list: the pairs of o that p picks move to the front, arranged by arr, and the others follow in their order
--     Rearranges arr               claim: arr keeps every element, as often as it occurs
--     priority_with p m i best     number: what pair i at position p makes of the priority found before it
--     priority_from p m o best     number: the same where o begins at position p of a record and best is the priority found before it
--     priority m o                 number: from the record before the move: with p the largest position of a pair with either mark, 1 if there
--                                  is none, 2p + 1 if that pair is prohibited, else 2p
--     has_mark m i                 test: pair i has either mark
--     PriorityIs m o x             claim: x is that priority: the last pair of o with either mark decides it, 1 if there is none
--     moved_along arr ms o         list: the record o after a walk whose transitions have the marks ms
--     largest_priority arr ms o    number: the largest priority on that walk
--     satisfied ms i               test: pair i is never prohibited and at least once required on the walk
--     decimal_from v o             number: the digits of v, then the pair numbers of o
--     decimal o                    number: the pair numbers read as one decimal number, 0 if there are none
--     same_order o o'              test: the two hold the same pairs in the same order
use Rattle.std.specs.Prelude.{◌≡◌, Bool, true, false, not, ◌&&◌, ◌||◌, List, [], ◌∷◌, ◌++◌, ℕ, suc, ◌+◌, ◌*◌, max, eqb, length}
use Rattle.rules.specs.Basics.{pick, any, occurs, keep}

pub record Marks : Type 0 where
  pub prohibited : ℕ → Bool
  pub required : ℕ → Bool

abbrev pub as_they_stood : List ℕ → List ℕ
as_they_stood o = o

abbrev pub moved : (List ℕ → List ℕ) → (ℕ → Bool) → List ℕ → List ℕ
moved arr p o = arr (keep p o) ++ keep (λ i. not (p i)) o

pub record Rearranges (arr : List ℕ → List ℕ) : Type 0 where
  pub same_length : (o : List ℕ) → length (arr o) ≡ length o
  pub same_occurs : (i : ℕ) (o : List ℕ) → occurs i (arr o) ≡ occurs i o

abbrev pub priority_with : ℕ → Marks → ℕ → ℕ → ℕ
priority_with p m i best = pick (m.prohibited i) (suc (2 * p)) (pick (m.required i) (2 * p) best)

abbrev pub priority_from : ℕ → Marks → List ℕ → ℕ → ℕ
priority_from p m [] best = best
priority_from p m (i ∷ o) best = priority_from (suc p) m o (priority_with p m i best)

abbrev pub priority : Marks → List ℕ → ℕ
priority m o = priority_from 1 m o 1

abbrev pub has_mark : Marks → ℕ → Bool
has_mark m i = m.prohibited i || m.required i

pub record PriorityIs (m : Marks) (o : List ℕ) (x : ℕ) : Type 0 where
  pub none : any (has_mark m) o ≡ false → x ≡ 1
  -- the pairs u before it, so its position is one more than their number, and those after it have no mark
  pub last : (u : List ℕ) (i : ℕ) (v : List ℕ) → u ++ (i ∷ v) ≡ o → has_mark m i ≡ true → any (has_mark m) v ≡ false
      → x ≡ pick (m.prohibited i) (2 * (1 + length u) + 1) (2 * (1 + length u))

-- along a walk
abbrev pub moved_along : (List ℕ → List ℕ) → List Marks → List ℕ → List ℕ
moved_along arr [] o = o
moved_along arr (m ∷ ms) o = moved_along arr ms (moved arr m.prohibited o)

abbrev pub largest_priority : (List ℕ → List ℕ) → List Marks → List ℕ → ℕ
largest_priority arr [] o = 0
largest_priority arr (m ∷ ms) o = max (priority m o) (largest_priority arr ms (moved arr m.prohibited o))

abbrev pub satisfied : List Marks → ℕ → Bool
satisfied ms i = not (any (λ m. m.prohibited i) ms) && any (λ m. m.required i) ms

abbrev pub decimal_from : ℕ → List ℕ → ℕ
decimal_from v [] = v
decimal_from v (i ∷ o) = decimal_from (10 * v + i) o

abbrev pub decimal : List ℕ → ℕ
decimal o = decimal_from 0 o

abbrev pub same_order : List ℕ → List ℕ → Bool
same_order [] [] = true
same_order [] (j ∷ o') = false
same_order (i ∷ o) [] = false
same_order (i ∷ o) (j ∷ o') = eqb i j && same_order o o'
