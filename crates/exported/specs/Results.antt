-- What goes out of a call as numbers.
--     answered r                 a judge's answer as the two numbers that go out
--     rest_piece lead i          number: the piece in which the rest from place i on lies: 0 the lead-in, 1 the loop
--     rest_start lead l i        number: the letter of that piece with which it begins, the loop's end where the place is past the last letter
--     piece_of p lead l          list: the piece of a number
--     RestLies lead l i p s n    claim: the rest from place i on is n letters of piece p, from letter s on
use Rattle.std.specs.Prelude.{◌≡◌, List, ℕ, ◌-◌, min, eqb, ltb, length, take, drop}
use Rattle.rules.specs.Basics.{pick}
use Rattle.rules.specs.Answers as Rules
use Rattle.rules.specs.Judges.{rest_of}
use Rattle.rules.specs.Says.{RestSays}
use Rattle.exported.specs.declared.Answer.{Answer}

abbrev pub answered : Answer → Rules.Answer
answered r = record { kind = r.kind; value = r.value }

abbrev pub rest_piece : List ℕ → ℕ → ℕ
rest_piece lead i = pick (ltb i (length lead)) 0 1

abbrev pub rest_start : List ℕ → List ℕ → ℕ → ℕ
rest_start lead l i = pick (ltb i (length lead)) i (min (i - length lead) (length l))

abbrev pub piece_of : ℕ → List ℕ → List ℕ → List ℕ
piece_of p lead l = pick (eqb p 0) lead l

pub record RestLies (lead l : List ℕ) (i p s n : ℕ) : Type 0 where
  pub piece : p ≡ rest_piece lead i
  pub start : s ≡ rest_start lead l i
  pub count : n ≡ length (rest_of lead l i)
  pub part : RestSays lead l i (take n (drop s (piece_of p lead l)))
