-- The judges' answers as two numbers, their kind and value.
--     answers_agree    where a parity table agrees with a Rabin table, both judges' answers are equal
use mathlib.Core.Path.{◌≡◌, refl, sym, ap, ◌∙◌}
use mathlib.Core.List.{List}
use Prim.Native.Nat.{ℕ}
use lib.Dec.{eqb}
use Rattle.rules.specs.Answers.{Answer}
use Rattle.rules.specs.Basics.{pick}
use Rattle.rules.specs.Claims.{Agrees}
use Rattle.rules.specs.Says.{RabinSays, ParitySays}
use Rattle.rules.specs.Tables.{table_of}
use Rattle.judge.specs.Judgements.{answer_of}
use Rattle.judge.specs.declared.Judged.{Judged}
use Rattle.judge.specs.declared.Judged.TheVariants.{Accepts, Rejects, Stops, Refused}

-- the answer of a kind and a value
abbrev judged_of : Answer → Judged
judged_of x = pick (eqb x.kind 0) Accepts (pick (eqb x.kind 1) Rejects (pick (eqb x.kind 2) (Stops x.value) (Refused x.value)))

read_back : (j : Judged) → judged_of (answer_of j) ≡ j
read_back Accepts = refl
read_back Rejects = refl
read_back (Stops n) = refl
read_back (Refused n) = refl

-- answers with the same kind and value are equal
same_answer : (a b : Judged) → answer_of a ≡ answer_of b → a ≡ b
same_answer a b e = sym (read_back a) ∙ ap judged_of e ∙ read_back b

pub answers_agree : (bs : List ℕ) (n : ℕ) (ts ps ss lead l : List ℕ) (x y : Judged) → Agrees bs n ts ps ss → RabinSays bs lead l (answer_of x)
    → ParitySays n (table_of bs).letters ts ps lead l (answer_of y) → y ≡ x
answers_agree bs n ts ps ss lead l x y agrees rabin parity = same_answer y x (parity ∙ agrees.judges lead l ∙ sym rabin)
