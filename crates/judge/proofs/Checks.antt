-- The checks before a judgement, and the refusals that they give.
--     first_given      a refusal whose test holds is the first
--     refused_given    a refusal that is given is the answer
--     byte_letters     over more letters than a byte can say the table is refused, whatever the word is
--     parity_tests     the refusal of a parity table by its tests: of the sizes, of the arrays' lengths, of the targets
--     part_rest        the part of a list from a place to the end is what is left from that place on
use mathlib.Core.Path.{◌≡◌, refl, sym, ◌∙◌}
use mathlib.Core.Bool.{Bool, ◌||◌, or_assoc}
use mathlib.Core.List.{List}
use Prim.Native.Nat.{ℕ, zero, suc, ◌-◌, ◌*◌, min}
use native.Mathlib.Omega.{arith}
use lib.Dec.{eqb, ltb, leb-suc-suc, leb-zero}
use lib.ListN.{length, take, drop, length-drop}
use lib.Seq.{take-length}
use borrow.Author.Tests.{eqb-true, eqb-false}
use Rattle.rules.specs.Basics.{first_of, when}
use Rattle.rules.specs.Limits.{max_letters, max_rows, no_row}
use Rattle.rules.specs.Refusals as Refusal
use Rattle.rules.specs.Tables.{bad_targets}
use Rattle.rules.specs.Answers.{Answer, refused, unless_refused}
use Rattle.rules.specs.Judges.{word_fault, parity_fault}
use Rattle.rules.proofs.Bools.{by}
use Rattle.rules.proofs.Refusals.{parity_facts}

-- ---- refusals
pub first_given : (a b : ℕ) → (a ≡ 0 → ⊥) → a ≡ first_of a b
first_given zero b d = absurd (d refl)
first_given (suc a) b d = refl

pub refused_given : (f : ℕ) (x : Answer) → (f ≡ 0 → ⊥) → refused f ≡ unless_refused f x
refused_given zero x d = absurd (d refl)
refused_given (suc f) x d = rw (leb-suc-suc 0 f, leb-zero f)

-- a word is looked at over as many letters as a byte can say: a table with more is refused whatever the word is
pub byte_letters : (n m : ℕ) (ts ps lead l : List ℕ)
    → first_of (parity_fault n m ts ps) (word_fault (min m 255) lead l) ≡ first_of (parity_fault n m ts ps) (word_fault m lead l)
byte_letters n m ts ps lead l =
    by
    (eqb (parity_fault n m ts ps) 0)
    (λ e. let few : min m 255 ≡ m = omega (arith, (parity_facts n m ts ps (eqb-true (parity_fault n m ts ps) 0 e)).most_letters) in rw few)
    (λ e. let met = eqb-false (parity_fault n m ts ps) 0 e in sym (first_given (parity_fault n m ts ps) (word_fault (min m 255) lead l) met) ∙ first_given (parity_fault n m ts ps) (word_fault m lead l) met)

-- ---- the tests of a parity table
abbrev sizes_out : ℕ → ℕ → Bool
sizes_out n m = eqb n 0 || (ltb max_rows n || (eqb m 0 || ltb max_letters m))

pub parity_tests : (n m : ℕ) (ts ps : List ℕ)
    → parity_fault n m ts ps ≡ when (sizes_out n m || ((ltb (length ts) (n * m) || ltb (length ps) (n * m)) || bad_targets n no_row (take (n * m) ts))) Refusal.parity
parity_tests n m ts ps = simp or_assoc

-- ---- the rest of a piece
pub part_rest : (xs : List ℕ) (i : ℕ) → take (length xs - i) (drop i xs) ≡ drop i xs
part_rest xs i = rw (← length-drop i xs) (take-length (drop i xs))
