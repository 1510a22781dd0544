-- The numbers of the refusals that the code names (RULES, "Refusals"), and of a call's result.
--     number_of r    number: that of the refusal r
--     number_in x    number: 0 where the result x is no refusal, else its number
use Rattle.std.specs.Prelude.{ℕ, Result, Ok, Err}
use Rattle.rules.specs.Refusals as Number
use Rattle.rules.specs.declared.refusal.Refusal.{Refusal}
use Rattle.rules.specs.declared.refusal.Refusal.TheVariants.{Short, Sizes, Long, Start, Target, Marks, Arrays, Full, Letter, Loop, Parity}

abbrev pub number_of : Refusal → ℕ
number_of Short = Number.short
number_of Sizes = Number.sizes
number_of Long = Number.long
number_of Start = Number.start
number_of Target = Number.target
number_of Marks = Number.marks
number_of Arrays = Number.arrays
number_of Full = Number.full
number_of Letter = Number.letter
number_of Loop = Number.loop
number_of Parity = Number.parity

abbrev pub number_in : {A : Type 0} → Result A Refusal → ℕ
number_in (Ok _) = 0
number_in (Err r) = number_of r
