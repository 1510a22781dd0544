-- The numbers of refusals.
--     refusal_numbered    a refusal has a number of its own, which is not that of a result that is none
use native.Mathlib.Omega.{arith}
use mathlib.Core.Path.{◌≡◌}
use Rattle.rules.specs.Numbered.{number_of}
use Rattle.rules.specs.declared.refusal.Refusal.{Refusal}
use Rattle.rules.specs.declared.refusal.Refusal.TheVariants.{Short, Sizes, Long, Start, Target, Marks, Arrays, Full, Letter, Loop, Parity}

pub refusal_numbered : (r : Refusal) → number_of r ≡ 0 → ⊥
refusal_numbered Short z = absurd (omega arith)
refusal_numbered Sizes z = absurd (omega arith)
refusal_numbered Long z = absurd (omega arith)
refusal_numbered Start z = absurd (omega arith)
refusal_numbered Target z = absurd (omega arith)
refusal_numbered Marks z = absurd (omega arith)
refusal_numbered Arrays z = absurd (omega arith)
refusal_numbered Full z = absurd (omega arith)
refusal_numbered Letter z = absurd (omega arith)
refusal_numbered Loop z = absurd (omega arith)
refusal_numbered Parity z = absurd (omega arith)
