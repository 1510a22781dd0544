-- `cards::run_crossing` is safe and ends: the counts and the translation are cards of the list, by number.
use mathlib.Core.Path.{refl}
use native.Mathlib.Omega.{arith}
use Rattle.rules.specs.Tables.{table_fault}
use Rattle.cards.proofs.Cited.{numbered}
use Rattle.cards.proofs.run_crossing.Goals as goal

pub run_count-requires : goal.run_count-requires
unfolding table_fault
run_count-requires g c = (numbered 13 refl refl, refl, omega arith)

pub run_count-requires-2 : goal.run_count-requires-2
unfolding table_fault
run_count-requires-2 g c = (numbered 14 refl refl, refl, omega arith)

pub run_translation-requires : goal.run_translation-requires
run_translation-requires g c = record { arrays = _; card = numbered 15 refl refl }
