-- `cards::run_self_loops` is safe and ends: the translations and the word are cards of the list, by number.
use mathlib.Core.Path.{refl}
use Rattle.cards.proofs.Cited.{numbered}
use Rattle.cards.proofs.run_self_loops.Goals as goal

pub run_translation-requires : goal.run_translation-requires
run_translation-requires g c = record { arrays = _; card = numbered 9 refl refl }

pub run_translation-requires-2 : goal.run_translation-requires-2
run_translation-requires-2 g c = record { arrays = _; card = numbered 10 refl refl }

pub run_translation-requires-3 : goal.run_translation-requires-3
run_translation-requires-3 g c = record { arrays = _; card = numbered 11 refl refl }

pub run_word-requires : goal.run_word-requires
run_word-requires g c = numbered 12 refl refl
