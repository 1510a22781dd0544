-- `cards::run_t` is safe and ends: the words and the translation are cards of the list, by number.
use mathlib.Core.Path.{refl}
use Rattle.cards.proofs.Cited.{numbered}
use Rattle.cards.proofs.run_t.Goals as goal

pub run_word-requires : goal.run_word-requires
run_word-requires g c = numbered 0 refl refl

pub run_word-requires-2 : goal.run_word-requires-2
run_word-requires-2 g c = numbered 1 refl refl

pub run_word-requires-3 : goal.run_word-requires-3
run_word-requires-3 g c = numbered 2 refl refl

pub run_word-requires-4 : goal.run_word-requires-4
run_word-requires-4 g c = numbered 3 refl refl

pub run_word-requires-5 : goal.run_word-requires-5
run_word-requires-5 g c = numbered 4 refl refl

pub run_translation-requires : goal.run_translation-requires
run_translation-requires g c = record { arrays = _; card = numbered 5 refl refl }
