-- `cards::run_stops` is safe and ends: the words are cards of the list, by number.
use mathlib.Core.Path.{refl}
use Rattle.cards.proofs.Cited.{numbered}
use Rattle.cards.proofs.run_stops.Goals as goal

pub run_word-requires : goal.run_word-requires
run_word-requires g c = numbered 16 refl refl

pub run_word-requires-2 : goal.run_word-requires-2
run_word-requires-2 g c = numbered 17 refl refl
