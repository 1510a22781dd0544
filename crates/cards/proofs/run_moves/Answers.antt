-- `cards::run_moves` is safe and ends: the moves are cards of the list, by number.
use mathlib.Core.Path.{refl}
use Rattle.cards.proofs.Cited.{numbered}
use Rattle.cards.proofs.run_moves.Goals as goal

pub run_move-requires : goal.run_move-requires
run_move-requires g c = (numbered 6 refl refl, refl)

pub run_move-requires-2 : goal.run_move-requires-2
run_move-requires-2 g c = (numbered 7 refl refl, refl)

pub run_move-requires-3 : goal.run_move-requires-3
run_move-requires-3 g c = (numbered 8 refl refl, refl)
