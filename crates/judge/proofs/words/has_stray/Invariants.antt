-- `judge::words::has_stray` meets its contract. The invariant: some byte is no letter exactly if `stray` says so or one still to come is none.
use Rattle.std.proofs.Common.{◌≡◌, ◌||◌, drop}
use Rattle.rules.specs.Runs.{stray_letter}
use Rattle.judge.proofs.words.has_stray.Given as goal

abbrev pub invariant-loop-letter : goal.invariant-loop-letter
invariant-loop-letter l = l.stray || stray_letter l.m (drop l.letter-index l.piece) ≡ stray_letter l.m l.piece
