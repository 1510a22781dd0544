-- `judge::words::has_stray` meets its contract.
use Rattle.std.proofs.Common.{◌∙◌, arith}
use Rattle.rules.proofs.Sets.{any_turn, any_end}
use Rattle.judge.proofs.words.has_stray.Goals as goal

pub loop-letter-preserved : goal.loop-letter-preserved
loop-letter-preserved c = let i = c.loop-letter in any_turn _ i.stray _ i.letter-index (omega arith) ∙ i.invariant

pub returns : goal.returns
returns c = any_end _ c.loop-letter.stray c.args.piece.now c.loop-letter.letter-index c.loop-letter-test.false c.loop-letter.invariant
