-- `translate::lent::unpack` meets its contract: one row more is unpacked.
use mathlib.Core.Path.{refl}
use native.Mathlib.Omega.{arith}
use Rattle.translate.proofs.Unpacking.{unpacked_more}
use Rattle.translate.proofs.lent.unpack.Goals as goal

pub loop-i-preserved : goal.loop-i-preserved
loop-i-preserved c =
    let turn = c.loop-i in
    unpacked_more turn.i c.args.keys.now turn.keys c.args.sources.now turn.sources turn.invariant (omega (arith, turn.auto)) (omega (arith, turn.auto)) _ _ refl c.number.ensures
