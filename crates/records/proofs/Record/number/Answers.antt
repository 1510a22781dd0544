-- `records::Record::number` meets its contract. The invariant: the number still has room for a digit, and followed by the pairs from position p on
-- it is the whole number.
use mathlib.Core.Path.{◌∙◌}
use Prim.Native.Nat.{ℕ}
use native.Mathlib.Numerals.{add-one}
use native.Mathlib.Omega.{arith}
use Rattle.records.specs.Packed.{places}
use Rattle.records.proofs.Packing.{pair_below, digit_turn, digit_below}
use Rattle.records.proofs.Record.number.Goals as goal

pub loop-p-preserved : goal.loop-p-preserved
loop-p-preserved c =
    let w : ℕ = c.args.self.code in
    let turn = c.loop-p in
    let p : ℕ = turn.p in
    let pair = c.pair_at in
    let made = c.with_digit-number in
    rw (add-one p)
    (digit_below p pair.result.0 turn.number made.result (omega (arith, pair.ensures, pair_below 6 w p)) turn.invariant.0 made.ensures, digit_turn (places w) p pair.result.0 (omega arith) pair.ensures turn.number made.result made.ensures ∙ turn.invariant.1)
