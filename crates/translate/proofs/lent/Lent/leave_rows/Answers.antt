-- `translate::lent::Lent::leave_rows` meets its contract.
use native.Mathlib.Nat.{mul-le-mul_right}
use native.Mathlib.Omega.{arith}
use Rattle.translate.proofs.Clearing.{cleared_part}
use Rattle.translate.proofs.Unpacking.{unpacked_front}
use Rattle.translate.proofs.lent.Lent.leave_rows.Goals as goal

pub returns-clause-rows : goal.returns-clause-rows
returns-clause-rows c =
    let cells = mul-le-mul_right c.args.letters c.requires.0.1 in
    record {
      states = c.unpack.new.sources;
      numbers = _;
      unpacked = unpacked_front (omega arith) c.unpack.ensures;
      target_array = cleared_part cells (omega arith) c.fill.ensures.after;
      priority_array = cleared_part cells (omega arith) c.fill-2.ensures.after;
      source_array = cleared_part (omega arith) (omega arith) c.fill-3.ensures.after;
      number_array = cleared_part (omega arith) (omega arith) c.fill-4.ensures.after;
    }
