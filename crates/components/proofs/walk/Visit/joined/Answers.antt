-- `components::walk::Visit::joined` meets its contract.
use Rattle.std.proofs.Common.{refl, arith}
use Rattle.components.proofs.Loops.{three_joined}
use Rattle.components.proofs.walk.Visit.joined.Goals as goal

pub returns : goal.returns
returns g c =
    record {
      state = refl;
      next = refl;
      lower = (omega arith, omega arith);
      either = λ h. omega arith;
      set = λ i. rw (← c.marks-marks.ensures) (three_joined i c.args.self.set c.args.last.set c.marks-marks.result);
    }
