-- The parity table's `accepts` meets its contract: the mark is the largest priority.
use Rattle.std.proofs.Common.{sym, ap}
use Rattle.rules.specs.Basics.{is_even}
use Rattle.rules.specs.Judges.{priority_at}
use Rattle.rules.proofs.Sets.{largest_is}
use Rattle.judge.proofs.parity.ParityAutomaton.accepts.Goals as goal

pub returns : goal.returns
returns g c = λ xs h. sym (ap is_even (largest_is (priority_at c.args.self.letters c.args.self.priorities.now) xs c.args.peak h))
