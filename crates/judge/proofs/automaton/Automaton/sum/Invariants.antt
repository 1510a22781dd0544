-- `judge::automaton::Automaton::sum` meets its contract. The invariant: the marks so far are summed up.
use Rattle.std.proofs.Common.{take}
use Rattle.judge.specs.Passes.{SumsUp}
use Rattle.judge.proofs.automaton.Automaton.sum.Given as goal

abbrev pub invariant-loop-mark : goal.invariant-loop-mark
invariant-loop-mark g l = SumsUp g.Self.Automaton.test g.Self.Mark.Number.value (take l.mark-index l.marks) (g.Self.Mark.Number.value l.sum)
