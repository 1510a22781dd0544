-- `judge::run::read_piece` meets its contract. The invariant: the first i letters lead from the first place to this one, and `mark` sums up
-- the transitions on the way.
use Rattle.std.proofs.Common.{◌<◌, take}
use Rattle.rules.specs.Runs.{pass_from}
use Rattle.rules.specs.Systems.{Path}
use Rattle.judge.specs.Passes.{SumsUp}
use Rattle.judge.proofs.run.read_piece.Given as goal

abbrev pub invariant-loop-i : goal.invariant-loop-i
invariant-loop-i g l =
    let a = g.A.Automaton in
    let s = a.system l.automaton in
    (l.place < s.states) × Path s l.from (take l.i l.piece) l.place × SumsUp a.test (a.mark l.automaton) (pass_from s l.from (take l.i l.piece)) (g.A.Mark.Number.value l.mark)
