-- `judge::run::read_piece` meets its contract.
use Rattle.rules.specs.Systems.{here}
use Rattle.judge.proofs.Pieces.{letter_below, read_misses, step_leads}
use Rattle.judge.proofs.run.read_piece.Goals as goal

pub loop-i-init : goal.loop-i-init
loop-i-init g c = (c.requires.1, here, λ i. rw c.zero-mark.ensures (g.met.A.Automaton.blank i))

pub step-requires : goal.step-requires
step-requires g c =
    let s = g.A.Automaton.system c.args.automaton in
    (c.loop-i.invariant.0, rw c.from.ensures (letter_below s.letters c.args.piece.now c.requires.0 c.loop-i.i c.loop-i-test.true))

pub returns-in_default : goal.returns-in_default
returns-in_default g c =
    let s = g.A.Automaton.system c.args.automaton in
    let i = c.loop-i in
    read_misses s c.args.from c.args.piece.now i.i i.place i.invariant.1 c.loop-i-test.true (letter_below s.letters c.args.piece.now c.requires.0 i.i c.loop-i-test.true) (rw c.from.ensures at c.in_default.ensures)

pub loop-i-preserved : goal.loop-i-preserved
loop-i-preserved g c =
    let a = g.A.Automaton in
    let i = c.loop-i in
    step_leads g.A.Mark.Number.value (a.system c.args.automaton) a.test (a.mark c.args.automaton) a.join g.met.A.Automaton.joins c.args.from c.args.piece.now c.requires.0 i.i i.place (g.A.Mark.Number.value i.mark) c.loop-i-test.true i.invariant.1 i.invariant.2 c.from.result c.from.ensures c.in-Some.next c.in-Some.ensures (g.A.Mark.Number.value c.join-mark.result) c.join-mark.ensures
