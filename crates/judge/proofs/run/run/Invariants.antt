-- `judge::run::run` meets its contract. The invariant: the word is underway, of each pass the mark is kept, and there is room for the places.
use Rattle.std.proofs.Common.{◌≡◌, ◌-◌, ◌≤◌, length, map}
use Rattle.rules.specs.Limits.{max_rows}
use Rattle.judge.specs.Passes.{SumsKept, WordUnderway}
use Rattle.judge.proofs.run.run.Given as goal

abbrev pub invariant-loop-first : goal.invariant-loop-first
invariant-loop-first g l =
    let a = g.A.Automaton in
    let s = a.system l.automaton in
    WordUnderway s (a.start l.automaton) l.lead l.looped l.initial.place l.pass l.place l.count l.first l.begun
    × SumsKept s l.looped l.initial.place a.test (a.mark l.automaton) l.pass (map g.A.Mark.Number.value l.marks)
    × (length l.marks ≡ g.row.ROOM) × (s.states ≤ g.row.ROOM) × (g.row.ROOM ≤ max_rows)

abbrev pub decreases-loop-first : goal.decreases-loop-first
decreases-loop-first g l = (g.A.Automaton.system l.automaton).states - l.pass
