-- `judge::run::run` meets its contract.
use Rattle.std.proofs.Common.{◌≡◌, sym, ◌∙◌, refl, ◌+◌, ◌-◌, ◌≤◌, arith, length-set, map}
use Rattle.std.proofs.lemmas.List.{map-set, length-map}
use Rattle.rules.specs.Answers.{accepts, rejects, judged_by}
use Rattle.rules.specs.Basics.{pick}
use Rattle.rules.specs.Limits.{max_rows, max_piece}
use Rattle.rules.proofs.Refusals.{word_facts}
use Rattle.judge.proofs.Pieces.{misses_within}
use Rattle.judge.proofs.Passes.{misses_judged, underway_next, underway_kept, underway_state, underway_count, underway_early, underway_misses, round_earlier, round_decided, sums_mapped}
use Rattle.judge.proofs.run.run.Given.{Over}
use Rattle.judge.proofs.run.run.Goals as goal
use Rattle.judge.proofs.run.run.Goals.{After-accepts}

pub returns-in-Err : goal.returns-in-Err
returns-in-Err g c =
    let a = g.A.Automaton in
    let x = c.args.automaton in
    let w = word_facts (a.system x).letters c.args.lead.now c.args.looped.now c.requires in
    sym (misses_judged (a.system x) (a.start x) c.args.lead.now c.args.looped.now (a.good x) (g.met.A.Automaton.begins x) w.lead_letters w.loop_letters c.in-Err.read (rw c.start.ensures at c.in-Err.ensures))

pub read_piece-requires-in-loop-first : goal.read_piece-requires-in-loop-first
read_piece-requires-in-loop-first g c =
    let w = word_facts (g.A.Automaton.system c.args.automaton).letters c.args.lead.now c.args.looped.now c.requires in
    (w.loop_letters, underway_state c.loop-first.invariant.0)

pub overflow_cast-result-in-Err-read_piece : goal.overflow_cast-result-in-Err-read_piece
overflow_cast-result-in-Err-read_piece g c =
    let s = g.A.Automaton.system c.args.automaton in
    let w = word_facts s.letters c.args.lead.now c.args.looped.now c.requires in
    let states : s.states ≤ max_rows = omega arith in
    let most = underway_count c.loop-first.invariant.0 max_rows max_piece states w.most_loop in
    let missed = misses_within s c.loop-first.place c.args.looped.now c.in-Err-read_piece.read c.in-Err-read_piece.ensures in
    omega (arith, most, missed, w.most_lead, w.most_loop)

pub returns-in-Err-read_piece : goal.returns-in-Err-read_piece
returns-in-Err-read_piece g c =
    let a = g.A.Automaton in
    let x = c.args.automaton in
    let w = word_facts (a.system x).letters c.args.lead.now c.args.looped.now c.requires in
    sym (underway_misses c.loop-first.invariant.0 (a.good x) (g.met.A.Automaton.begins x) w.lead_letters w.loop_letters c.in-Err-read_piece.read c.in-Err-read_piece.ensures)

pub bounds-marks-pass : goal.bounds-marks-pass
bounds-marks-pass g c = omega (arith, underway_early c.loop-first.invariant.0 c.loop-first-test.true)

pub offset_bounds-begun-place : goal.offset_bounds-begun-place
offset_bounds-begun-place g c = omega (arith, underway_state c.loop-first.invariant.0)

pub bounds-begun-place : goal.bounds-begun-place
bounds-begun-place g c = omega (arith, underway_state c.loop-first.invariant.0)

pub loop-first-smaller : goal.loop-first-smaller
loop-first-smaller g c = omega (arith, underway_early c.loop-first.invariant.0 c.loop-first-test.true)

pub listed : goal.listed
listed g c = omega (arith, underway_early c.loop-first.invariant.0 c.loop-first-test.true)

pub loop-first-preserved : goal.loop-first-preserved
loop-first-preserved g c =
    let a = g.A.Automaton in
    let inv = c.loop-first.invariant in
    let on = c.in-Ok-read_piece in
    let n = g.A.Mark.Number.value in
    let marks = c.loop-first.marks in (
      underway_next inv.0 c.loop-first-test.true on.reached.place (c.loop-first.pass + 1) on.ensures.path refl,
      rw (map-set n marks c.loop-first.pass on.reached.mark)
          (underway_kept inv.0 c.loop-first-test.true a.test (a.mark c.args.automaton) (n on.reached.mark) (map n marks) (omega (arith, length-map marks n)) on.ensures.sums inv.1),
      simp length-set inv.2,
      inv.3,
      inv.4,
    )

pub offset_bounds-kept-from : goal.offset_bounds-kept-from
offset_bounds-kept-from g c = omega (arith, round_earlier c.loop-first.invariant.0 c.loop-first-test.false)

pub slice_bounds-sum-count : goal.slice_bounds-sum-count
slice_bounds-sum-count g c = omega (arith, round_earlier c.loop-first.invariant.0 c.loop-first-test.false)

pub slice_bounds-sum-start : goal.slice_bounds-sum-start
slice_bounds-sum-start g c = omega (arith, round_earlier c.loop-first.invariant.0 c.loop-first-test.false)

-- the sum of the marks kept decides
decided : (g : Over) (c : After-accepts g) → judged_by (g.A.Automaton.system c.args.automaton) (g.A.Automaton.start c.args.automaton) c.args.lead.now c.args.looped.now (g.A.Automaton.good c.args.automaton)
    ≡ pick c.accepts.result accepts rejects
decided g c =
    let a = g.A.Automaton in
    let x = c.args.automaton in
    let i = c.loop-first in
    let e : c.from-from.result ≡ i.first = c.from-from.ensures in
    let n = g.A.Mark.Number.value in
    round_decided i.invariant.0 c.loop-first-test.false (a.good x) a.test (a.mark x) (map n i.marks) (n c.sum.result) (omega (arith, i.invariant.0.few, length-map i.marks n)) i.invariant.1
    (sums_mapped a.test n i.marks (i.pass - (i.first - 1)) (i.first - 1) (n c.sum.result) (rw e at c.sum.ensures)) c.accepts.result c.accepts.ensures

pub returns-then-accepts : goal.returns-then-accepts
returns-then-accepts g c = sym (decided g (goal.at.returns-then-accepts g c).After-accepts ∙ rw c.if-accepts.true)

pub returns-else-accepts : goal.returns-else-accepts
returns-else-accepts g c = sym (decided g (goal.at.returns-else-accepts g c).After-accepts ∙ rw c.if-accepts.false)
