-- `components::walk::Open::mark_done` meets its contract.
use Rattle.std.proofs.Common.{◌≡◌, ◌+◌, ◌-◌, ◌∙◌, ◌<◌, refl, sym, ap, arith}
use Rattle.components.specs.Places.{at}
use Rattle.components.proofs.Loops.{passed_none, passed_more}
use Rattle.components.proofs.Stores.{same_or}
use Rattle.components.proofs.walk.Open.mark_done.Goals as goal

pub loop-q-init : goal.loop-q-init
loop-q-init c =
    let o = c.args.self.now in
    let e : o.count - 1 + 1 ≡ o.count = omega (arith, c.requires.room.0) in
    (rw e (passed_none o.count (at o.stack.now) c.args.states.now.numbers.now), refl, omega (arith, c.requires.room.0), omega (arith, c.requires.room.0), c.from-q.ensures)

pub loop-q-preserved : goal.loop-q-preserved
loop-q-preserved c =
    let o = c.args.self.now in
    let t = c.loop-q in
    let v = t.invariant in
    let above : c.args.from < t.place = same_or t.place c.args.from (λ e. absurd (c.loop-q-test.true (v.4 ∙ ap (at o.stack.now) e ∙ sym c.from-first.ensures))) (λ d. omega (arith, v.2)) in
    let e : t.place - 1 + 1 ≡ t.place = omega arith in
    (rw e (passed_more t.place o.count t.q _ _ _ v.0 v.3 v.4 (omega (arith, v.4, c.requires.room.2 t.place v.3, v.0.size))), v.1, omega arith, omega (arith, v.3), c.from-q-in-loop-q.ensures)

pub returns : goal.returns
returns c =
    let o = c.args.self.now in
    let t = c.loop-q in
    let v = t.invariant in
    let e : t.place ≡ c.args.from = c.requires.differ t.place v.3 (sym v.4 ∙ c.loop-q-test.false ∙ c.from-first.ensures) in
    let is = c.from-first.ensures ∙ ap (at o.stack.now) (sym e) in
    record {
      passed = rw e at (passed_more t.place o.count c.from-first.result (at o.stack.now) c.args.states.now.numbers.now t.states.numbers.now v.0 v.3 is (omega (arith, is, c.requires.room.2 t.place v.3, v.0.size)));
      nexts = v.1;
    }
