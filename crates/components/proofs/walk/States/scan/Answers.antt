-- `components::walk::States::scan` meets its contract.
use Rattle.std.proofs.Common.{◌≡◌, ◌+◌, ◌≤◌, ◌||◌, ℕ, sym, refl, ap, arith, bit_or, nat_eq}
use Rattle.rules.proofs.Bools.{clash}
use Rattle.rules.specs.Basics.{pick, bit}
use Rattle.components.specs.Places.{done_number, at}
use Rattle.components.proofs.Loops.{letters_none, letters_more, marks_joined}
use Rattle.components.proofs.walk.States.scan.Goals as goal
use Rattle.components.proofs.walk.States.scan.Goals.{then-number, else-number}

pub loop-after-init : goal.loop-after-init
loop-after-init g c =
    let e : c.args.visit.next + 0 ≡ c.args.visit.next = omega arith in
    (rw e (letters_none _ _ _ c.args.visit.state c.args.visit.next c.args.visit.low c.args.visit.set c.requires.state.1), c.requires.state.2)

pub loop-after-preserved : goal.loop-after-preserved
loop-after-preserved g c =
    let a = c.args in
    let s = g.C.Marked.system a.system in
    let t = c.loop-after in
    let b = a.visit.next + t.after in
    let e : a.visit.next + (t.after + 1) ≡ b + 1 = omega arith in
    let marks = g.C.Marked.marks a.system a.visit.state b in
    let xs = a.self.now.numbers.now in
    let num = at xs c.go-target.result in
    let go : c.go-target.result ≡ s.go a.visit.state b = c.go-target.ensures in
    let union : (i : ℕ) → bit i (bit_or t.set c.if-number.set) ≡ bit i t.set || bit i (pick (nat_eq num done_number) 0 marks) =
    λ i. elim c.if-number.branch [
      | then-number w ↦ marks_joined i t.set c.if-number.set num marks (λ z. w.set-is) (λ d. absurd (d w.if-number.true))
      | else-number w ↦ marks_joined i t.set c.if-number.set num marks (λ z. absurd (w.if-number.false z)) (λ d. rw c.marks-marks.ensures at w.set-is)
    ] in (
      rw e (letters_more s (g.C.Marked.marks a.system) (at xs) a.visit.state a.visit.next a.visit.low a.visit.set b t.low t.set t.invariant.0 (omega arith) (omega (arith, c.loop-after-test.true, c.letters.ensures)) t.invariant.1
          num (omega (arith, c.if-number-eq0.false)) (λ l. ap (at xs) (sym go)) (λ l. c.requires.numbers.1 c.go-target.result (omega arith) c.if-self-target.false)
          c.min-low.result _ (omega (arith, c.min-low.ensures)) (omega (arith, c.min-low.ensures)) (λ h. omega (arith, c.min-low.ensures)) union),
      omega (arith, c.min-low.type_inv),
    )

pub returns-then-number-eq0 : goal.returns-then-number-eq0
returns-then-number-eq0 g c =
    let s = g.C.Marked.system c.args.system in
    let q = c.go-target.result in
    let is_state : (s.states ≤ q → ⊥) = λ l. omega (arith, c.requires.numbers.1 q l c.if-self-target.false, c.if-number-eq0.true) in
    record {
      state = refl;
      read = c.loop-after.invariant.0;
      fresh = (omega (arith, c.loop-after-test.true, c.letters.ensures), sym c.go-target.ensures, omega (arith, is_state), c.if-number-eq0.true);
      all = λ h. clash refl h;
      byte = omega (arith, c.loop-after.auto.set-fits);
    }

pub returns : goal.returns
returns g c =
    let e : c.args.visit.next + c.loop-after.after ≡ c.letters-2.result = omega (arith, c.loop-after-test.false, c.loop-after.auto.after-end, c.letters.ensures, c.letters-2.ensures, c.requires.state.1, c.loop-after.invariant.0.upto) in
    record {
      state = refl;
      read = rw e at c.loop-after.invariant.0;
      fresh = tt;
      all = λ h. omega (arith, c.letters-2.ensures);
      byte = omega (arith, c.loop-after.auto.set-fits);
    }
