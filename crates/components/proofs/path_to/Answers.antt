-- `components::path_to` meets its contract.
use Rattle.std.proofs.Common.{◌≡◌, ℕ, true, not, ◌&&◌, eqb, ltb}
use borrow.Author.Tests.{eqb-false, not-true}
use Rattle.rules.proofs.Bools.{and_parts}
use Rattle.components.proofs.Reaches.{leading_none, leading_more, leading_all}
use Rattle.components.proofs.path_to.Goals as goal

-- what the test leaves
tested : (i begin p l : ℕ) → not (eqb i 0) && (not (eqb begin 0) && (ltb i p && ltb i l)) ≡ true → (i ≡ 0 → ⊥) × (begin ≡ 0 → ⊥)
tested i begin p l h =
    let a = and_parts (not (eqb i 0)) (not (eqb begin 0) && (ltb i p && ltb i l)) h in
    let b = and_parts (not (eqb begin 0)) (ltb i p && ltb i l) a.1 in
    (eqb-false i 0 (not-true _ a.0), eqb-false begin 0 (not-true _ b.0))

pub loop-i-init : goal.loop-i-init
loop-i-init c = leading_none _ _ _ _

pub loop-i-preserved : goal.loop-i-preserved
loop-i-preserved c =
    let t = tested _ _ _ _ c.loop-i-test.true in
    let l = c.loop-i in
    rw c.from-i.ensures (leading_more _ _ _ _ _ _ _ l.auto.out l.invariant t.0 t.1)

pub returns : goal.returns
returns c = let l = c.loop-i in leading_all _ _ _ _ _ _ _ l.auto.out l.invariant c.loop-i-test.false
