-- `records::Record::front` meets its contract. The invariant: the code holds the pairs of the set past position p.
use mathlib.Core.Path.{◌≡◌, ◌∙◌}
use Prim.Native.Nat.{ℕ, ◌-◌, ◌+◌, ◌*◌}
use native.Mathlib.Omega.{arith}
use Rattle.rules.specs.Basics.{pick}
use Rattle.records.specs.Packed.{base, is_marked, places}
use Rattle.records.proofs.Packing.{kept_below, places_below, pair_below, kept_turn}
use Rattle.records.proofs.Record.front.Goals as goal
use Rattle.records.proofs.Record.front.Goals.{then-is_in, else-is_in}

pub with_first-code-requires : goal.with_first-code-requires
with_first-code-requires c =
    let s = c.args in
    let turn = c.loop-p in (
      omega (arith, kept_below (is_marked s.mask) (places s.self.code) turn.p 5 (omega arith) (places_below 6 s.self.code)),
      omega (arith, c.pair_at-pair.ensures, pair_below 6 s.self.code turn.p),
    )

pub loop-p-preserved : goal.loop-p-preserved
loop-p-preserved c =
    let s = c.args in
    let turn = c.loop-p in
    let pair : ℕ = c.pair_at-pair.result.0 in
    let made : c.if-is_in.code ≡ pick c.is_in.result (pair + base * turn.code) turn.code = elim c.if-is_in.branch [ then-is_in w ↦ rw w.if-is_in.true (w.code-is ∙ w.with_first-code.ensures) | else-is_in w ↦ rw w.if-is_in.false w.code-is ] in
    kept_turn (places s.self.code) turn.p pair (omega arith) c.pair_at-pair.ensures (is_marked s.mask) c.is_in.result c.is_in.ensures turn.code c.if-is_in.code (turn.p - 1) (omega arith) turn.invariant made
