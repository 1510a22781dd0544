-- `records::Record::rear` meets its contract. The invariant: the positions from p on make of the code what all positions make of the empty one.
use mathlib.Core.Path.{◌≡◌, sym, ap, ◌∙◌}
use mathlib.Core.Bool.{Bool, not}
use mathlib.Core.List.{List, ◌∷◌}
use Prim.Native.Nat.{ℕ, ◌+◌, ◌*◌, ◌/◌, ◌<◌}
use native.Mathlib.Numerals.{add-one}
use native.Mathlib.Omega.{arith}
use lib.ListN.{drop_of_length-le}
use Rattle.rules.specs.Basics.{pick}
use Rattle.records.specs.Packed.{base, is_marked, places}
use Rattle.records.proofs.Packing.{in_rear, rear_code, rear_below, rear_turn, places_length, pair_below}
use Rattle.records.proofs.Record.rear.Goals as goal
use Rattle.records.proofs.Record.rear.Goals.{then-not-is_in, else-not-is_in}

-- the places that are not of the set
abbrev stays : ℕ → ℕ → Bool
stays mask i = not (is_marked mask i)

pub loop-p-preserved : goal.loop-p-preserved
loop-p-preserved c =
    let s = c.args in
    let turn = c.loop-p in
    let pair : ℕ = c.pair_at-pair.result.0 in
    let goes : Bool = not c.is_in.result in
    let w : ℕ = c.if-not-is_in.code in
    let small : pair < 8 = omega (arith, c.pair_at-pair.ensures, pair_below 6 s.self.code turn.p) in
    let made : w ≡ pick goes (turn.code / base + 32768 * pair) turn.code = elim c.if-not-is_in.branch [ then-not-is_in w ↦ rw w.if-not-is_in.true (w.code-is ∙ w.with_last-code.ensures) | else-not-is_in w ↦ rw w.if-not-is_in.false w.code-is ] in (
      rear_below goes turn.code pair w turn.invariant.0 small made,
      rw (add-one turn.p)
          (rear_turn (places s.self.code) turn.p pair (omega arith) c.pair_at-pair.ensures (stays s.mask) goes (ap not c.is_in.ensures) turn.code w made ∙ turn.invariant.1),
    )

pub returns : goal.returns
returns c =
    let s = c.args in
    let turn = c.loop-p in
    let o : List ℕ = places s.self.code in
    sym (ap (in_rear (stays s.mask) turn.code) (drop_of_length-le (0 ∷ o) {i = turn.p} (omega arith)))
    ∙ turn.invariant.1 ∙ rear_code (is_marked s.mask) o (places_length 6 s.self.code)
