-- `explore::effects::Pairs::effect` meets its contract: the code after the move is small.
use Prim.Native.Nat.{◌%◌}
use native.Mathlib.Omega.{arith}
use Rattle.records.specs.Packed.{is_marked, places}
use Rattle.records.proofs.Packing.{moved_small, places_below, places_length}
use Rattle.explore.specs.Effects.{effect_by_pairs}
use Rattle.explore.proofs.effects.PairsRule.effect.Goals as goal

pub overflow_add-result : goal.overflow_add-result
overflow_add-result c =
    let s = c.args in
    let small = moved_small (is_marked (s.marks % 256)) (places s.memory) 6 (places_below 6 s.memory) (omega (arith, places_length 6 s.memory)) in
    omega (arith, c.moved-next.ensures, small, c.priority-priority.type_inv)

pub returns : goal.returns
unfolding effect_by_pairs
returns c =
    let s = c.args in
    let small = moved_small (is_marked (s.marks % 256)) (places s.memory) 6 (places_below 6 s.memory) (omega (arith, places_length 6 s.memory)) in
    record { is = rw (c.moved-next.ensures, c.from.ensures, c.priority-priority.ensures); small = omega (arith, c.moved-next.ensures, small, c.priority-priority.type_inv) }
