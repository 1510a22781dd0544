-- `records::Record::priority` meets its contract. The invariant: the positions from p on make of `best` the whole priority.
use mathlib.Core.Path.{◌∙◌}
use mathlib.Core.List.{List}
use Prim.Native.Nat.{ℕ}
use native.Mathlib.Numerals.{add-one}
use native.Mathlib.Omega.{arith}
use Rattle.rules.specs.Records.{Marks}
use Rattle.records.specs.Packed.{marks_by, places}
use Rattle.records.proofs.Packing.{decided_turn}
use Rattle.records.proofs.Record.priority.Goals as goal

pub loop-p-preserved : goal.loop-p-preserved
loop-p-preserved c =
    let s = c.args in
    let turn = c.loop-p in
    let m : Marks = marks_by s.prohibited s.required in
    let o : List ℕ = places s.self.code in
    let pair = c.pair_at-pair in
    let i : ℕ = pair.result.0 in
    rw (add-one turn.p)
    (decided_turn o turn.p i (omega arith) pair.ensures m c.is_in-odd.result c.is_in-even.result c.is_in-odd.ensures c.is_in-even.ensures turn.best c.decided-best.result c.decided-best.ensures ∙ turn.invariant)
