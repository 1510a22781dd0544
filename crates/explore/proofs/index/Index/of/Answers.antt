-- `explore::index::Index::of` meets its contract. The invariant: the first i keys are indexed.
use mathlib.Core.Path.{refl, sym}
use Prim.Native.Nat.{◌<◌}
use native.Mathlib.Numerals.{add-one}
use native.Mathlib.Omega.{arith}
use lib.Seq.{get_or-take, length-take-le}
use Rattle.explore.proofs.Chains.{indexed_more}
use Rattle.explore.proofs.index.Index.of.Goals as goal

pub loop-i-preserved : goal.loop-i-preserved
loop-i-preserved g c =
    let i = c.loop-i in
    let x = c.add.ensures in
    let below : i.i < c.args.n = omega (arith, length-take-le c.args.n c.args.keys.now c.requires.1) in
    rw (add-one i.i, x.head_array, x.link_array, i.index.slots)
    (indexed_more g.row.SLOTS i.i _ _ _ _ _ c.requires.2 (omega (arith, i.index.slots)) (omega (arith, i.index.room, c.requires.3, below)) (λ j b. refl) (sym (get_or-take c.args.n c.args.keys.now i.i 0 below)) i.invariant)
