-- `explore::index::Index::find` meets its contract. The invariant: the search is at `at`, and every place of the key is below it.
use mathlib.Core.Path.{◌≡◌, sym, ap, ◌∙◌}
use native.Mathlib.Omega.{arith}
use Prim.Native.Nat.{ℕ, ◌-◌, ◌≤◌}
use lib.ListN.{length, get_or}
use Rattle.explore.specs.Index.{slot_of}
use Rattle.explore.proofs.Chains.{sought_first, sought_next, next_below}
use Rattle.explore.proofs.index.Index.find.Goals as goal

pub loop-at-init : goal.loop-at-init
loop-at-init g c =
    let p = c.requires in
    let slot_is : c.slot.result ≡ slot_of (length c.args.self.now.heads) c.args.key = c.slot.ensures.value ∙ ap (λ (s : ℕ). slot_of s c.args.key) (sym c.args.self.now.slots) in
    let f = (sought_first _ _ c.args.key _ _ _ p.2.some_slots p.2.chains).within in
    rw slot_is (omega (arith, p.1, f), omega (arith, p.2.enough, f), λ n x. sought_first _ _ _ _ _ _ x.some_slots x.chains)

-- a link falls
falls : (g : _) (c : goal.After-at-in-loop-at-1 g) → get_or c.args.self.now.links (c.from-place.result - 1) 0 ≤ c.from-place.result - 1
falls g c =
    let p = c.requires in
    let i = c.loop-at in
    next_below _ _ _ _ _ p.2.chains _ (omega (arith, c.from-place.ensures, (i.invariant.2 p.0 p.2).within, c.loop-at-test.true))

pub loop-at-smaller : goal.loop-at-smaller
loop-at-smaller g c = omega (arith, c.from-place.ensures, falls g c)

pub loop-at-preserved : goal.loop-at-preserved
loop-at-preserved g c =
    let i = c.loop-at in
    (omega (arith, c.from-place.ensures, falls g c), omega (arith, c.from-place.ensures, falls g c), λ n x. sought_next _ _ _ _ _ _ x.some_slots x.chains _ _ (omega (arith, c.from-place.ensures)) c.if-keys-place.false (i.invariant.2 n x))
