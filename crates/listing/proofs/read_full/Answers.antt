-- `listing::read_full` meets its contract: what a read gives stands after what was read before.
use Rattle.std.proofs.Common.{◌≡◌, ℕ, ◌+◌, ◌≤◌, List, ◌++◌, length, take, le_refl, rules, drop_at, length-take-le}
use Rattle.std.proofs.lemmas.Slice.{take-put_mid_below}
use Rattle.std.proofs.KnownBytes.{Consumes-trans}
use borrow.Rule.Slice.PartMut.{put_mid, post_of}
use lib.Seq.{take-add, take-append-le}
use Rattle.listing.proofs.read_full.Goals as goal

take_read : (d k n : ℕ) (xs ys : List ℕ) → d ≤ length xs → n ≤ length ys → take (d + n) (put_mid d k xs ys) ≡ take d xs ++ take n ys
take_read d k n xs ys l h =
    rw (take-add d n (put_mid d k xs ys), take-put_mid_below d k xs ys d (le_refl d) l, drop_at (take d xs) (ys ++ post_of d k xs) d (length-take-le d xs l), take-append-le n ys (post_of d k xs) h)

pub loop-done-preserved : goal.loop-done-preserved
loop-done-preserved g c =
    (search rules, rw (take_read _ _ _ _ _ c.loop-done.invariant.0 c.in_ok-read.ensures.bound.0) (Consumes-trans _ _ _ _ _ c.loop-done.invariant.1 c.in_ok-read.ensures.bytes.0))
