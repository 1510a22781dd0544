-- `judge::rest_of` meets its contract: the rest of the lead-in, of the loop, or the loop's empty end.
use native.Mathlib.Nat.{le_of_lt, min-eq_left, min-eq_right}
use borrow.Author.Tests.{lt-ltb, le-ltb}
use lib.ListN.{drop_of_length-le}
use lib.Seq.{drop-length}
use Rattle.judge.proofs.Checks.{part_rest}
use Rattle.judge.proofs.rest_of.Goals as goal

pub returns-then-place-lead : goal.returns-then-place-lead
returns-then-place-lead c = let inside = lt-ltb _ _ c.if-place-lead.true in record { says = rw (inside, part_rest); lies = rw inside }

pub returns-then-behind-looped : goal.returns-then-behind-looped
returns-then-behind-looped c =
    let behind = le-ltb _ _ c.if-place-lead.false in
    record { says = rw (behind, part_rest); lies = rw (behind, min-eq_left (le_of_lt c.if-behind-looped.true)) }

pub returns : goal.returns
returns c =
    let behind = le-ltb _ _ c.if-place-lead.false in
    record {
      says = rw (behind, part_rest, drop-length, drop_of_length-le _ c.if-behind-looped.false);
      lies = rw (behind, min-eq_right c.if-behind-looped.false);
    }
