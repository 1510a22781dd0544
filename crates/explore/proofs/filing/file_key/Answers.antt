-- `explore::filing::file_key` meets its contract: the key is found, or is absent and there is no room, or it is filed.
use mathlib.Core.Path.{refl, sym}
use Prim.Native.Nat.{◌≤◌}
use native.Mathlib.Numerals.{add-one}
use native.Mathlib.Omega.{arith}
use lib.ListN.{length}
use Rattle.explore.proofs.FilingLaws.{number_absent, rows_old, rows_new, filed_found, filed_added, linked_more}
use Rattle.explore.proofs.filing.file_key.Goals as goal

pub returns-then-capacity-n : goal.returns-then-capacity-n
returns-then-capacity-n g c =
    let room : c.args.n ≤ length c.args.keys.now = omega (arith, c.requires.0.few, c.requires.0.key_room) in
    (record { absent = number_absent _ _ _ room (rw c.in_default.is at (c.find.ensures c.args.n c.requires.1)); full = c.if-capacity-n.true }, refl)

pub returns-in_default : goal.returns-in_default
returns-in_default g c =
    let l = c.if-capacity-n.false in
    (filed_added _ _ _ _ c.requires.0 l (rw c.in_default.is at (c.find.ensures c.args.n c.requires.1)), rw (rows_new c.args.n) (add-one c.args.n), omega arith, rw add-one (linked_more _ _ _ _ c.requires.0 l _ _ _ _ (rw c.args.index.now.room (c.requires.2 l)) c.requires.1 c.add.ensures))

pub returns : goal.returns
returns g c =
    let f = rw c.in-Some.is at (c.find.ensures c.args.n c.requires.1) in
    (filed_found _ _ _ _ c.requires.0 _ f.0 f.1, sym (rows_old _ _ f.0), c.requires.0.few, c.requires.1)
