-- `components::find_components` meets its contract: where all fits, the search has room.
use Rattle.std.proofs.Common.{sym}
use Rattle.components.proofs.Fits.{is_system, found_all}
use Rattle.components.proofs.find_components.Goals as goal

pub returns : goal.returns
returns c =
    let a = c.args in
    let i = c.in-Some.ensures in
    found_all a.states a.letters a.targets.now a.work.now a.out.now _ _ _ _ (sym i.fits) (rw (is_system c.in-Some.system a.states a.letters a.targets.now i.same) at c.search.ensures)
