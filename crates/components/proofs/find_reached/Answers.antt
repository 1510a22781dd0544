-- `components::find_reached` meets its contract.
use Rattle.std.proofs.Common.{sym}
use Rattle.rules.proofs.Bools.{clash}
use Rattle.components.proofs.Fits.{is_system}
use Rattle.components.proofs.find_reached.Goals as goal

pub returns-clause-found : goal.returns-clause-found
returns-clause-found c =
    let a = c.args in
    let i = c.in_ok-system.ensures in
    let s = is_system c.in_ok-system.system a.states a.letters a.targets.now i.same in
    record { unfit = λ e. clash (sym i.fits) e; found = λ e. rw s at c.search.ensures.says; untouched = rw i.same.0 at c.search.ensures.untouched }
