-- `survey::survey_cells` meets its contract: the search can begin, and then all states are done.
use Rattle.std.proofs.Common.{◌≡◌, ◌<◌, ◌≤◌, true, length, length-take, refl, sym, ◌∙◌, arith}
use Rattle.rules.specs.Judges.{parity_system}
use Rattle.rules.proofs.Bools.{clash}
use Rattle.survey.specs.declared.cells.Counted.{Counted}
use Rattle.survey.specs.Layouts.{survey_fits, required_of}
use Rattle.survey.specs.Parts.{SurveyedIn}
use Rattle.survey.proofs.Promises.{survey_room, home_few, survey_done}
use Rattle.survey.proofs.Surveying.{AllTaken, all_taken}
use Rattle.survey.proofs.survey_cells.Goals as goal
use Rattle.survey.proofs.survey_cells.Goals.{After-search}

fit : (c : After-search) → survey_fits c.args.states c.args.letters (length c.args.targets.now) (length c.args.marks.now) (length c.args.homes.now) (length c.args.counted.now) ≡ true
fit c = sym c.survey_fits-fits.ensures ∙ c.if-not-fits.false

-- all states are done
taken : (c : After-search) → AllTaken (parity_system c.args.states c.args.letters c.args.targets.now) (required_of c.args.letters c.args.marks.now) (λ (y : Counted). SurveyedIn y.sets)
    c.args.homes.now c.search.new.entries c.search.new.taker
taken c =
    let room = survey_room c.args.states c.args.letters _ _ _ _ (fit c) in
    all_taken (omega (arith, room)) (omega (arith, room)) (omega (arith, room)) (omega (arith, room)) (omega (arith, room)) c.search.ensures (λ q l d. clash d refl, λ q l d. clash d refl)

pub bounds-taker-from : goal.bounds-taker-from
bounds-taker-from c =
    let a = c.args in
    let s = (goal.at.bounds-taker-from c).After-search in
    let x = c.search in
    let room = survey_room a.states a.letters _ _ _ _ (fit s) in
    let few : a.states ≤ length x.new.taker.sets = omega (arith, room, x.new.taker.room) in
    let below : c.loop-q.q < a.states = omega (arith, c.loop-q-test.true, length-take a.states x.new.entries) in
    omega (arith, c.from.ensures, x.new.taker.room, home_few a.states a.letters a.targets.now a.marks.now a.homes.now x.new.entries a.counted.now c.loop-q.counted x.new.taker (fit s) x.auto.entries (taken s) few c.loop-q.q below)

pub returns : goal.returns
returns c =
    let a = c.args in
    let s = (goal.at.returns c).After-search in
    let x = c.search in
    let room = survey_room a.states a.letters _ _ _ _ (fit s) in
    let few : a.states ≤ length x.new.taker.sets = omega (arith, room, x.new.taker.room) in
    let all : c.loop-q.q ≡ a.states = omega (arith, room, x.auto.entries, c.loop-q-test.false, c.loop-q.auto.q-end, length-take a.states x.new.entries) in
    survey_done a.states a.letters a.targets.now a.marks.now a.homes.now x.new.entries a.counted.now c.loop-q.counted x.new.taker (fit s) x.auto.entries (taken s) few
    (rw all at c.loop-q.invariant)
