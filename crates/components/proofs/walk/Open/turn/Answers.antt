-- `components::walk::Open::turn` meets its contract.
use Rattle.std.proofs.Common.{◌≡◌, ◌-◌, ◌<◌, ◌≤◌, ◌∙◌, ℕ, refl, ap, arith}
use Rattle.components.specs.Places.{at}
use Rattle.components.specs.Walking.{SearchedIn}
use Rattle.components.proofs.InArrays.{last_state, last_number, last_low, last_next, few_open, deep, read_on, path_state, led_here, some_before}
use Rattle.components.proofs.Placed.{room}
use Rattle.rules.specs.Systems.{System}
use Rattle.components.proofs.Turns.{turn_entered, turn_merged, turn_over, next_small, turn_closed}
use Rattle.components.proofs.walk.Open.turn.Given.{Over}
use Rattle.components.proofs.walk.Open.turn.Goals as goal
use Rattle.components.proofs.walk.Open.turn.Goals.{After-scan-reading, In-Some, In_default, Else-last-states}

pub scan-reading-requires-clause-state : goal.scan-reading-requires-clause-state
scan-reading-requires-clause-state g c =
    let x = c.requires in
    (last_state _ _ _ _ _ x, last_next _ _ _ _ _ x, omega (arith, last_low _ _ _ _ _ x, last_number _ _ _ _ _ x, few_open _ _ _ _ _ x, x.room.small))

-- the letters that could be read are read
module _ (g : Over) (c : After-scan-reading g) where
  has_read : SearchedIn (g.C.Marked.system c.args.system) (g.C.Marked.marks c.args.system) c.args.self.now c.args.states.now c.scan-reading.result.visit
  has_read = read_on _ _ _ _ _ c.requires c.scan-reading.result.visit c.scan-reading.ensures.state c.scan-reading.ensures.read

-- it leads to a state that is not yet met
module _ (g : Over) (c : In-Some g) where
  abbrev s : System
  s = g.C.Marked.system c.args.system

  fresh : (c.scan-reading.result.visit.next < s.letters) × (s.go c.scan-reading.result.visit.state c.scan-reading.result.visit.next ≡ c.in-Some.target) × (c.in-Some.target < s.states)
      × (at c.args.states.now.numbers.now c.in-Some.target ≡ 0)
  fresh = let f = rw c.in-Some.is at c.scan-reading.ensures.fresh in (f.0, ap (λ (q : ℕ). s.go q c.scan-reading.result.visit.next) c.scan-reading.ensures.state ∙ f.1, f.2, f.3)

-- all its letters are read
all_read : (g : Over) (c : In_default g) → (g.C.Marked.system c.args.system).letters ≤ c.scan-reading.result.visit.next
all_read g c = c.scan-reading.ensures.all (rw c.in_default.is refl)

pub keep-requires-clause-small : goal.keep-requires-clause-small
keep-requires-clause-small g c =
    let x = has_read g (goal.at.keep-requires-clause-small g c).After-scan-reading in
    let f = fresh g (goal.at.keep-requires-clause-small g c).In-Some in
    (omega (arith, last_state _ _ _ _ _ x, x.room.small), omega (arith, f.0, x.room.letters_small), omega (arith, last_state _ _ _ _ _ x, x.room.nexts))

pub keep-requires-clause-room : goal.keep-requires-clause-room
keep-requires-clause-room g c =
    let x = has_read g (goal.at.keep-requires-clause-room g c).After-scan-reading in
    let l = deep _ _ _ _ _ x in
    (omega (arith, x.room.small), omega (arith, x.room.path), omega (arith, x.room.lows), omega (arith, x.room.sets))

pub enter-requires : goal.enter-requires
enter-requires g c =
    let x = has_read g (goal.at.enter-requires g c).After-scan-reading in
    let f = fresh g (goal.at.enter-requires g c).In-Some in
    let few = room _ _ _ _ x.searched.places c.in-Some.target f.2 f.3 in
    rw (c.keep.ensures.0, c.keep.ensures.1) (omega (arith, f.2, x.room.small), omega (arith, few, x.room.small), omega (arith, few, x.room.stack), omega (arith, f.2, x.room.numbers))

pub returns-in-Some : goal.returns-in-Some
returns-in-Some g c =
    let x = has_read g (goal.at.returns-in-Some g c).After-scan-reading in
    let f = fresh g (goal.at.returns-in-Some g c).In-Some in
    rw (c.enter.ensures.0, c.enter.ensures.1, c.enter.ensures.2, c.keep.ensures.0, c.keep.ensures.1)
    (turn_entered g.T.Taker.holds g.met.T.Taker.lasts _ _ _ _ _ x c.scan-reading.ensures.byte c.in-Some.target f.0 f.1 f.2 f.3 c.args.taker.now)

pub offset_bounds-states-last : goal.offset_bounds-states-last
offset_bounds-states-last g c =
    let x = has_read g (goal.at.offset_bounds-states-last g c).After-scan-reading in
    omega (arith, last_state _ _ _ _ _ x, x.room.small)

pub bounds-states-last : goal.bounds-states-last
bounds-states-last g c =
    let x = has_read g (goal.at.bounds-states-last g c).After-scan-reading in
    omega (arith, last_state _ _ _ _ _ x, x.room.numbers)

pub overflow_sub-from : goal.overflow_sub-from
overflow_sub-from g c =
    let x = has_read g (goal.at.overflow_sub-from g c).After-scan-reading in
    omega (arith, last_low _ _ _ _ _ x, c.from-from.ensures)

pub hand_over-requires-clause-room : goal.hand_over-requires-clause-room
hand_over-requires-clause-room g c =
    let x = has_read g (goal.at.hand_over-requires-clause-room g c).After-scan-reading in (
      omega (arith, last_low _ _ _ _ _ x, last_number _ _ _ _ _ x, c.from-from.ensures),
      omega (arith, few_open _ _ _ _ _ x, x.room.stack),
      λ i l. (omega (arith, x.searched.places.state i l, x.room.numbers), omega (arith, x.searched.places.state i l, x.room.nexts)),
    )

pub hand_over-requires-clause-differ : goal.hand_over-requires-clause-differ
hand_over-requires-clause-differ g c =
    let x = has_read g (goal.at.hand_over-requires-clause-differ g c).After-scan-reading in
    let p = x.searched.places in
    λ i l e. omega (arith, p.numbered i l, p.numbered (c.from-from.result - 1) (omega (arith, last_low _ _ _ _ _ x, last_number _ _ _ _ _ x, c.from-from.ensures)), ap (at c.args.states.now.numbers.now) e)

pub back-requires-clause-room : goal.back-requires-clause-room
back-requires-clause-room g c =
    let x = has_read g (goal.at.back-requires-clause-room g c).After-scan-reading in
    let l = deep _ _ _ _ _ x in
    (omega (arith, c.if-self-eq0.false), omega (arith, x.room.path), omega (arith, x.room.lows), omega (arith, x.room.sets))

pub back-requires-clause-visits : goal.back-requires-clause-visits
back-requires-clause-visits g c =
    let x = has_read g (goal.at.back-requires-clause-visits g c).After-scan-reading in
    λ k l. (omega (arith, path_state _ _ _ _ _ x k l, x.room.nexts, c.hand_over.ensures.entries.size), x.room.bytes k l)

pub returns-then-self-eq0 : goal.returns-then-self-eq0
returns-then-self-eq0 g c =
    let x = has_read g (goal.at.returns-then-self-eq0 g c).After-scan-reading in
    let r = all_read g (goal.at.returns-then-self-eq0 g c).In_default in
    turn_over g.T.Taker.holds g.met.T.Taker.lasts _ _ _ _ _ x r c.if-last-states.true (c.from-from.result - 1) (omega (arith, c.from-from.ensures)) _ _ _ c.hand_over.ensures c.if-self-eq0.true

pub passed-requires : goal.passed-requires
passed-requires g c =
    let x = has_read g (goal.at.passed-requires g c).After-scan-reading in
    let r = all_read g (goal.at.passed-requires g c).In_default in
    let some : 0 < c.args.self.now.depth = omega (arith, c.if-self-eq0.false) in
    omega (arith, next_small g.T.Taker.holds g.met.T.Taker.lasts _ _ _ _ _ x r c.if-last-states.true (c.from-from.result - 1) (omega (arith, c.from-from.ensures)) _ _ _ c.hand_over.ensures some c.back.result c.back.ensures.1, x.room.letters_small)

pub returns-then-last-states : goal.returns-then-last-states
returns-then-last-states g c =
    let x = has_read g (goal.at.returns-then-last-states g c).After-scan-reading in
    let r = all_read g (goal.at.returns-then-last-states g c).In_default in
    let some : 0 < c.args.self.now.depth = omega (arith, c.if-self-eq0.false) in
    rw (c.passed.ensures, c.back.ensures.0)
    (turn_closed g.T.Taker.holds g.met.T.Taker.lasts _ _ _ _ _ x r c.if-last-states.true (c.from-from.result - 1) (omega (arith, c.from-from.ensures)) _ _ _ c.hand_over.ensures some c.back.result c.back.ensures.1)

-- it leads lower than itself
lower : (g : Over) (c : Else-last-states g) → SearchedIn (g.C.Marked.system c.args.system) (g.C.Marked.marks c.args.system) c.args.self.now c.args.states.now c.scan-reading.result.visit
    → c.scan-reading.result.visit.low < at c.args.states.now.numbers.now c.scan-reading.result.visit.state
lower g c x = omega (arith, c.if-last-states.false, last_low _ _ _ _ _ x)

pub back-requires-2-clause-room : goal.back-requires-2-clause-room
back-requires-2-clause-room g c =
    let b = goal.at.back-requires-2-clause-room g c in
    let x = has_read g b.After-scan-reading in
    let l = deep _ _ _ _ _ x in
    (some_before _ _ _ _ _ x (all_read g b.In_default) (lower g b.Else-last-states x), omega (arith, x.room.path), omega (arith, x.room.lows), omega (arith, x.room.sets))

pub back-requires-2-clause-visits : goal.back-requires-2-clause-visits
back-requires-2-clause-visits g c =
    let x = has_read g (goal.at.back-requires-2-clause-visits g c).After-scan-reading in
    λ k l. (omega (arith, path_state _ _ _ _ _ x k l, x.room.nexts), x.room.bytes k l)

pub joined-requires : goal.joined-requires
joined-requires g c =
    let b = goal.at.joined-requires g c in
    let x = has_read g b.After-scan-reading in
    let some = some_before _ _ _ _ _ x (all_read g b.In_default) (lower g b.Else-last-states x) in
    rw c.back-2.ensures.1 (path_state _ _ _ _ _ x (c.args.self.now.depth - 1) (omega arith), (led_here _ _ _ _ _ x some).0, x.room.letters_small)

pub returns : goal.returns
returns g c =
    let b = goal.at.returns g c in
    let x = has_read g b.After-scan-reading in
    rw c.back-2.ensures.0
    (turn_merged g.T.Taker.holds g.met.T.Taker.lasts _ _ _ _ _ x (all_read g b.In_default) (lower g b.Else-last-states x) c.joined.result (rw c.back-2.ensures.1 at c.joined.ensures) c.args.taker.now)
