-- `components::reach::Met::read_letter` meets its contract.
use Rattle.std.proofs.Common.{◌+◌, ◌<◌, refl, arith, add-one}
use lib.Seq.{get_or-set_other}
use Rattle.rules.proofs.Filling.{beyond_set}
use Rattle.components.specs.Places.{at}
use Rattle.components.proofs.Stores.{put_set, put_as}
use Rattle.components.proofs.Placed.{room}
use Rattle.components.proofs.Reaches.{reached_new, read_old}
use Rattle.components.proofs.reach.Met.read_letter.Goals as goal
use Rattle.components.proofs.reach.Met.read_letter.Goals.{Else-self-target-ne0}

-- the target is a state that is not yet met
module _ (c : Else-self-target-ne0) where
  has_room : c.args.self.now.count < c.args.system.states
  has_room =
      let e = c.requires.3 in
      room _ _ _ _ c.requires.0.queued.places _ (rw e at c.if-system-target.false) (rw e at c.if-self-target-ne0.false)

pub bounds-self-self : goal.bounds-self-self
bounds-self-self c = omega (arith, has_room (goal.at.bounds-self-self c).Else-self-target-ne0, c.requires.0.room.queue_room)

pub bounds-self-self-2 : goal.bounds-self-self-2
bounds-self-self-2 c = omega (arith, has_room (goal.at.bounds-self-self-2 c).Else-self-target-ne0, c.requires.0.room.parent_room)

pub bounds-self-self-3 : goal.bounds-self-self-3
bounds-self-self-3 c = omega (arith, has_room (goal.at.bounds-self-self-3 c).Else-self-target-ne0, c.requires.0.room.letter_room)

pub returns-then-self-target-ne0 : goal.returns-then-self-target-ne0
returns-then-self-target-ne0 c =
    let m = c.args.self.now in
    let some : 0 < at m.numbers.now c.args.target = omega (arith, c.if-self-target-ne0.true) in
    (read_old _ m c.args.k c.args.a c.requires.0 (λ l. rw c.requires.3 at some), refl)

pub returns : goal.returns
returns c =
    let a = c.args in
    let m = a.self.now in
    let r = c.requires.0.room in
    let e = c.requires.3 in
    let l = has_room (goal.at.returns c).Else-self-target-ne0 in (
      record {
        reached = reached_new _ _ _ _ _ _ _ _ _ c.requires.0.queued c.requires.1 c.requires.2 (rw e at c.if-system-target.false) (rw e at c.if-self-target-ne0.false) _ _ _ _
            (put_as _ _ _ _ _ _ e (add-one m.count) (put_set m.numbers.now a.target (m.count + 1) (omega (arith, c.if-system-target.false, r.number_room))))
            (put_as _ _ _ _ _ _ refl e (put_set m.queue.now m.count a.target (omega (arith, r.queue_room))))
            (put_set m.parents.now m.count a.k (omega (arith, r.parent_room)))
            (put_set m.by.now m.count a.a (omega (arith, r.letter_room)));
        more = omega arith;
        untouched = record {
          past_numbers = beyond_set _ m.numbers.now a.target (m.count + 1) c.if-system-target.false;
          past_queue = beyond_set _ m.queue.now m.count a.target (omega arith);
          past_parents = beyond_set _ m.parents.now m.count a.k (omega arith);
          past_letters = beyond_set _ m.by.now m.count a.a (omega arith);
        };
        same = record { numbers = refl; queue = refl; parents = refl; by = refl };
      },
      get_or-set_other m.queue.now m.count a.k a.target 0 (λ z. omega (arith, c.requires.1)),
    )
