-- `components::walk::search` meets its contract.
use Rattle.std.proofs.Common.{◌≡◌, ◌++◌, ◌<◌, ◌≤◌, ℕ, drop, take, length, refl, arith, rules}
use lib.ListN.{replicate}
use Rattle.components.specs.Places.{done_number, at}
use Rattle.components.proofs.Stores.{begun_room, begun_none, begun_rest}
use Rattle.components.proofs.Walks.{walks_none, walks_more, walks_all, walks_left}
use Rattle.components.proofs.walk.search.Given.{Over}
use Rattle.components.proofs.walk.search.Goals as goal
use Rattle.components.proofs.walk.search.Goals.{After-fill-2}

-- the numbers when the search begins
module _ (g : Over) (c : After-fill-2 g) where
  room_here : c.states-n.result ≤ length c.args.numbers.now
  room_here = omega (arith, c.requires.room.0, c.states-n.ensures)

  all_done : c.fill.new.self ≡ replicate (length c.args.numbers.now) done_number
  all_done = c.fill.ensures.after (λ y e. search rules)

  none_met : c.fill-2.new.self ≡ replicate (length (take c.states-n.result c.fill.new.self)) 0
  none_met = c.fill-2.ensures.after (λ y e. search rules)

  same_room : length (c.fill-2.new.self ++ drop c.states-n.result c.fill.new.self) ≡ length c.args.numbers.now
  same_room = begun_room c.states-n.result c.args.numbers.now _ _ room_here all_done none_met

  none : (q : ℕ) → q < (g.C.Marked.system c.args.system).states → at (c.fill-2.new.self ++ drop c.states-n.result c.fill.new.self) q ≡ 0
  none q l = begun_none c.states-n.result c.args.numbers.now _ _ room_here all_done none_met q (omega (arith, c.states-n.ensures))

  beyond : (q : ℕ) → (g.C.Marked.system c.args.system).states ≤ q → q < length (c.fill-2.new.self ++ drop c.states-n.result c.fill.new.self)
      → at (c.fill-2.new.self ++ drop c.states-n.result c.fill.new.self) q ≡ done_number
  beyond q l u = begun_rest c.states-n.result c.args.numbers.now _ _ room_here all_done none_met q (omega (arith, c.states-n.ensures)) (omega (arith, same_room))

pub loop-root-init : goal.loop-root-init
loop-root-init g c =
    let b = (goal.at.loop-root-init g c).After-fill-2 in
    let r = c.requires.room in
    let e = c.states-n.ensures in
    let a = c.split_at_mut-stack.ensures in
    let d = c.split_at_mut-path.ensures in
    let f = c.split_at_mut-lows.ensures in
    walks_none _ _ g.T.Taker.holds c.args.from _ _ _
    (record {
      small = c.requires.small.0;
      letters_small = c.requires.small.1;
      numbers = omega (arith, same_room g b, r.0);
      beyond = beyond g b;
      nexts = r.2;
      stack = omega (arith, a.front_len, e);
      path = omega (arith, d.front_len, e);
      lows = omega (arith, f.front_len, e);
      sets = omega (arith, f.back_len, d.back_len, a.back_len, e, r.1);
      bytes = λ k l. absurd (omega arith);
    }) refl refl (none g b)

pub walk-requires : goal.walk-requires
walk-requires g c =
    let w = c.loop-root.invariant in
    (w.now, w.none.0, w.none.1, omega (arith, c.loop-root-test.true, c.requires.small.3))

pub loop-root-preserved : goal.loop-root-preserved
loop-root-preserved g c =
    walks_more _ _ g.T.Taker.holds c.args.from c.loop-root.root _ _ _ _ _ _ _ _ (omega (arith, c.loop-root.auto.root)) (omega (arith, c.loop-root-test.true, c.requires.small.3)) c.loop-root.invariant c.walk.ensures

pub returns : goal.returns
returns g c =
    let e : c.loop-root.root ≡ c.args.to = omega (arith, c.loop-root-test.false, c.requires.small.2, c.loop-root.auto.root-end) in
    walks_left _ _ g.T.Taker.holds _ _ _ _ _ _ _ (walks_all _ _ g.T.Taker.holds g.met.T.Taker.lasts c.args.from c.args.to _ _ _ _ _ c.requires.small.3 (none g (goal.at.returns g c).After-fill-2) (rw e at c.loop-root.invariant)) (search rules)
