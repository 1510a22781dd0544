-- `components::walk::Open::hand_over` meets its contract.
use Rattle.std.proofs.Common.{◌≡◌, ◌+◌, ◌-◌, ◌<◌, ◌∙◌, ℕ, take, drop, length, ap, arith}
use Rattle.components.specs.Places.{at}
use Rattle.components.proofs.Loops.{members_length, member_at}
use Rattle.components.proofs.walk.Open.hand_over.Goals as goal

pub returns : goal.returns
returns g c =
    let o = c.args.self.now in
    let from = c.args.from in
    let members = take (o.count - from) (drop from o.stack.now) in
    let many : length members ≡ o.count - from = members_length from o.count o.stack.now c.requires.room.1 in
    let are = λ (i : ℕ) (l : i < length members). member_at from o.count o.stack.now i (omega arith) in
    let passed = c.mark_done.ensures.passed in
    let nexts = ap (λ u. u.now) c.mark_done.ensures.nexts in
    record {
      members = members;
      many = many;
      are = are;
      entries = rw nexts c.take.ensures.entries;
      done = λ i l. rw (are i l) (passed.done (from + i) (omega arith) (omega arith));
      others = λ q none. passed.others q (λ i l u e. let z : from + (i - from) ≡ i = omega arith in none (i - from) (omega arith) (are (i - from) (omega arith) ∙ ap (at o.stack.now) z ∙ e));
      fewer = passed.fewer;
      size = passed.size;
      same = ap (λ u. u.ghost_name) c.mark_done.ensures.nexts;
      takes = rw nexts c.take.ensures.holds;
    }
