-- `list_table` meets its contract: the text of either outcome, by the laws of `Promises`.
use Rattle.rules.proofs.Numbered.{refusal_numbered}
use Rattle.std.proofs.Common.{arith, rules}
use Rattle.listing_text.proofs.Promises.{facts, shown, listing_done, done_reach, listing_refused, refused_reach, listing_says}
use Rattle.listing_text.proofs.Writing.{writer_done}
use Rattle.listing_text.proofs.list_table.Goals as goal
use Rattle.listing_text.proofs.list_table.Goals.{in-Ok, in-Err}

pub bounds-table-1 : goal.bounds-table-1
bounds-table-1 c = omega (arith, (facts c.in-Ok.ensures.says).table)

pub bounds-table-2 : goal.bounds-table-2
bounds-table-2 c = omega (arith, (facts c.in-Ok.ensures.says).table)

pub invariant_of-rows : goal.invariant_of-rows
invariant_of-rows c = record { shown = rw c.from.ensures (shown c.in-Ok.ensures.says) }

pub returns : goal.returns
returns c =
    let t = c.new-text.ensures in
    elim c.match-translation.branch [
      | in-Ok w ↦ let says = w.in-Ok.ensures.says in listing_says says (listing_done says)
          (writer_done t.first t.bytes (rw w.from.ensures at w.put.ensures) (done_reach says) (rw (← w.text-is) (search rules)) (rw (← w.text-is) c.len.ensures))
      | in-Err w ↦ let says = w.in-Err.ensures.says in listing_says says (listing_refused says (refusal_numbered w.in-Err.refusal))
          (writer_done t.first t.bytes w.put_refusal.ensures (refused_reach says) (rw (← w.text-is) (search rules)) (rw (← w.text-is) c.len.ensures))
    ]
