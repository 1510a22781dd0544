-- `records::Record::moved` meets its contract: the pairs of the set from the first place on, and the others up to the last.
use native.Mathlib.Omega.{arith}
use Rattle.records.specs.Packed.{is_marked, places}
use Rattle.records.proofs.Packing.{moved_joined, moved_small, places_below}
use Rattle.records.proofs.Record.moved.Goals as goal

pub overflow_add-result : goal.overflow_add-result
overflow_add-result c =
    let b = is_marked c.args.mask in
    let o = places c.args.self.code in
    omega (arith, moved_joined b o _ _ c.front-front.ensures c.rear-rear.ensures, moved_small b o 6 (places_below 6 c.args.self.code) (omega arith))

pub returns : goal.returns
returns c = moved_joined (is_marked c.args.mask) (places c.args.self.code) _ _ c.front-front.ensures c.rear-rear.ensures
