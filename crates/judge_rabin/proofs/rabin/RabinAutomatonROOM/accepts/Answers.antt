-- The Rabin table's `accepts` meets its contract: the two bytes of the mask sum up the pairs prohibited and those required.
use Rattle.std.proofs.Common.{sym, ◌%◌, ◌/◌, arith}
use Rattle.judge_rabin.proofs.Marks.{mask_sums, union_satisfies}
use Rattle.judge_rabin.proofs.rabin.RabinAutomatonROOM.accepts.Goals as goal

pub returns : goal.returns
returns c =
    let table = c.args.self.table in
    let v = c.args.union in
    λ xs h. let two = mask_sums table.bytes.now table.well_formed xs v (omega arith) h in
    sym (union_satisfies table.bytes.now table.well_formed xs (v % 256) (v / 256) (omega arith) two.0 two.1)
