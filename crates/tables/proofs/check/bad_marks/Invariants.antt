-- `tables::check::bad_marks` meets its contract. The invariant: some cell is bad exactly if `bad` says so or one from c on is.
use Rattle.std.proofs.Common.{◌≡◌, ◌||◌, ◌*◌, drop}
use Rattle.rules.specs.Tables.{bad_marks}
use Rattle.tables.proofs.check.bad_marks.Given as goal

abbrev pub invariant-loop-c : goal.invariant-loop-c
invariant-loop-c l = l.bad || bad_marks l.k (drop l.c l.targets) (drop (2 * l.c) l.marks) ≡ bad_marks l.k l.targets l.marks
