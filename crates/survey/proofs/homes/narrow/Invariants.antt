-- `survey::homes::narrow` meets its contract. The invariant: the entries below q are copied.
use Rattle.std.proofs.Common.{◌≡◌, get_or}
use Rattle.rules.proofs.Filling.{Filled}
use Rattle.survey.proofs.homes.narrow.Given as goal

abbrev pub invariant-loop-q : goal.invariant-loop-q
invariant-loop-q l = Filled (λ i v. v ≡ get_or l.numbers i 0) l.initial.out l.out l.q
