-- `survey::survey_cells` meets its contract. The invariant: the states before this one have the set that lies at their component's smallest state.
use Rattle.std.proofs.Common.{◌≡◌, get_or}
use Rattle.rules.proofs.Filling.{Filled}
use Rattle.survey.proofs.survey_cells.Given as goal

abbrev pub invariant-loop-q : goal.invariant-loop-q
invariant-loop-q l = Filled (λ i v. v ≡ get_or l.taker.sets (get_or l.named i 0) 0) l.initial.counted l.counted l.q
