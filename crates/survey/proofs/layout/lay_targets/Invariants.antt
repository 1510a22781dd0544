-- `survey::layout::lay_targets` meets its contract. The invariant: the targets of the cells below c are laid out.
use Rattle.std.proofs.Common.{◌≡◌, get_or}
use Rattle.rules.proofs.Filling.{Filled}
use Rattle.survey.specs.Layouts.{wide_target}
use Rattle.survey.proofs.layout.lay_targets.Given as goal

abbrev pub invariant-loop-c : goal.invariant-loop-c
invariant-loop-c l = Filled (λ i v. v ≡ wide_target (get_or l.bytes i 0)) l.initial.targets l.targets l.c
