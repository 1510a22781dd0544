-- `survey::cells::Counted` takes a component as `Taker` says. The invariant: the states passed have the set in their entry.
use Rattle.survey.proofs.Surveying.{CountedUpTo}
use Rattle.survey.proofs.cells.CountedTaker.take.Given as goal

abbrev pub invariant-loop-q : goal.invariant-loop-q
invariant-loop-q l = CountedUpTo l.members l.q-index l.set l.initial.self.sets l.self.sets
