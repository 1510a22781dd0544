-- `components::named::Names` takes a component as `Taker` says. The invariant: the states passed have the name in their entry.
use Rattle.components.proofs.Names.{NamedUpTo}
use Rattle.components.proofs.named.NamesTaker.take.Given as goal

abbrev pub invariant-loop-q : goal.invariant-loop-q
invariant-loop-q l = NamedUpTo l.members l.q-index l.name l.initial.entries l.entries
