-- `translate::surveyed::Surveyed::write_entries` meets its contract. The invariant: the keys of the states below q are written.
use Rattle.std.proofs.Common.{◌≡◌, ◌<◌, get_or, ℕ}
use Rattle.translate.specs.Surveyed.{key_at}
use Rattle.translate.proofs.surveyed.Surveyed.write_entries.Given as goal

abbrev pub invariant-loop-q : goal.invariant-loop-q
invariant-loop-q l = (k : ℕ) → k < l.q → get_or l.entries k 0 ≡ key_at l.self k
