-- `translate::surveyed::Surveyed::write_codes` meets its contract. The invariants: the codes of the states below q are written, and those of q by the letters
-- below a.
use Rattle.std.proofs.Common.{◌≡◌, ◌+◌, ◌*◌, ◌<◌, ℕ, get_or}
use Rattle.rules.specs.Systems.{cell}
use Rattle.translate.specs.Surveyed.{code_at}
use Rattle.translate.proofs.surveyed.Surveyed.write_codes.Given as goal

abbrev pub invariant-loop-q : goal.invariant-loop-q
invariant-loop-q l = (p b : ℕ) → b < l.self.letters → cell l.self.letters p b < l.q * l.self.letters → get_or l.cells (cell l.self.letters p b) 0 ≡ code_at l.self p b

abbrev pub invariant-loop-a : goal.invariant-loop-a
invariant-loop-a l = (p b : ℕ) → b < l.self.letters → cell l.self.letters p b < l.q * l.self.letters + l.a → get_or l.cells (cell l.self.letters p b) 0 ≡ code_at l.self p b
