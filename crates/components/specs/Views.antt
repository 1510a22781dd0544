-- What the code's struct for a system means.
--     system_of x            system: the system that the array of targets holds
--     no_marks x q a         number: no marks, of any transition
--     IsSystem n m ts x      claim: x has n states, m letters and the targets ts
use Rattle.std.specs.Prelude.{◌≡◌, List, ℕ}
use Rattle.rules.specs.Judges.{parity_system}
use Rattle.rules.specs.Systems
use Rattle.components.specs.declared.system.System.{System}

abbrev pub system_of : System → Systems.System
system_of x = parity_system x.states x.letters x.targets.now

abbrev pub IsSystem : ℕ → ℕ → List ℕ → System → Type 0
IsSystem n m ts x = (x.states ≡ n) × (x.letters ≡ m) × (x.targets.now ≡ ts)

abbrev pub no_marks : System → ℕ → ℕ → ℕ
no_marks x q a = 0
