-- What holds where sizes and arrays fit.
--     is_system    the system of the code is that of the arrays
--     found_all    a search from all states leaves what is promised
use mathlib.Core.Path.{◌≡◌, refl, sym}
use mathlib.Core.Bool.{true, ◌&&◌}
use mathlib.Core.List.{List}
use Prim.Native.Nat.{ℕ, ◌*◌, ◌≤◌}
use native.Mathlib.Omega.{arith}
use lib.Dec.{leb}
use lib.ListN.{length}
use borrow.Author.Tests.{leb-true}
use Rattle.rules.specs.Judges.{parity_system}
use Rattle.rules.specs.Systems.{System}
use Rattle.rules.proofs.Bools.{and_parts, clash}
use Rattle.rules.proofs.Filling.{filled_over}
use Rattle.rules.proofs.Meanings.{components_over}
use Rattle.rules.proofs.Reaching.{reaches_refl}
use Rattle.components.specs.declared.system.System.{System as Coded}
use Rattle.components.specs.Views.{system_of, IsSystem}
use Rattle.components.specs.Handing.{NamedIn}
use Rattle.components.specs.Walking.{SearchSays}
use Rattle.components.specs.Calls.{cells_fit, components_fit, ComponentsFound}

-- the system of the code is that of the arrays
pub is_system : (x : Coded) (n m : ℕ) (targets : List ℕ) → IsSystem n m targets x → system_of x ≡ parity_system n m targets
is_system x n m targets e = rw (e.0, e.1, e.2) refl

-- there is room for the result
out_room : (n m t w o : ℕ) → components_fit n m t w o ≡ true → n ≤ o
out_room n m t w o h =
    let a = and_parts (cells_fit n m t) (leb (5 * n) w && leb n o) h in
    leb-true n o (and_parts (leb (5 * n) w) (leb n o) a.1).1

-- ---- what the calls leave
module _ (n m : ℕ) (targets work out out' : List ℕ) (marks : ℕ → ℕ → ℕ) {T : Type 0} (x x' : T) where
  abbrev s : System
  s = parity_system n m targets

  pub found_all : components_fit n m (length targets) (length work) (length out) ≡ true
      → SearchSays s marks (λ names es s marks done. NamedIn es s done) 0 n out out' x x'
      → ComponentsFound n m targets work out out' true
  found_all fit z =
      let y = z.taken in
      let named = y.3 (λ q l d. clash d refl) in
      let are = y.1 in
      let filled = filled_over _ _ _ _ (out_room n m (length targets) (length work) (length out) fit) (record { size = z.size; done = λ i l. named i l (are.reached i i (omega arith) l l (reaches_refl s i)); rest = λ i l. y.2 i (are.states i l) }) in
      record { answer = sym fit; array = filled; meaning = λ e. rw filled (components_over s out) }
