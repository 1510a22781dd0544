-- The smallest state of a component names it.
--     component_named            the smallest of its states is the component of each of them
--     NamedUpTo                  the first of some states have a name in their entry, the other entries are as they were
--     named_all                  with the states of one more component named, what is done is named
use mathlib.Core.Path.{◌≡◌, sym, ◌∙◌}
use mathlib.Core.Bool.{Bool, true, false}
use mathlib.Core.List.{List}
use Prim.Native.Nat.{ℕ, ◌<◌, ◌≤◌}
use native.Mathlib.Nat.{le_antisymm}
use lib.Dec.{eqb}
use lib.ListN.{length}
use borrow.Author.Tests.{eqb-true, eq-eqb}
use Rattle.std.specs.Prelude.{slice_index, EachIndex}
use Rattle.std.specs.List.{Contains}
use Rattle.std.proofs.lemmas.Grind.{get_or_default_zero}
use Rattle.rules.specs.Basics.{any_below}
use Rattle.rules.specs.Systems.{System, component_of}
use Rattle.rules.proofs.Bools.{by, clash}
use Rattle.rules.proofs.Reach.{component_together, component_least}
use Rattle.rules.proofs.Sets.{below_find, below_intro}
use Rattle.components.specs.Places.{at}
use Rattle.components.specs.Visiting.{IsComponent}
use Rattle.components.specs.Handing.{HandedOver, NamedIn}

pub component_named : (s : System) (marks : ℕ → ℕ → ℕ) (members : List ℕ) (set r : ℕ) → IsComponent s marks members set → Contains members r
    → EachIndex members (λ k. r ≤ slice_index members k) → (i : ℕ) → i < length members → component_of s (at members i) ≡ r
component_named s marks members set r x some least i l =
    let q = at members i in
    let is : at members some.0 ≡ r = sym (get_or_default_zero members some.0 r some.1) ∙ some.2 in
    let w = x.whole i (component_of s q) l (component_together s q (x.state i l)) in
    le_antisymm (component_least s q r (rw is at (x.shared i some.0 l some.1))) (rw w.2 at (least w.0 w.1))

pub record NamedUpTo (members : List ℕ) (k r : ℕ) (es es' : List ℕ) : Type 0 where
  pub size : length es' ≡ length es
  pub named : (i : ℕ) → i < k → at es' (at members i) ≡ r
  pub others : (q : ℕ) → ((i : ℕ) → i < k → at members i ≡ q → ⊥) → at es' q ≡ at es q

-- what is done is a member, or was done before
pub named_all : (s : System) (marks : ℕ → ℕ → ℕ) (members : List ℕ) (set r : ℕ) (es es' : List ℕ) (done done' : ℕ → Bool) → IsComponent s marks members set
    → Contains members r → EachIndex members (λ k. r ≤ slice_index members k) → NamedUpTo members (length members) r es es' → HandedOver members done done'
    → NamedIn es s done → NamedIn es' s done'
named_all s marks members set r es es' done done' x some least y h before q l d = by (any_below (length members) is) member other
  where
    is : ℕ → Bool
    is i = eqb (at members i) q

    member : any_below (length members) is ≡ true → at es' q ≡ component_of s q
    member e =
        let f = below_find (length members) is e in
        rw (← eqb-true (at members f.0) q f.2) (y.named f.0 f.1 ∙ sym (component_named s marks members set r x some least f.0 f.1))

    other : any_below (length members) is ≡ false → at es' q ≡ component_of s q
    other e =
        let no : (i : ℕ) → i < length members → at members i ≡ q → ⊥ = λ i b f. clash (below_intro (length members) is i b (eq-eqb (at members i) q f)) e in
        y.others q no ∙ before q l (sym (h.others q no) ∙ d)
