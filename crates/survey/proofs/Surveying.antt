-- What a survey knows of the states that are done, and the arrays that it leaves.
--     CountedUpTo               the first of some states have a set in their entry, as far as there are entries, the others are as they were
--     counted_more              with one component more, what is done has its set
--     marks_at_home             a component's smallest state has the marks of each of its states
--     AllTaken, all_taken       all states are done: so it is after a search from all of them
--     listed                    an array with a list at its front
--     home_inside               which transitions are inside, by the numbers of components
use mathlib.Core.Path.{◌≡◌, sym, ◌∙◌}
use mathlib.Core.Bool.{Bool, true, false, ◌&&◌}
use mathlib.Core.List.{List}
use Prim.Native.Nat.{ℕ, ◌*◌, ◌<◌, ◌≤◌}
use native.Mathlib.Omega.{arith}
use lib.Dec.{eqb, ltb}
use lib.ListN.{length, get_or}
use borrow.Author.Tests.{eqb-true, eq-eqb, ltb-true, lt-ltb, le-leb}
use Rattle.rules.specs.Basics.{any_below, bit, tabulate}
use Rattle.rules.specs.Says.{over}
use Rattle.rules.specs.Systems.{System, is_inside, component_of, some_within}
use Rattle.rules.proofs.Bools.{by, clash}
use Rattle.rules.proofs.Filling.{over_at}
use Rattle.rules.proofs.Reach.{inside_component, within_component, component_same, component_together}
use Rattle.rules.proofs.Reaching.{reaches_refl, component_below}
use Rattle.rules.proofs.Sets.{below_find, below_intro}
use Rattle.components.specs.Places.{done_number, at}
use Rattle.components.specs.Visiting.{marks_within, IsComponent}
use Rattle.components.specs.Handing.{Holds, HandedOver, search_fits, ComponentsTaken}
use Rattle.components.proofs.Marks.{set_is}
use Rattle.survey.specs.Parts.{Listed, CountedIn}
use Rattle.survey.proofs.Laying.{same_bits}

pub record CountedUpTo (members : List ℕ) (k set : ℕ) (xs xs' : List ℕ) : Type 0 where
  pub size : length xs' ≡ length xs
  pub now : (i : ℕ) → i < k → at members i < length xs → at xs' (at members i) ≡ set
  pub others : (q : ℕ) → ((i : ℕ) → i < k → at members i ≡ q → ⊥) → at xs' q ≡ at xs q

-- what is done is a member, or was done before
pub counted_more : (s : System) (marks : ℕ → ℕ → ℕ) (members : List ℕ) (set : ℕ) (xs xs' : List ℕ) (done done' : ℕ → Bool) → IsComponent s marks members set
    → set < 256 → CountedUpTo members (length members) set xs xs' → HandedOver members done done' → CountedIn xs s marks done → CountedIn xs' s marks done'
counted_more s marks members set xs xs' done done' part small y h before q l d = by (any_below (length members) is) member other
  where
    is : ℕ → Bool
    is i = eqb (at members i) q

    member : any_below (length members) is ≡ true → at xs' q ≡ marks_within s marks q
    member e =
        let f = below_find (length members) is e in
        let same : at members f.0 ≡ q = eqb-true (at members f.0) q f.2 in
        rw (← same) (y.now f.0 f.1 (rw (same, ← y.size) l) ∙ set_is part small f.0 f.1)

    other : any_below (length members) is ≡ false → at xs' q ≡ marks_within s marks q
    other e =
        let no : (i : ℕ) → i < length members → at members i ≡ q → ⊥ = λ i b z. clash (below_intro (length members) is i b (eq-eqb (at members i) q z)) e in
        y.others q no ∙ before q (rw (← y.size) l) (sym (h.others q no) ∙ d)

pub marks_at_home : (s : System) (marks : ℕ → ℕ → ℕ) (q : ℕ) → q < s.states → marks_within s marks (component_of s q) ≡ marks_within s marks q
unfolding marks_within
marks_at_home s marks q l =
    let below = component_below s q l in
    let home : component_of s (component_of s q) ≡ component_of s q = sym ((component_same s q (component_of s q) l below).0 (component_together s q l)) in
    let has : ℕ → ℕ → ℕ → Bool = λ b p a. bit b (marks p a) in
    same_bits (λ b. some_within s (has b) (component_of s q)) (λ b. some_within s (has b) q) 8
    (λ b. within_component s (has b) (component_of s q) below ∙ rw home (sym (within_component s (has b) q l)))

-- ---- a search from all states
pub record AllTaken {T : Type 0} (s : System) (marks : ℕ → ℕ → ℕ) (holds : Holds T) (es es' : List ℕ) (x' : T) : Type 0 where
  pub done : ℕ → Bool
  pub all : (q : ℕ) → q < s.states → done q ≡ true
  pub rest : (q : ℕ) → s.states ≤ q → at es' q ≡ at es q
  pub held : holds x' es' s marks done

pub all_taken : {T : Type 0} {s : System} {marks : ℕ → ℕ → ℕ} {holds : Holds T} {a w : ℕ} {es es' : List ℕ} {x x' : T} {r : Bool}
    → s.states < done_number → s.letters < done_number → s.states ≤ a → 4 * s.states ≤ w → s.states ≤ length es
    → ComponentsTaken s marks holds 0 s.states a w es es' x x' r → holds x es s marks (λ q. false) → AllTaken s marks holds es es' x'
all_taken {T} {s} {marks} {holds} {a} {w} {es} few letters la lw le x none =
    let n = s.states in
    let fits : search_fits s 0 n a w (length es) ≡ true = rw (lt-ltb n done_number few, lt-ltb s.letters done_number letters, le-leb 0 n (omega arith), le-leb n n (omega arith), le-leb n a la, le-leb (4 * n) w lw, le-leb n (length es) le) in
    let t = x.taken (x.answer ∙ fits) in
    record { done = t.0; all = λ q l. t.1.reached q q (omega arith) l l (reaches_refl s q); rest = λ q l. t.2 q (t.1.states q l); held = t.3 none }

-- ---- arrays
pub listed : (n : ℕ) (g : ℕ → ℕ) (old xs : List ℕ) → n ≤ length xs → xs ≡ over (tabulate n 0 g) old → Listed n g xs
listed n g old xs l e = record { enough = l; entry = λ q b. rw e (over_at g n old q b) }

-- which transitions are inside, by the numbers of components
pub home_inside : (s : System) (components : List ℕ) → Listed s.states (component_of s) components → (q a : ℕ) → q < s.states
    → ltb (s.go q a) s.states && eqb (get_or components (s.go q a) 0) (get_or components q 0) ≡ is_inside s q a
home_inside s components f q a l =
    rw (inside_component s q a l, f.entry q l)
    (by (ltb (s.go q a) s.states) (λ e. rw (e, f.entry (s.go q a) (ltb-true (s.go q a) s.states e))) (λ e. rw e))
