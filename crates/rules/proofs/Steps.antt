-- What a row does by a letter, case by case, and when two rows are the same.
--     step_missing, step_inside, step_crossing    the three cases, whole
--     step_there, step_present, step_source       a step is there exactly if the transition is, and leads where it leads
--     plan_same                                   where sameness of memories is equality, sameness of rows is
use mathlib.Core.Path.{◌≡◌, refl, ap, ap₂}
use mathlib.Core.Bool.{true, false}
use Prim.Native.Nat.{ℕ, ◌≤◌, ◌<◌}
use lib.Dec.{eqb, leb}
use borrow.Author.Tests.{eqb-true, eq-eqb, leb-true, leb-false, le-leb, lt-leb}
use Rattle.rules.specs.Systems.{System, is_inside}
use Rattle.rules.specs.Rows.{Step, Row, row, Keeper, SameIsEqual, step_of, plan_of}
use Rattle.rules.proofs.Bools.{by, clash, and_both, and_parts}

module _ {M : Type 0} (s : System) (k : Keeper M) (r : Row M) (a : ℕ) where
  pub step_missing : s.states ≤ s.go r.source a → step_of s k r a ≡ record { there = false; to = r; prio = 0 }
  unfolding step_of
  step_missing h = rw (le-leb s.states (s.go r.source a) h)

  pub step_inside : s.go r.source a < s.states → is_inside s r.source a ≡ true
      → step_of s k r a ≡ record { there = true; to = row (s.go r.source a) (k.move r.source a r.memory); prio = k.prio r.source a r.memory }
  unfolding step_of
  step_inside h i = rw (lt-leb s.states (s.go r.source a) h, i)

  pub step_crossing : s.go r.source a < s.states → is_inside s r.source a ≡ false
      → step_of s k r a ≡ record { there = true; to = row (s.go r.source a) (k.enter (s.go r.source a)); prio = 1 }
  unfolding step_of
  step_crossing h i = rw (lt-leb s.states (s.go r.source a) h, i)

  pub step_there : s.go r.source a < s.states → (step_of s k r a).there ≡ true
  step_there h =
      by
      (is_inside s r.source a)
      (λ i. ap (λ (x : Step (Row M)). x.there) (step_inside h i))
      (λ i. ap (λ (x : Step (Row M)). x.there) (step_crossing h i))

  pub step_source : s.go r.source a < s.states → (step_of s k r a).to.source ≡ s.go r.source a
  step_source h =
      by
      (is_inside s r.source a)
      (λ i. ap (λ (x : Step (Row M)). x.to.source) (step_inside h i))
      (λ i. ap (λ (x : Step (Row M)). x.to.source) (step_crossing h i))

  pub step_present : (step_of s k r a).there ≡ true → s.go r.source a < s.states
  step_present t =
      by
      (leb s.states (s.go r.source a))
      (λ e. clash t (ap (λ (x : Step (Row M)). x.there) (step_missing (leb-true s.states (s.go r.source a) e))))
      (λ e. leb-false s.states (s.go r.source a) e)

pub plan_same : {M : Type 0} (s : System) (start : ℕ) (k : Keeper M) → ((m m' : M) → k.same m m' ≡ true → m ≡ m')
    → ((m : M) → k.same m m ≡ true) → SameIsEqual (plan_of s start k)
plan_same s start k equal self =
    record {
      equal =
          λ x y h. let r = and_parts (eqb x.source y.source) (k.same x.memory y.memory) h in ap₂ row (eqb-true x.source y.source r.0) (equal x.memory y.memory r.1);
      self =
          λ x. and_both (eqb x.source x.source) (k.same x.memory x.memory) (eq-eqb x.source x.source refl) (self x.memory);
    }
