-- Closed walks, for any transition system.
--     ClosedPath, closed_path    a closed walk is what some letters take on a path that leads back
--     closed_within              a test that some transition of a closed walk passes, some inside transition of its component passes
use mathlib.Core.Path.{◌≡◌, refl, ap, subst}
use mathlib.Core.Bool.{Bool, true, ◌&&◌, false≢true}
use mathlib.Core.List.{List, [], ◌∷◌, ◌++◌}
use Prim.Native.Nat.{ℕ, suc, ◌<◌}
use native.Mathlib.Omega.{arith}
use lib.Dec.{eqb, ltb}
use lib.ListN.{length}
use borrow.Author.Tests.{eqb-true, ltb-true}
use Rattle.rules.specs.Basics.{any}
use Rattle.rules.specs.Systems.{System, Path, here, step, Leads}
use Rattle.rules.specs.Runs.{Taken, pass_from, goes_from, end_of, is_closed_walk}
use Rattle.rules.proofs.Bools.{clash, or_cases, and_parts}
use Rattle.rules.proofs.Reach.{path_append, together_view, inside_of_return, Within}
use Rattle.rules.proofs.Runs.{path_below}

walk_path : (s : System) (xs : List Taken) (p : ℕ) → goes_from s p xs ≡ true
    → (w : List ℕ) × (xs ≡ pass_from s p w) × Path s p w (end_of s p xs)
walk_path s [] p h = ([], refl, here)
walk_path s (x ∷ xs) p h =
    let y = s.go x.from x.by in
    let a = and_parts (eqb p x.from) (ltb x.from s.states && (ltb x.by s.letters && (ltb y s.states && goes_from s y xs))) h in
    let b = and_parts (ltb x.from s.states) (ltb x.by s.letters && (ltb y s.states && goes_from s y xs)) a.1 in
    let c = and_parts (ltb x.by s.letters) (ltb y s.states && goes_from s y xs) b.1 in
    let d = and_parts (ltb y s.states) (goes_from s y xs) c.1 in
    let r = walk_path s xs y d.1 in
    let whole : Path s x.from (x.by ∷ r.0) (end_of s y xs) = step (ltb-true x.by s.letters c.0) (ltb-true y s.states d.0) r.2 in
    rw (eqb-true p x.from a.0) (x.by ∷ r.0, ap (λ (z : List Taken). x ∷ z) r.1, whole)

pass_length : (s : System) (w : List ℕ) (p : ℕ) → length (pass_from s p w) ≡ length w
pass_length s [] p = refl
pass_length s (a ∷ w) p = ap suc (pass_length s w (s.go p a))

-- a path that leads back leaves a state
closed_below : (s : System) {q : ℕ} (w : List ℕ) → 0 < length w → Path s q w q → q < s.states
closed_below s [] h p = absurd (omega arith)
closed_below s (a ∷ w) h (step l t r) = path_below s t r

pub record ClosedPath (s : System) (xs : List Taken) : Type 0 where
  pub place : ℕ
  pub letters : List ℕ
  pub is_state : place < s.states
  pub some : 0 < length letters
  pub taken_by : xs ≡ pass_from s place letters
  pub path : Path s place letters place

pub closed_path : (s : System) (xs : List Taken) → is_closed_walk s xs ≡ true → ClosedPath s xs
closed_path s [] h = clash h refl
closed_path s (x ∷ xs) h =
    let p = x.from in
    let g = and_parts (goes_from s p (x ∷ xs)) (eqb (end_of s p (x ∷ xs)) p) h in
    let r = walk_path s (x ∷ xs) p g.0 in
    let some : 0 < length r.0 = omega (arith, ap length r.1, pass_length s r.0 p) in
    let path = subst (λ (z : ℕ). Path s p r.0 z) (eqb-true (end_of s p (x ∷ xs)) p g.1) r.2 in
    record { place = p; letters = r.0; is_state = closed_below s r.0 some path; some = some; taken_by = r.1; path = path }

-- every transition of a walk that leads back is an inside transition of the component in which it runs
module _ (s : System) (b : ℕ → ℕ → Bool) where
  walk_within : (o : ℕ) {q : ℕ} {w : List ℕ} {y : ℕ} → q < s.states → Leads s o q → Path s q w y → Leads s y o
      → any (λ x. b x.from x.by) (pass_from s q w) ≡ true → Within s b o
  walk_within o is_state out here back h = absurd (false≢true h)
  walk_within o {q} is_state out (step {a = a} {w = w} l t r) back h =
      or_cases (b q a) (any (λ x. b x.from x.by) (pass_from s (s.go q a) w)) h
      (λ e. record {
        state = q;
        letter = a;
        is_state = is_state;
        is_letter = l;
        near = (together_view s o q).1 (out, (a ∷ (w ++ back.0), step l t (path_append s r back.1)));
        inside = inside_of_return s l t (path_append s (path_append s r back.1) out.1);
        passes = e;
      })
      (λ e. walk_within o t (out.0 ++ (a ∷ []), path_append s out.1 (one l t)) r back e)
    where
      one : a < s.letters → s.go q a < s.states → Path s q (a ∷ []) (s.go q a)
      one l' t' = step l' t' here

  pub closed_within : {q a : ℕ} {w : List ℕ} → Path s q (a ∷ w) q → any (λ x. b x.from x.by) (pass_from s q (a ∷ w)) ≡ true → Within s b q
  closed_within {q} {a} {w} p h = walk_within q (closed_below s (a ∷ w) (omega arith) p) ([], here) p ([], here) h
