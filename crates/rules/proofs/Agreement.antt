-- From closed walks to looped words, with no record in it: two transition systems, one projected onto the other.
--     Projects P S f                  f takes each state of P to a state of S: the same transitions are there, and f commutes with them
--     path_projects, stop_projects    paths and stops of P project to those of S
--     words_agree                     if two conditions agree on every closed walk and its projection, and look at the set of transitions alone, then
--                                     the two judgements of every looped word are the same, the count of a stop included
use mathlib.Core.Path.{◌≡◌, refl, sym, ap, ◌∙◌}
use mathlib.Core.Logic.{⊎_elim}
use mathlib.Core.Bool.{Bool, false}
use mathlib.Core.List.{List, ◌++◌}
use Prim.Native.Nat.{ℕ, zero, suc, ◌+◌, ◌≤◌, ◌<◌}
use native.Mathlib.Omega.{arith}
use lib.ListN.{length, length-append}
use Rattle.rules.specs.Basics.{pick, SameSet, repeated}
use Rattle.rules.specs.Systems.{System, Path, here, step}
use Rattle.rules.specs.Runs.{Taken, pass_from, stray_letter, follow, turn, recurring, Stop}
use Rattle.rules.specs.Answers.{accepts, rejects, judged_by}
use Rattle.rules.proofs.Orbits.{iter_add}
use Rattle.rules.proofs.Judging.{judged_endless, judged_missing}
use Rattle.rules.proofs.Runs.{path_end, path_below, path_or_stop, steady_later, Endless, endless_path, endless_window, run_view}

pub record Projects (P S : System) (f : ℕ → ℕ) : Type 0 where
  pub same_letters : P.letters ≡ S.letters
  pub state : (p : ℕ) → p < P.states → f p < S.states
  pub missing : (p a : ℕ) → p < P.states → a < P.letters → P.states ≤ P.go p a → S.states ≤ S.go (f p) a
  pub present : (p a : ℕ) → p < P.states → a < P.letters → P.go p a < P.states → S.go (f p) a < S.states
  pub target : (p a : ℕ) → p < P.states → a < P.letters → P.go p a < P.states → f (P.go p a) ≡ S.go (f p) a

repeated_some : {A : Type 0} (n : ℕ) (l : List A) → 0 < n → 0 < length l → 0 < length (repeated n l)
repeated_some zero l a b = a
repeated_some (suc n) l a b = simp length-append (omega arith)

module _ (P S : System) (f : ℕ → ℕ) (sim : Projects P S f) where
  pub path_projects : {p : ℕ} {w : List ℕ} {q : ℕ} → p < P.states → Path P p w q → Path S (f p) w (f q)
  path_projects b here = here
  path_projects {p} {q} b (step {a = a} {w = w} l t r) =
      let rest : Path S (S.go (f p) a) w (f q) = rw (sim.target p a b l t) at (path_projects t r) in
      step (rw sim.same_letters at l) (sim.present p a b l t) rest

  pub stop_projects : {p : ℕ} {w : List ℕ} → p < P.states → Stop P p w → Stop S (f p) w
  stop_projects b x =
      record {
        before = x.before;
        next = x.next;
        later = x.later;
        place = f x.place;
        piece = x.piece;
        path = path_projects b x.path;
        letter = rw sim.same_letters at x.letter;
        absent = sim.missing x.place x.next (path_below P b x.path) x.letter x.absent;
      }

  module _
      (goodP good_s : List Taken → Bool)
      (setP : (xs ys : List Taken) → SameSet xs ys → goodP xs ≡ goodP ys)
      (setS : (xs ys : List Taken) → SameSet xs ys → good_s xs ≡ good_s ys)
      (walks : (p : ℕ) (w : List ℕ) → p < P.states → 0 < length w → Path P p w p → goodP (pass_from P p w) ≡ good_s (pass_from S (f p) w))
      (p : ℕ)
      (lead l : List ℕ)
      (b : p < P.states)
      (some : 0 < length l)
      (lead-ok : stray_letter P.letters lead ≡ false)
      (l-ok : stray_letter P.letters l ≡ false)
    where
      -- a run of P that never stops, and its projection: both recur on one closed walk
      module _ (e : Endless P p lead l) (g : Endless S (f p) lead l) where
        turns : (r : ℕ) → turn S l r g.entry ≡ f (turn P l r e.entry)
        turns r = sym (path_end S (endless_path S (f p) lead l g r)) ∙ path_end S (path_projects b (endless_path P p lead l e r))

        round : turn S l e.on.period (turn S l e.on.begin g.entry) ≡ turn S l e.on.begin g.entry
        round =
            let i = e.on.begin in
            let d = e.on.period in
            sym (iter_add (follow S l) d i g.entry) ∙ turns (d + i) ∙ ap f (iter_add (follow P l) d i e.entry ∙ e.on.round) ∙ sym (turns i)

        recurring_agree : goodP (recurring P p lead l) ≡ good_s (recurring S (f p) lead l)
        recurring_agree =
            let i = e.on.begin in
            let d = e.on.period in
            let x = turn P l i e.entry in
            let closed : Path P x (repeated d l) x = rw e.on.round at (steady_later P l e.on i d) in
            setP (recurring P p lead l) (pass_from P x (repeated d l)) (endless_window P p lead l e i d d e.on.some (omega arith) e.on.round)
            ∙ walks x (repeated d l) (path_below P b (endless_path P p lead l e i)) (repeated_some d l e.on.some some) closed
            ∙ ap (λ (z : ℕ). good_s (pass_from S z (repeated d l))) (sym (turns i))
            ∙ sym (setS (recurring S (f p) lead l) (pass_from S (turn S l i g.entry) (repeated d l)) (endless_window S (f p) lead l g i d d e.on.some (omega arith) round))

      pub words_agree : judged_by P p lead l goodP ≡ judged_by S (f p) lead l good_s
      unfolding stop_projects
      words_agree = ⊎_elim endless stopped (run_view P p lead l b lead-ok l-ok)
        where
          lead-ok' : stray_letter S.letters lead ≡ false
          lead-ok' = rw sim.same_letters at lead-ok

          l-ok' : stray_letter S.letters l ≡ false
          l-ok' = rw sim.same_letters at l-ok

          endless : Endless P p lead l → judged_by P p lead l goodP ≡ judged_by S (f p) lead l good_s
          endless e =
              ⊎_elim
              (λ g. judged_endless P p lead l goodP e ∙ ap (λ (z : Bool). pick z accepts rejects) (recurring_agree e g) ∙ sym (judged_endless S (f p) lead l good_s g))
              (λ x. absurd (path_or_stop S (path_projects b (endless_path P p lead l e S.states)) x))
              (run_view S (f p) lead l (sim.state p b) lead-ok' l-ok')

          stopped : Stop P p (lead ++ repeated P.states l) → judged_by P p lead l goodP ≡ judged_by S (f p) lead l good_s
          stopped x =
              let i = length x.before in
              judged_missing P p lead l goodP b lead-ok l-ok i (record { repetitions = P.states; stop = x; count = refl })
              ∙ sym (judged_missing S (f p) lead l good_s (sim.state p b) lead-ok' l-ok' i (record { repetitions = P.states; stop = stop_projects b x; count = refl }))
