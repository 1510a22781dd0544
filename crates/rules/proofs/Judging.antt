-- The answer to a looped word, from the transitions taken in reading it as far as a repetition that begins where an earlier one began; for any
-- transition system and any condition.
--     judged_endless, judged_missing    a run that never stops; one that meets a missing transition
--     judged_lead, judged_pass          a missing transition in the lead-in, or after some whole repetitions
--     judged_round                      a repetition that begins where an earlier one began: the repetitions between decide
use mathlib.Core.Path.{◌≡◌, refl, sym, ap, ◌∙◌}
use mathlib.Core.Bool.{Bool, false}
use mathlib.Core.List.{List, ◌++◌, append-nil}
use Prim.Native.Nat.{ℕ, suc, ◌+◌, ◌-◌, ◌*◌, ◌<◌, ◌≤◌}
use native.Mathlib.Omega.{arith}
use lib.ListN.{length, length-append}
use Rattle.rules.specs.Basics.{pick, SameSet, repeated}
use Rattle.rules.specs.Systems.{System, Path}
use Rattle.rules.specs.Runs.{stray_letter, At, Taken, pass_from, turn, ReadsOn, recurring, Stop, MeetsMissing}
use Rattle.rules.specs.Answers.{accepts, rejects, stops, judged_by}
use Rattle.rules.proofs.Runs.{repeated_more, repeated_length, stop_after, stops_view, turns_path, round_back, steady_from, Endless, endless_run, endless_window}

-- a missing transition, met in another part of the same word
stop_within : (s : System) {p : ℕ} {w v : List ℕ} → w ≡ v → Stop s p w → Stop s p v
stop_within s e x =
    record {
      before = x.before;
      next = x.next;
      later = x.later;
      place = x.place;
      piece = x.piece ∙ e;
      path = x.path;
      letter = x.letter;
      absent = x.absent;
    }

module _ (s : System) (q : ℕ) (lead l : List ℕ) (good : List Taken → Bool) where
  -- a run that does not stop
  pub judged_endless : Endless s q lead l → judged_by s q lead l good ≡ pick (good (recurring s q lead l)) accepts rejects
  judged_endless e = rw (ap (λ (z : At). z.stopped) (endless_run s q lead l e))

  module _ (is_state : q < s.states) (lead-ok : stray_letter s.letters lead ≡ false) (l-ok : stray_letter s.letters l ≡ false) where
    pub judged_missing : (i : ℕ) → MeetsMissing s q lead l i → judged_by s q lead l good ≡ stops i
    judged_missing i m = let v = (stops_view s q lead l is_state lead-ok l-ok i).1 m in rw (v.0, v.1)

    pub judged_lead : (x : Stop s q lead) → judged_by s q lead l good ≡ stops (length x.before)
    unfolding stop_within
    judged_lead x = judged_missing (length x.before) (record { repetitions = 0; stop = stop_within s (sym (append-nil lead)) x; count = refl })

    pub judged_pass : {e : ℕ} → Path s q lead e → (r : ℕ) → ReadsOn s l e r
        → (x : Stop s (turn s l r e) l) → judged_by s q lead l good ≡ stops (length lead + r * length l + length x.before)
    unfolding stop_within stop_after
    judged_pass a r reads x =
        judged_missing _
        (record {
          repetitions = suc r;
          stop = stop_within s (ap (λ (z : List ℕ). lead ++ z) (sym (repeated_more r l))) (stop_after s lead a (stop_after s (repeated r l) (turns_path s l r reads) x));
          count = length-append lead (repeated r l ++ x.before) ∙ omega (arith, length-append (repeated r l) x.before, repeated_length r l);
        })

  -- a repetition that begins where an earlier one began
  pub judged_round : {e : ℕ} → Path s q lead e → (r : ℕ) → ReadsOn s l e r
      → (i : ℕ) → i < r → r ≤ s.states → turn s l i e ≡ turn s l r e
      → (judged_by s q lead l good ≡ pick (good (recurring s q lead l)) accepts rejects) × SameSet (recurring s q lead l) (pass_from s (turn s l i e) (repeated (r - i) l))
  judged_round {e} a r reads i below within same =
      let endless : Endless s q lead l = record { entry = e; path = a; on = steady_from s l i r reads below within same } in
      (judged_endless endless, endless_window s q lead l endless i (r - i) (r - i) (omega arith) (omega arith) (round_back s l e i r below same))
