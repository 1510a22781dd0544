-- Demand 3 for every lawful construction, proved once.
-- A system s with a keeper k that is lawful for a condition is explored from a start within a capacity that is not exceeded. The table
-- of rows, whatever the entries past them in the arrays, is a system that projects onto s; on a closed walk every transition is
-- inside, so the memory is carried along it and the largest priority is the keeper's; so closed walks agree, and with them words.
--     reached_fits                                                  every reachable row has a state, and a memory that fits it
--     target_at, priority_at_lem, source_at                         what the arrays hold for a row and a letter
--     projects                                                      the table of rows projects onto s
--     walk_carried                                                  along a closed walk the rows carry the keeper's memory and priorities
--     paths_agree, walks_agree, looped_words_agree, judges_agree    closed paths, closed walks, looped words and judges agree
--     demand_3                                                      all of it
use mathlib.Core.Path.{◌≡◌, refl, sym, ap, ap₂, ◌∙◌}
use mathlib.Core.Bool.{Bool, true, false, not, ◌||◌}
use mathlib.Core.List.{List, [], ◌∷◌, ◌++◌}
use Prim.Native.Nat.{ℕ, ◌*◌, ◌≤◌, ◌<◌, max}
use native.Mathlib.Omega.{arith}
use lib.Dec.{eqb, ltb, leb}
use lib.ListN.{length, get_or, take, length-append}
use lib.Seq.{take_at}
use borrow.Author.Tests.{ltb-false, lt-ltb, leb-true, leb-false}
use Rattle.rules.specs.Basics.{tabulate, largest, is_even}
use Rattle.rules.specs.Limits.{max_letters, max_rows, no_row}
use Rattle.rules.specs.Systems.{System, is_inside, Path, here, step, Leads}
use Rattle.rules.specs.Runs.{Taken, taken, pass_from, stray_letter, is_closed_walk, projected}
use Rattle.rules.specs.Rows.{Step, Plan, RowsAre, Row, row, Keeper, step_of, plan_of, number_of, rows_of, is_full, row_at, Reached, first_row, next_row, target_number, all_targets, all_priorities, sources}
use Rattle.rules.specs.Tables.{bad_targets}
use Rattle.rules.specs.Answers.{judged_by, unless_refused}
use Rattle.rules.specs.Judges.{parity_system, priority_at, parity_good, parity_fault, word_fault, parity_judge}
use Rattle.rules.specs.Constructions.{memory_after, largest_along, Lawful, Faithful}
use Rattle.rules.proofs.Bools.{by, or_right}
use Rattle.rules.proofs.Sets.{largest_same}
use Rattle.rules.proofs.Reach.{path_append, inside_of_return}
use Rattle.rules.proofs.Walks.{closed_path}
use Rattle.rules.proofs.Agreement.{Projects, path_projects, words_agree}
use Rattle.rules.proofs.Exploration.{rows_view}
use Rattle.rules.proofs.Arrays.{cells_length, cells_at, tabulate_none, joined_none, mapped_at}
use Rattle.rules.proofs.Steps.{step_missing, step_inside, step_crossing, step_there, step_source, step_present, plan_same}
use Rattle.rules.proofs.Refusals.{WordFacts, word_facts, parity_none}

-- ---- the rows
module _
    {M : Type 0}
    (s : System)
    (start : ℕ)
    (k : Keeper M)
    (good : List Taken → Bool)
    (Fits : ℕ → M → Type 0)
    (law : Lawful s k good Fits)
    (is_start : start < s.states)
  where
    abbrev RowFits : Row M → Type 0
    RowFits r = (r.source < s.states) × Fits r.source r.memory

    step_fits : (r : Row M) (a : ℕ) → a < s.letters → RowFits r → (step_of s k r a).there ≡ true → RowFits (step_of s k r a).to
    step_fits r a l f t =
        let h = step_present s k r a t in
        let q = r.source in
        by
        (is_inside s q a)
        (λ i. rw (step_inside s k r a h i) (h, law.fits_move q a r.memory f.0 l i f.1))
        (λ i. rw (step_crossing s k r a h i) (h, law.fits_enter (s.go q a) h))

    pub reached_fits : {r : Row M} → Reached (plan_of s start k) r → RowFits r
    reached_fits first_row = (is_start, law.fits_enter start is_start)
    reached_fits (next_row {r = r} {a = a} h l t) = step_fits r a l (reached_fits h) t

    -- ---- a table of rows that is not full
    module _ (c : ℕ) (not_full : is_full (plan_of s start k) c ≡ false) (within : c ≤ max_rows) where
      abbrev g : Plan (Row M)
      g = plan_of s start k

      abbrev rs : List (Row M)
      rs = rows_of g c

      -- the row of a number, its source state and its memory
      abbrev at : ℕ → Row M
      at i = row_at g rs i

      found : RowsAre g c
      found = rows_view g (plan_same s start k law.same_equal law.same_refl) c

      -- a step that is there leads to a row of the table
      step_found : (i a : ℕ) → i < length rs → a < s.letters → (step_of s k (at i) a).there ≡ true
          → number_of g (step_of s k (at i) a).to rs < length rs
      step_found i a l la t = found.complete not_full (step_of s k (at i) a).to (next_row (found.reached i l) la t)

      rows_fit : (i : ℕ) → i < length rs → ((at i).source < s.states) × Fits (at i).source (at i).memory
      rows_fit i l = reached_fits (found.reached i l)

      -- ---- the arrays, whatever the entries past the rows
      module _ (za zb zd : List ℕ) where
        abbrev ts : List ℕ
        ts = all_targets g no_row rs ++ za

        abbrev ps : List ℕ
        ps = all_priorities g rs ++ zb

        abbrev ss : List ℕ
        ss = sources rs ++ zd

        abbrev P : System
        P = parity_system (length rs) s.letters ts

        abbrev source : ℕ → ℕ
        source i = (at i).source

        target_at : (i a : ℕ) → i < length rs → a < s.letters → P.go i a ≡ target_number g no_row rs (at i) a
        target_at i a l la = cells_at (target_number g no_row rs) s.letters rs za i a no_row g.first l la

        priority_at_lem : (i a : ℕ) → i < length rs → a < s.letters → priority_at s.letters ps (taken i a) ≡ (step_of s k (at i) a).prio
        priority_at_lem i a l la = cells_at (λ r b. (step_of s k r b).prio) s.letters rs zb i a 0 g.first l la

        source_at : (i : ℕ) → i < length rs → get_or ss i 0 ≡ source i
        source_at i l = mapped_at (λ r. r.source) rs zd i 0 g.first l

        -- ---- the table of rows projects onto the system
        -- a transition that is there leads to the row of its step
        target_there : (i a : ℕ) → i < length rs → a < s.letters → s.go (source i) a < s.states
            → (P.go i a < length rs) × (at (P.go i a) ≡ (step_of s k (at i) a).to)
        target_there i a l la h =
            let t = step_there s k (at i) a h in
            let n = step_found i a l la t in
            let e : P.go i a ≡ number_of g (step_of s k (at i) a).to rs = target_at i a l la ∙ rw t in
            rw e (n, found.numbered (step_of s k (at i) a).to n)

        target_missing : (i a : ℕ) → i < length rs → a < s.letters → s.states ≤ s.go (source i) a → P.go i a ≡ no_row
        target_missing i a l la h = target_at i a l la ∙ rw (step_missing s k (at i) a h)

        few : length rs ≤ no_row
        few = omega (arith, ltb-false c (length rs) not_full)

        -- a target is a row exactly if the transition is there
        present : (i a : ℕ) → i < length rs → a < s.letters → P.go i a < length rs → s.go (source i) a < s.states
        present i a l la h =
            by
            (leb s.states (s.go (source i) a))
            (λ e. absurd (omega (arith, few, target_missing i a l la (leb-true s.states (s.go (source i) a) e))))
            (λ e. leb-false s.states (s.go (source i) a) e)

        missing : (i a : ℕ) → i < length rs → a < s.letters → length rs ≤ P.go i a → s.states ≤ s.go (source i) a
        missing i a l la h =
            by
            (leb s.states (s.go (source i) a))
            (λ e. leb-true s.states (s.go (source i) a) e)
            (λ e. absurd (omega (arith, (target_there i a l la (leb-false s.states (s.go (source i) a) e)).0)))

        projects : Projects P s source
        projects =
            record {
              same_letters = refl;
              state = λ i l. (rows_fit i l).0;
              missing = missing;
              present = present;
              target = λ i a l la h. let d = present i a l la h in ap (λ (r : Row M). r.source) (target_there i a l la d).1 ∙ step_source s k (at i) a d;
            }

        -- ---- closed walks
        -- along a path with a way back every transition is inside, so the memory and the priorities are the keeper's
        walk_carried : {i : ℕ} {w : List ℕ} {j : ℕ} → i < length rs → Path P i w j → Leads s (source j) (source i)
            → ((at j).memory ≡ memory_after s k (source i) (at i).memory w) × (largest (priority_at s.letters ps) (pass_from P i w) ≡ largest_along s k (source i) (at i).memory w)
        walk_carried l here back = (refl, refl)
        walk_carried {i} {j = j} l (step {a = a} {w = w} la t r) back =
            let q = source i in
            let d = present i a l la t in
            let e : source (P.go i a) ≡ s.go q a = projects.target i a l la t in
            let on : Path s (s.go q a) w (source j) = rw e at (path_projects P s source projects t r) in
            let inside = inside_of_return s la d (path_append s on back.1) in
            let stepped = step_inside s k (at i) a d inside in
            let next : at (P.go i a) ≡ row (s.go q a) (k.move q a (at i).memory) = (target_there i a l la d).1 ∙ ap (λ (x : Step (Row M)). x.to) stepped in
            let one : Path s q (a ∷ []) (s.go q a) = step la d here in
            let rest = walk_carried t r (back.0 ++ (a ∷ []), rw e (path_append s back.1 one)) in (
              rest.0 ∙ ap (λ (x : Row M). memory_after s k x.source x.memory w) next,
              ap₂ max (priority_at_lem i a l la ∙ ap (λ (x : Step (Row M)). x.prio) stepped) (rest.1 ∙ ap (λ (x : Row M). largest_along s k x.source x.memory w) next),
            )

        paths_agree : (i : ℕ) (w : List ℕ) → i < length rs → 0 < length w → Path P i w i
            → parity_good s.letters ps (pass_from P i w) ≡ good (pass_from s (source i) w)
        paths_agree i [] l some p = absurd (omega arith)
        paths_agree i (a ∷ w) l some p =
            let carried = walk_carried l p ([], here) in
            ap is_even carried.1 ∙ law.loop (source i) (at i).memory a w (path_projects P s source projects l p) (rows_fit i l).1 (sym carried.0)

        pass_projected : {i : ℕ} {w : List ℕ} {j : ℕ} → i < length rs → Path P i w j → projected ss (pass_from P i w) ≡ pass_from s (source i) w
        pass_projected l here = refl
        pass_projected {i} l (step {a = a} {w = w} la t r) =
            ap₂ (λ (q : ℕ) (z : List Taken). taken q a ∷ z) (source_at i l)
            (pass_projected t r ∙ ap (λ (q : ℕ). pass_from s q w) (projects.target i a l la t))

        walks_agree : (xs : List Taken) → is_closed_walk P xs ≡ true → parity_good s.letters ps xs ≡ good (projected ss xs)
        walks_agree xs h =
            let z = closed_path P xs h in
            rw z.taken_by (paths_agree z.place z.letters z.is_state z.some z.path ∙ ap good (sym (pass_projected z.is_state z.path)))

        -- ---- looped words
        looped_words_agree : (lead l : List ℕ) → 0 < length l → stray_letter s.letters lead ≡ false → stray_letter s.letters l ≡ false
            → judged_by P 0 lead l (parity_good s.letters ps) ≡ judged_by s start lead l good
        looped_words_agree lead l some lead-ok l-ok =
            words_agree P s source projects (parity_good s.letters ps) good (λ xs ys e. ap is_even (largest_same (priority_at s.letters ps) xs ys e)) law.set_only paths_agree 0 lead l found.some some lead-ok l-ok
            ∙ ap (λ (r : Row M). judged_by s r.source lead l good) found.first

        -- ---- judges
        targets_good : bad_targets (length rs) no_row (take (length rs * s.letters) ts) ≡ false
        targets_good =
            rw (take_at (all_targets g no_row rs) za (length rs * s.letters) (cells_length (target_number g no_row rs) s.letters rs))
            (joined_none stray (λ r. tabulate s.letters 0 (target_number g no_row rs r)) g.first rs (λ i l. tabulate_none stray (target_number g no_row rs (at i)) s.letters 0 (λ a low la. taken_at i a l (omega arith))))
          where
            stray : ℕ → Bool
            stray x = not (ltb x (length rs) || eqb x no_row)

            taken_at : (i a : ℕ) → i < length rs → a < s.letters → stray (target_number g no_row rs (at i) a) ≡ false
            taken_at i a l la =
                by
                (step_of s k (at i) a).there
                (λ t. rw (t, lt-ltb (number_of g (step_of s k (at i) a).to rs) (length rs) (step_found i a l la t)))
                (λ t. rw (t, or_right (ltb no_row (length rs)) true refl))

        parity_taken : 1 ≤ s.letters → s.letters ≤ max_letters → parity_fault (length rs) s.letters ts ps ≡ 0
        parity_taken some_letters most_letters =
            parity_none (length rs) s.letters ts ps found.some (omega (arith, ltb-false c (length rs) not_full)) some_letters most_letters
            (simp length-append (omega (arith, cells_length (target_number g no_row rs) s.letters rs)))
            (simp length-append (omega (arith, cells_length (λ r a. (step_of s k r a).prio) s.letters rs)))
            targets_good

        judges_agree : 1 ≤ s.letters → s.letters ≤ max_letters → (lead l : List ℕ)
            → parity_judge (length rs) s.letters ts ps lead l ≡ unless_refused (word_fault s.letters lead l) (judged_by s start lead l good)
        judges_agree some_letters most_letters lead l =
            rw (parity_taken some_letters most_letters)
            (by (leb 1 (word_fault s.letters lead l)) (λ e. rw e) (λ e. rw e (heard (word_facts s.letters lead l (omega (arith, leb-false 1 (word_fault s.letters lead l) e))))))
          where
            heard : WordFacts s.letters lead l → judged_by P 0 lead l (parity_good s.letters ps) ≡ judged_by s start lead l good
            heard w = looped_words_agree lead l w.some_loop w.lead_letters w.loop_letters

        pub demand_3 : 1 ≤ s.letters → s.letters ≤ max_letters → Faithful s start good (length rs) ts ps ss
        demand_3 some_letters most_letters =
            record { words = looped_words_agree; judges = judges_agree some_letters most_letters; walks = walks_agree }
