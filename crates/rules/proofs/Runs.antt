-- What a run over a looped word means: when it stops, and which transitions recur; for any transition system.
--     repeated_add, repeated_more, repeated_length, repeated_letters    a list repeated
--     path_split, path_end, path_below                                  a path taken apart; where it ends
--     goes_path, goes_stop, goes_view                                   reading a word either follows a path or meets a missing transition
--     path_or_stop, pass_append                                         not both; the transitions of two words, joined
--     stop_after                                                        a path, then a missing transition
--     stops_view                                                        the long run stopped after i letters exactly if the word's run meets a missing transition after i letters
--     Steady                                                            a run that never stops: it reads the loop again and again, and some repetition begins where an earlier one began
--     path_turns, turns_path, turns_below, round_back                   the repetitions of the loop along a path
--     steady_from                                                       two repetitions that begin at the same state: it never stops
--     steady                                                            not stopped after as many repetitions as there are states: never
--     steady_path, steady_later                                         such a run, from its start or from later on
--     takes, takes_recurring                                            the repetitions that take a transition which passes a test
--     Endless, endless_path, endless_run, endless_meets_none            the same for a whole word, lead-in and loop
--     run_view                                                          a word either has such a run or stops
--     endless_window                                                    from a repetition that begins where it begins again d later, d repetitions or more take exactly the recurring transitions
--     recurs_view                                                       a transition is among the recurring ones exactly if for every r it is taken in some repetition after the r-th
use mathlib.Core.Path.{◌≡◌, refl, sym, ap, ◌∙◌, subst}
use mathlib.Core.Logic.{◌↔◌, ◌⊎◌, inl, inr, ⊎_elim}
use mathlib.Core.Bool.{Bool, true, false, ◌||◌, true≢false, false≢true}
use mathlib.Core.List.{List, [], ◌∷◌, ◌++◌, append_assoc, append-nil}
use Prim.Native.Nat.{ℕ, zero, suc, ◌+◌, ◌-◌, ◌*◌, ◌≤◌, ◌<◌}
use native.Mathlib.Nat.{zero-add, suc-add, add_comm, zero-mul, suc-mul}
use native.Mathlib.Omega.{arith}
use lib.Dec.{eqb, ltb, leb}
use lib.ListN.{length, length-append}
use borrow.Author.Tests.{eqb-true, eq-eqb, leb-true, leb-false, le-leb, lt-leb, ltb-true, ltb-false}
use Rattle.rules.specs.Basics.{any, SameSet, repeated}
use Rattle.rules.specs.Systems.{System, Path, here, step}
use Rattle.rules.specs.Runs.{stray_letter, At, standing, reads, goes_by, Taken, taken, is_taken, pass_from, follow, turn, ReadsOn, long_run, recurring, Stop, MeetsMissing, TakenIn, Recurs}
use Rattle.rules.proofs.Bools.{by, clash, or_cases, or_left, or_right, or_none, and_parts, bool_ext}
use Rattle.rules.proofs.Sets.{any_append}
use Rattle.rules.proofs.Reach.{path_append}
use Rattle.rules.proofs.Pigeonhole.{pigeonhole}
use Rattle.rules.proofs.Orbits.{iter_shift, iter_add, round_later, comes_from, Recur, window}

-- ---- repetitions
pub repeated_add : {A : Type 0} (n k : ℕ) (l : List A) → repeated (n + k) l ≡ repeated n l ++ repeated k l
repeated_add zero k l = rw zero-add
repeated_add (suc n) k l = rw (suc-add, repeated_add n k l) (sym (append_assoc l (repeated n l) (repeated k l)))

pub repeated_more : {A : Type 0} (n : ℕ) (l : List A) → repeated (suc n) l ≡ repeated n l ++ l
repeated_more zero l = append-nil l
repeated_more {A} (suc n) l = ap (λ (z : List A). l ++ z) (repeated_more n l) ∙ sym (append_assoc l (repeated n l) l)

pub repeated_length : {A : Type 0} (n : ℕ) (l : List A) → length (repeated n l) ≡ n * length l
repeated_length zero l = sym (zero-mul (length l))
repeated_length (suc n) l = length-append l (repeated n l) ∙ rw (repeated_length n l, suc-mul n (length l)) (add_comm (length l) (n * length l))

pub repeated_letters : (m n : ℕ) (l : List ℕ) → stray_letter m l ≡ false → stray_letter m (repeated n l) ≡ false
repeated_letters m zero l h = refl
repeated_letters m (suc n) l h = any_append (λ a. leb m a) l (repeated n l) ∙ rw (h, repeated_letters m n l h)

module _ (s : System) where
  -- ---- paths
  pub path_end : {p : ℕ} {w : List ℕ} {q : ℕ} → Path s p w q → follow s w p ≡ q
  path_end here = refl
  path_end (step l t a) = path_end a

  pub path_below : {p : ℕ} {w : List ℕ} {q : ℕ} → p < s.states → Path s p w q → q < s.states
  path_below b here = b
  path_below b (step l t a) = path_below t a

  pub path_split : (u : List ℕ) {p : ℕ} {v : List ℕ} {q : ℕ} → Path s p (u ++ v) q → (x : ℕ) × Path s p u x × Path s x v q
  path_split [] {p} a = (p, here, a)
  path_split (c ∷ u) (step l t a) = let r = path_split u a in (r.0, step l t r.1, r.2)

  -- ---- reading a word
  goes_append : (u v : List ℕ) (x : At) → goes_by s x (u ++ v) ≡ goes_by s (goes_by s x u) v
  goes_append [] v x = refl
  goes_append (a ∷ u) v x = goes_append u v (reads s x a)

  goes_stopped : (w : List ℕ) (p n : ℕ) → goes_by s (standing true p n) w ≡ standing true p n
  goes_stopped [] p n = refl
  goes_stopped (a ∷ w) p n = goes_stopped w p n

  pub goes_path : {p : ℕ} {w : List ℕ} {q : ℕ} (n : ℕ) → Path s p w q → goes_by s (standing false p n) w ≡ standing false q (length w + n)
  goes_path {q} n here = rw zero-add
  goes_path {p} {q} n (step {a = a} {w = w} l t r) =
      rw (lt-leb s.states (s.go p a) t) (goes_path (suc n) r ∙ ap (standing false q) (omega arith))

  pub goes_stop : {p : ℕ} {w : List ℕ} (n : ℕ) (x : Stop s p w)
      → goes_by s (standing false p n) w ≡ standing true x.place (length x.before + n)
  goes_stop {p} {w} n x =
      ap (goes_by s (standing false p n)) (sym x.piece) ∙ goes_append x.before (x.next ∷ x.later) (standing false p n)
      ∙ ap (λ (z : At). goes_by s z (x.next ∷ x.later)) (goes_path n x.path) ∙ halted
    where
      halted : goes_by s (standing false x.place (length x.before + n)) (x.next ∷ x.later) ≡ standing true x.place (length x.before + n)
      halted =
          rw (le-leb s.states (s.go x.place x.next) x.absent) (goes_stopped x.later x.place (length x.before + n))

  -- a path, then a missing transition
  unfoldable pub stop_after : (u : List ℕ) {p q : ℕ} {w : List ℕ} → Path s p u q → Stop s q w → Stop s p (u ++ w)
  stop_after u a x =
      record {
        before = u ++ x.before;
        next = x.next;
        later = x.later;
        place = x.place;
        piece = append_assoc u x.before (x.next ∷ x.later) ∙ ap (λ (z : List ℕ). u ++ z) x.piece;
        path = path_append s a x.path;
        letter = x.letter;
        absent = x.absent;
      }

  pub goes_view : (w : List ℕ) (p : ℕ) → stray_letter s.letters w ≡ false → ((q : ℕ) × Path s p w q) ⊎ Stop s p w
  goes_view [] p h = inl (p, here)
  goes_view (a ∷ w) p h =
      let r = or_none (leb s.letters a) (stray_letter s.letters w) h in
      let l = leb-false s.letters a r.0 in
      by
      (leb s.states (s.go p a))
      (λ e. inr (record { before = []; next = a; later = w; place = p; piece = refl; path = here; letter = l; absent = leb-true s.states (s.go p a) e }))
      (λ e. let t = leb-false s.states (s.go p a) e in
      ⊎_elim (λ g. inl (g.0, step l t g.1)) (λ x. inr (stop_after (a ∷ []) (step l t here) x)) (goes_view w (s.go p a) r.1))

  -- a word that is read to its end meets no missing transition
  pub path_or_stop : {p : ℕ} {w : List ℕ} {q : ℕ} → Path s p w q → Stop s p w → ⊥
  path_or_stop {p} {w} a x = true≢false (ap (λ (z : At). z.stopped) (sym (goes_stop 0 x) ∙ goes_path 0 a))

  -- a run that stopped stays where it stopped, however much of the word follows
  stop_longer : {p : ℕ} {w : List ℕ} (v : List ℕ) (x : Stop s p w)
      → goes_by s (standing false p 0) (w ++ v) ≡ goes_by s (standing false p 0) w
  stop_longer {p} {w} v x =
      goes_append w v (standing false p 0) ∙ ap (λ (z : At). goes_by s z v) (goes_stop 0 x)
      ∙ goes_stopped v x.place (length x.before + 0) ∙ sym (goes_stop 0 x)

  pub pass_append : (u v : List ℕ) (p : ℕ) → pass_from s p (u ++ v) ≡ pass_from s p u ++ pass_from s (follow s u p) v
  pass_append [] v p = refl
  pass_append (a ∷ u) v p = ap (λ (z : List Taken). taken p a ∷ z) (pass_append u v (s.go p a))

  -- ---- a run that reads the loop again and again
  module _ (l : List ℕ) where
    pub record Steady (p : ℕ) : Type 0 where
      pub reads_on : (r : ℕ) → Path s (turn s l r p) l (turn s l (suc r) p)
      pub begin : ℕ
      pub period : ℕ
      pub some : 0 < period
      pub early : begin + period ≤ s.states
      pub round : turn s l period (turn s l begin p) ≡ turn s l begin p

    -- the repetitions of a path
    pub path_turns : (n : ℕ) {p q : ℕ} → Path s p (repeated n l) q → ReadsOn s l p n
    path_turns zero a r h = absurd (omega arith)
    path_turns (suc n) {p} a zero h = let b = path_split l a in rw (path_end b.1) b.1
    path_turns (suc n) {p} a (suc r) h =
        let b = path_split l a in
        let c = path_turns n (rw (← path_end b.1) at b.2) r (omega arith) in rw (iter_shift (follow s l) r p) at c

    -- repetitions that are read one after the other
    pub turns_path : (n : ℕ) {p : ℕ} → ReadsOn s l p n → Path s p (repeated n l) (turn s l n p)
    turns_path zero a = here
    turns_path (suc n) a = rw (repeated_more n l) (path_append s (turns_path n (λ r h. a r (omega arith))) (a n (omega arith)))

    pub turns_below : (n p : ℕ) → p < s.states → ReadsOn s l p n → (r : ℕ) → r ≤ n → turn s l r p < s.states
    turns_below n p b a zero h = b
    turns_below n p b a (suc r) h = path_below (turns_below n p b a r (omega arith)) (a r h)

    -- two repetitions that begin at the same state
    pub round_back : (p i j : ℕ) → i < j → turn s l i p ≡ turn s l j p → turn s l (j - i) (turn s l i p) ≡ turn s l i p
    round_back p i j below same =
        let e : j - i + i ≡ j = omega arith in sym (iter_add (follow s l) (j - i) i p) ∙ ap (λ (z : ℕ). turn s l z p) e ∙ sym same

    pub steady_from : {p : ℕ} (i j : ℕ) → ReadsOn s l p j → i < j → j ≤ s.states → turn s l i p ≡ turn s l j p → Steady p
    steady_from {p} i j reads below within same =
        record {
          reads_on = λ r. by (ltb r j) (λ e. reads r (ltb-true r j e)) (λ e. late r (ltb-false r j e));
          begin = i;
          period = j - i;
          some = omega arith;
          early = omega arith;
          round = round_back p i j below same;
        }
      where
        late : (r : ℕ) → j ≤ r → Path s (turn s l r p) l (turn s l (suc r) p)
        late r h =
            let k = comes_from (follow s l) (turn s l i p) (j - i) (omega arith) (round_back p i j below same) (r - i) in
            let e : r - i + i ≡ r = omega arith in
            let earlier : turn s l (k.0 + i) p ≡ turn s l r p = iter_add (follow s l) k.0 i p ∙ sym k.2 ∙ sym (iter_add (follow s l) (r - i) i p) ∙ ap (λ (z : ℕ). turn s l z p) e in
            subst (λ (z : ℕ). Path s z l (follow s l z)) earlier (reads (k.0 + i) (omega (arith, k.1)))

    -- not stopped after as many repetitions as there are states: never
    pub steady : {p q : ℕ} → p < s.states → Path s p (repeated s.states l) q → Steady p
    steady {p} b a =
        let reads = path_turns s.states a in
        let h = pigeonhole s.states (λ r. turn s l r p) (turns_below s.states p b reads) in
        steady_from h.0 h.1 (λ r e. reads r (omega (arith, h.3))) h.2 h.3 h.4

    pub steady_path : {p : ℕ} → Steady p → (r : ℕ) → Path s p (repeated r l) (turn s l r p)
    steady_path st r = turns_path r (λ i h. st.reads_on i)

    pub steady_later : {p : ℕ} → Steady p → (i r : ℕ) → Path s (turn s l i p) (repeated r l) (turn s l r (turn s l i p))
    steady_later st i zero = here
    steady_later {p} st i (suc r) =
        rw (repeated_more r l) (path_append s (steady_later st i r) (rw (iter_add (follow s l) r i p) at (st.reads_on (r + i))))

    module _ (b : Taken → Bool) where
      -- the repetition that begins at p takes a transition that passes b
      abbrev pub takes : ℕ → Bool
      takes p = any b (pass_from s p l)

      takes_more : (w p : ℕ) → any b (pass_from s p (repeated (suc w) l)) ≡ takes p || any b (pass_from s (follow s l p) (repeated w l))
      takes_more w p = ap (any b) (pass_append l (repeated w l) p) ∙ any_append b (pass_from s p l) (pass_from s (follow s l p) (repeated w l))

      turns_find : (w p : ℕ) → any b (pass_from s p (repeated w l)) ≡ true → (k : ℕ) × (k < w) × (takes (turn s l k p) ≡ true)
      turns_find zero p h = absurd (false≢true h)
      turns_find (suc w) p h =
          or_cases (takes p) (any b (pass_from s (follow s l p) (repeated w l))) (sym (takes_more w p) ∙ h) (λ e. (0, omega arith, e))
          (λ e. let r = turns_find w (follow s l p) e in (suc r.0, omega arith, rw (← iter_shift (follow s l) r.0 p) r.2))

      turns_intro : (w p k : ℕ) → k < w → takes (turn s l k p) ≡ true → any b (pass_from s p (repeated w l)) ≡ true
      turns_intro zero p k h t = absurd (omega arith)
      turns_intro (suc w) p zero h t = takes_more w p ∙ or_left (takes p) (any b (pass_from s (follow s l p) (repeated w l))) t
      turns_intro (suc w) p (suc k) h t =
          takes_more w p
          ∙ or_right (takes p) (any b (pass_from s (follow s l p) (repeated w l))) (turns_intro w (follow s l p) k (omega arith) (rw (iter_shift (follow s l) k p) t))

      -- from a repetition that begins where it begins again d later, d repetitions or more take exactly what recurs
      turns_window : (p i d w : ℕ) → 0 < d → d ≤ w → turn s l d (turn s l i p) ≡ turn s l i p
          → Recur (follow s l) takes p ↔ (any b (pass_from s (turn s l i p) (repeated w l)) ≡ true)
      turns_window p i d w some wide round =
          let v = window (follow s l) takes p i d w some wide round in
          (λ h. let r = v.0 h in turns_intro w (turn s l i p) r.0 r.1 r.2, λ h. v.1 (turns_find w (turn s l i p) h))

      -- the computed recurring transitions
      pub takes_recurring : {p : ℕ} (st : Steady p)
          → Recur (follow s l) takes p ↔ (any b (pass_from s (turn s l s.states p) (repeated s.states l)) ≡ true)
      takes_recurring {p} st =
          let e = st.early in
          turns_window p s.states st.period s.states st.some (omega arith)
          (round_later (follow s l) st.period st.begin s.states p (omega arith) st.round)

    recurring_window : {p : ℕ} (st : Steady p) (i d w : ℕ) → 0 < d → d ≤ w → turn s l d (turn s l i p) ≡ turn s l i p
        → SameSet (pass_from s (turn s l s.states p) (repeated s.states l)) (pass_from s (turn s l i p) (repeated w l))
    recurring_window {p} st i d w some wide round b =
        let r = takes_recurring b st in
        let v = turns_window b p i d w some wide round in
        bool_ext (any b (pass_from s (turn s l s.states p) (repeated s.states l))) (any b (pass_from s (turn s l i p) (repeated w l))) (λ h. v.0 (r.1 h)) (λ h. r.0 (v.1 h))

  -- ---- the run over a looped word
  -- a run that never stops: where the lead-in ends, and the loop again and again from there
  pub record Endless (q : ℕ) (lead l : List ℕ) : Type 0 where
    pub entry : ℕ
    pub path : Path s q lead entry
    pub on : Steady l entry

  module _ (q : ℕ) (lead l : List ℕ) where
    word_more : (n r : ℕ) → (lead ++ repeated n l) ++ repeated r l ≡ lead ++ repeated (n + r) l
    word_more n r = append_assoc lead (repeated n l) (repeated r l) ∙ ap (λ (z : List ℕ). lead ++ z) (sym (repeated_add n r l))

    pub endless_path : (e : Endless q lead l) (r : ℕ) → Path s q (lead ++ repeated r l) (turn s l r e.entry)
    endless_path e r = path_append s e.path (steady_path l e.on r)

    pub endless_run : (e : Endless q lead l)
        → long_run s q lead l ≡ standing false (turn s l s.states e.entry) (length (lead ++ repeated s.states l) + 0)
    endless_run e = goes_path 0 (endless_path e s.states)

    pub endless_meets_none : Endless q lead l → (i : ℕ) → MeetsMissing s q lead l i → ⊥
    endless_meets_none e i m = path_or_stop (endless_path e m.repetitions) m.stop

    -- a run that stops does so at one place, however many repetitions are looked at
    stop_same : (n : ℕ) → Stop s q (lead ++ repeated n l) → {i : ℕ} (m : MeetsMissing s q lead l i)
        → goes_by s (standing false q 0) (lead ++ repeated n l) ≡ standing true m.stop.place (length m.stop.before + 0)
    stop_same n x m =
        let r = m.repetitions in
        sym (stop_longer (repeated r l) x) ∙ ap (goes_by s (standing false q 0)) (word_more n r ∙ ap (λ (z : ℕ). lead ++ repeated z l) (add_comm n r) ∙ sym (word_more r n)) ∙ stop_longer (repeated n l) m.stop ∙ goes_stop 0 m.stop

    module _ (is_state : q < s.states) (lead-ok : stray_letter s.letters lead ≡ false) (l-ok : stray_letter s.letters l ≡ false) where
      pub run_view : Endless q lead l ⊎ Stop s q (lead ++ repeated s.states l)
      run_view =
          ⊎_elim
          (λ g. let r = path_split lead g.1 in inl (record { entry = r.0; path = r.1; on = steady l (path_below is_state r.1) r.2 }))
          inr
          (goes_view (lead ++ repeated s.states l) q (any_append (λ a. leb s.letters a) lead (repeated s.states l) ∙ rw (lead-ok, repeated_letters s.letters s.states l l-ok)))

      pub stops_view : (i : ℕ) → (((long_run s q lead l).stopped ≡ true) × ((long_run s q lead l).read ≡ i)) ↔ MeetsMissing s q lead l i
      stops_view i = ⊎_elim endless stopped run_view
        where
          endless : Endless q lead l → (((long_run s q lead l).stopped ≡ true) × ((long_run s q lead l).read ≡ i)) ↔ MeetsMissing s q lead l i
          endless e = (λ h. clash h.0 (ap (λ (z : At). z.stopped) (endless_run e)), λ m. absurd (endless_meets_none e i m))

          stopped : Stop s q (lead ++ repeated s.states l)
              → (((long_run s q lead l).stopped ≡ true) × ((long_run s q lead l).read ≡ i)) ↔ MeetsMissing s q lead l i
          stopped x =
              let at_x = goes_stop 0 x in (
                λ h. record { repetitions = s.states; stop = x; count = omega (arith, h.1, ap (λ (z : At). z.read) at_x) },
                λ m. let at-m = stop_same s.states x m in (ap (λ (z : At). z.stopped) at-m, omega (arith, m.count, ap (λ (z : At). z.read) at-m)),
              )

  -- ---- the transitions that recur
  -- the transitions of a path: each is what some letter takes, where the letters before it lead
  record OnPath (p : ℕ) (w : List ℕ) (x : Taken) : Type 0 where
    before : List ℕ
    later : List ℕ
    piece : before ++ (x.by ∷ later) ≡ w
    path : Path s p before x.from
    present : s.go x.from x.by < s.states

  pass_find : {p : ℕ} {w : List ℕ} {y : ℕ} (x : Taken) → Path s p w y → any (is_taken x) (pass_from s p w) ≡ true → OnPath p w x
  pass_find x here h = absurd (false≢true h)
  pass_find {p} x (step {a = a} {w = w} l t r) h =
      or_cases (is_taken x (taken p a)) (any (is_taken x) (pass_from s (s.go p a) w)) h first (λ e. behind (pass_find x r e))
    where
      first : is_taken x (taken p a) ≡ true → OnPath p (a ∷ w) x
      first e =
          let f = and_parts (eqb x.from p) (eqb x.by a) e in
          let i = eqb-true x.from p f.0 in
          let j = eqb-true x.by a f.1 in
          record { before = []; later = w; piece = rw j; path = rw i here; present = rw (i, j) t }

      behind : OnPath (s.go p a) w x → OnPath p (a ∷ w) x
      behind y =
          record {
            before = a ∷ y.before;
            later = y.later;
            piece = ap (λ (z : List ℕ). a ∷ z) y.piece;
            path = step l t y.path;
            present = y.present;
          }

  pass_intro : {p : ℕ} {w : List ℕ} (x : Taken) → OnPath p w x → any (is_taken x) (pass_from s p w) ≡ true
  pass_intro {p} x y =
      ap (λ (z : List ℕ). any (is_taken x) (pass_from s p z)) (sym y.piece) ∙ ap (any (is_taken x)) (pass_append y.before (x.by ∷ y.later) p)
      ∙ any_append (is_taken x) (pass_from s p y.before) (pass_from s (follow s y.before p) (x.by ∷ y.later))
      ∙ or_right (any (is_taken x) (pass_from s p y.before)) (any (is_taken x) (pass_from s (follow s y.before p) (x.by ∷ y.later))) (rw (path_end y.path, eq-eqb x.from x.from refl, eq-eqb x.by x.by refl))

  module _ (q : ℕ) (lead l : List ℕ) (e : Endless q lead l) where
    taken_view : (r : ℕ) (x : Taken) → TakenIn s q lead l r x ↔ (takes l (is_taken x) (turn s l r e.entry) ≡ true)
    taken_view r x = (shown, λ h. met (pass_find x (e.on.reads_on r) h))
      where
        met : OnPath (turn s l r e.entry) l x → TakenIn s q lead l r x
        met y =
            record {
              before = y.before;
              later = y.later;
              piece = y.piece;
              path = path_append s e.path (path_append s (steady_path l e.on r) y.path);
              present = y.present;
            }

        shown : TakenIn s q lead l r x → takes l (is_taken x) (turn s l r e.entry) ≡ true
        shown y =
            let a = path_split lead y.path in
            let b = path_split (repeated r l) a.2 in
            let i : a.0 ≡ e.entry = sym (path_end a.1) ∙ path_end e.path in
            let j : b.0 ≡ turn s l r e.entry = sym (path_end b.1) ∙ ap (follow s (repeated r l)) i ∙ path_end (steady_path l e.on r) in
            pass_intro x (record { before = y.before; later = y.later; piece = y.piece; path = rw j at b.2; present = y.present })

    endless_recurring : recurring s q lead l ≡ pass_from s (turn s l s.states e.entry) (repeated s.states l)
    endless_recurring = ap (λ (z : At). pass_from s z.place (repeated s.states l)) (endless_run q lead l e)

    endless_recurs : (x : Taken) → (any (is_taken x) (recurring s q lead l) ≡ true) ↔ Recurs s q lead l x
    endless_recurs x =
        let v = takes_recurring l (is_taken x) e.on in (
          λ h r. let k = v.1 (ap (any (is_taken x)) (sym endless_recurring) ∙ h) r in (k.0, k.1, (taken_view k.0 x).1 k.2),
          λ h. ap (any (is_taken x)) endless_recurring ∙ v.0 (λ r. let k = h r in (k.0, k.1, (taken_view k.0 x).0 k.2)),
        )

    pub endless_window : (i d w : ℕ) → 0 < d → d ≤ w → turn s l d (turn s l i e.entry) ≡ turn s l i e.entry
        → SameSet (recurring s q lead l) (pass_from s (turn s l i e.entry) (repeated w l))
    endless_window i d w some wide round b = ap (any b) endless_recurring ∙ recurring_window l e.on i d w some wide round b

  pub recurs_view : (q : ℕ) (lead l : List ℕ) → q < s.states → stray_letter s.letters lead ≡ false → stray_letter s.letters l ≡ false
      → (long_run s q lead l).stopped ≡ false → (x : Taken) → (any (is_taken x) (recurring s q lead l) ≡ true) ↔ Recurs s q lead l x
  recurs_view q lead l b lead-ok l-ok going x =
      ⊎_elim (λ e. endless_recurs q lead l e x) (λ y. clash (ap (λ (z : At). z.stopped) (goes_stop 0 y)) going)
      (run_view q lead l b lead-ok l-ok)
