-- What a turn of the search leaves.
--     progress_none               what is kept where nothing is met and nothing handed over
--     turn_entered                a state that is not yet met is visited
--     turn_merged                 the visit in hand is joined to the one before
--     turn_over                   a component is handed over, and no visit is left
--     next_small, turn_closed     or it goes back to the one before
use mathlib.Core.Path.{◌≡◌, refl, sym, ap, ◌∙◌}
use mathlib.Core.Bool.{Bool, true, false, and-false}
use Rattle.std.specs.Prelude.{None, Some}
use Rattle.rules.proofs.Reaching.{reaches_step}
use Rattle.rules.proofs.Bools.{clash}
use mathlib.Core.List.{List}
use Prim.Native.Nat.{ℕ, suc, ◌+◌, ◌-◌, ◌<◌, ◌≤◌}
use native.Mathlib.Numerals.{add-one}
use native.Mathlib.Omega.{arith}
use lib.Dec.{ltb}
use lib.ListN.{length, length-set}
use borrow.Author.Tests.{ne_eqb, lt-ltb}
use Rattle.rules.specs.Systems.{System}
use Rattle.components.specs.declared.walk.Open.{Open}
use Rattle.components.specs.declared.walk.States.{States}
use Rattle.components.specs.declared.walk.Visit.{Visit}
use Rattle.components.specs.Places.{done_number, at, Put}
use Rattle.components.specs.Visiting.{IsComponent}
use Rattle.components.specs.Walking.{with_last, next_at, SearchedIn, KeptIn, entered, numbered, begun, kept, next_is, visit_at, JoinSays, HandSays, Progress, ClosedTest, MetIn, TurnSays, done_in}
use Rattle.components.specs.Handing.{Holds, Lasts, HandedOver}
use Rattle.components.proofs.Stores.{put_set, occurs_less, same_or}
use Rattle.components.proofs.Visits.{agree}
use Rattle.components.proofs.Closings.{last_component, not_closed, close, grown}
use Rattle.components.proofs.InArrays.{at_last, below_last, last_state, last_number, few_open, deep, keep_visit, back_visit, count_few, enter_state, led_here, passed_letter, some_before, merged_last}

-- nothing is met, and nothing handed over
pub progress_none : {T : Type 0} (s : System) (marks : ℕ → ℕ → ℕ) (holds : Holds T) (t : States) (y : T)
    → Progress s marks holds t t y y
progress_none s marks holds t y = record { met = λ q l h. h; rest = λ q h. refl; size = refl; same = refl; takes = λ h. h }

-- ---- what a turn leaves, with the letters of the visit in hand read as far as they can be
module _ {T : Type 0} (holds : Holds T) (lasts : Lasts holds) (s : System) (marks : ℕ → ℕ → ℕ) (o : Open) (t : States) (v : Visit) (x : SearchedIn s marks o t v)
  where
    abbrev numbers : List ℕ
    numbers = t.numbers.now

    -- what is open is not done
    not_done : (q : ℕ) → at numbers q ≤ o.count → done_in s numbers q ≡ false
    not_done q l = rw (ne_eqb (at numbers q) done_number (λ e. omega (arith, few_open s marks o t v x, x.room.small))) (and-false (ltb q s.states))

    -- it goes on to a state that is not yet met
    module _ (byte : v.set < 256) (w : ℕ) (la : v.next < s.letters) (go : s.go v.state v.next ≡ w) (lw : w < s.states) (z : at numbers w ≡ 0) (y : T) where
      abbrev o₁ : Open
      o₁ = kept v o

      abbrev t₁ : States
      t₁ = next_is v.state v.next t

      abbrev t₂ : States
      t₂ = numbered w (o.count + 1) t₁

      in_arrays : KeptIn s marks o₁ t₁
      in_arrays = keep_visit s marks o t v x byte

      put_path : Put (at o.path.now) (at o₁.path.now) o.depth v.state
      put_path = put_set o.path.now o.depth v.state (omega (arith, deep s marks o t v x, x.room.path))

      put_next : Put (at t.nexts.now) (at t₁.nexts.now) v.state v.next
      put_next = put_set t.nexts.now v.state v.next (omega (arith, last_state s marks o t v x, x.room.nexts))

      put_number : Put (at numbers) (at t₂.numbers.now) w (o.count + 1)
      put_number = put_set numbers w (o.count + 1) (omega (arith, x.room.numbers))

      led : 0 < o₁.depth → (next_at o₁ t₁ (o₁.depth - 1) < s.letters) × (s.go (at o₁.path.now (o₁.depth - 1)) (next_at o₁ t₁ (o₁.depth - 1)) ≡ w)
      led h = let e : o.depth + 1 - 1 ≡ o.depth = omega arith in rw (e, put_path.here, put_next.here) (la, go)

      few : o.count < s.states
      few = count_few s marks o₁ t₁ in_arrays w lw z led

      still_done : (q : ℕ) → done_in s t₂.numbers.now q ≡ done_in s numbers q
      still_done q =
          same_or q w
          (λ e. rw (e, put_number.here, z) (rw (ne_eqb (o.count + 1) done_number (λ f. omega (arith, few, x.room.small)))))
          (λ n. rw (put_number.others q n))

      pub turn_entered : TurnSays s marks holds o (entered w o₁) t t₂ y y (Some (begun w (o.count + 1)))
      turn_entered =
          record {
            on = (enter_state s marks o₁ t₁ in_arrays w lw z led, omega (arith, rw (← add-one o.count) at (occurs_less numbers w o.count (omega (arith, x.room.numbers)) z)));
            over = λ h. clash refl h;
            only = λ b c h q l n. same_or q w (λ e. rw (e, ← go) (c v.state (s.go v.state v.next) (h v.state (last_state s marks o t v x) (last_number s marks o t v x).0) (reaches_step s v.state v.next la (rw (← go) at lw)))) (λ d. h q l (rw (put_number.others q d) at n));
            progress = record {
              met = λ q l n. same_or q w (λ e. rw (e, put_number.here) (omega arith)) (λ d. rw (put_number.others q d) n);
              rest = λ q h. put_next.others q (λ e. unmet q e h);
              size = length-set t.nexts.now v.state v.next;
              same = refl;
              takes = λ h. lasts y _ _ s marks _ _ h (length-set t.nexts.now v.state v.next) still_done (λ q d. put_next.others q (λ e. clash (rw e at d) (not_done v.state (last_number s marks o t v x).1)));
            };
          }
        where
          unmet : (q : ℕ) → q ≡ v.state → (q < s.states → at t₂.numbers.now q ≡ 0) → ⊥
          unmet q e h =
              same_or q w
              (λ f. omega (arith, h (rw f lw), ap (at t₂.numbers.now) f, put_number.here))
              (λ n. omega (arith, h (rw e (last_state s marks o t v x)), put_number.others q n, ap (at numbers) e, (last_number s marks o t v x).0))

    -- it goes back
    pub turn_merged : (over : s.letters ≤ v.next) (low : v.low < at numbers v.state) (r : Visit) → JoinSays marks (visit_at o t (o.depth - 1)) v r → (y : T)
        → TurnSays s marks holds o (record o { depth = o.depth - 1 }) t t y y (Some r)
    turn_merged over low r j y =
        record {
          on = (merged_last s marks o t v x over low r j, omega (arith, some_before s marks o t v x over low));
          over = λ h. clash refl h;
          only = λ b c h. h;
          progress = progress_none s marks holds t y;
        }

    -- the visit in hand and what was met after it are a component, which is handed over
    module _ (over : s.letters ≤ v.next) (is_first : v.low ≡ at numbers v.state) (from : ℕ) (is_from : from ≡ v.low - 1) (t' : States) (y y' : T)
        (h : HandSays holds from v.set o t t' y y')
      where
        abbrev d : ℕ
        d = o.depth

        abbrev number : ℕ → ℕ
        number = at numbers

        abbrev path : ℕ → ℕ
        path = with_last d v.state (at o.path.now)

        abbrev next : ℕ → ℕ
        next = with_last d v.next (next_at o t)

        abbrev low : ℕ → ℕ
        low = with_last d v.low (at o.lows.now)

        abbrev found : ℕ → ℕ
        found = with_last d v.set (at o.sets.now)

        last_is : suc d - 1 ≡ d
        last_is = omega arith

        path_here : path d ≡ v.state
        path_here = at_last d v.state (at o.path.now)

        over_here : s.letters ≤ next (suc d - 1)
        over_here = rw (last_is, at_last d v.next (next_at o t)) over

        first_here : low (suc d - 1) ≡ number (path (suc d - 1))
        first_here = rw (last_is, path_here, at_last d v.low (at o.lows.now)) is_first

        base_is : number (path (suc d - 1)) - 1 ≡ from
        base_is = rw (last_is, path_here) (omega (arith, is_first, is_from))

        many : length h.members ≡ o.count - (number (path (suc d - 1)) - 1)
        many = rw base_is h.many

        are : (i : ℕ) → i < length h.members → at h.members i ≡ at o.stack.now (number (path (suc d - 1)) - 1 + i)
        are i l = rw base_is (h.are i l)

        component : IsComponent s marks h.members v.set
        component =
            rw (last_is, at_last d v.set (at o.sets.now)) at
            (last_component s marks o.count (suc d) number (at o.stack.now) path next low found x.searched x.room.small (omega arith) over_here first_here h.members many are)

        open_still : (i : ℕ) → i < length h.members → (0 < number (at h.members i)) × (number (at h.members i) ≤ o.count)
        open_still = not_closed s marks o.count (suc d) number (at o.stack.now) path next low found x.searched x.room.small (omega arith) over_here first_here h.members many are

        grown_number : (q : ℕ) → q < s.states → number q ≤ at t'.numbers.now q
        grown_number = grown s marks o.count (suc d) number (at o.stack.now) path next low found x.searched x.room.small (omega arith) over_here first_here h.members many are (at t'.numbers.now) h.done h.others

        -- a state that is visited still is no member
        apart : (k : ℕ) → k < d → (i : ℕ) → i < length h.members → at h.members i ≡ at o.path.now k → ⊥
        apart k l i b e =
            omega (arith, x.searched.visited.order k d l (omega arith), ap number path_here, ap number (below_last d v.state (at o.path.now) k (λ z. omega arith)), ap number e, h.are i b, x.searched.places.numbered (from + i) (omega (arith, h.many)), ap number (h.are i b), is_first, is_from)

        abbrev o' : Open
        o' = record o { count = from }

        nexts_kept : (k : ℕ) → k < d → next_at o t' k ≡ next_at o t k
        nexts_kept k l = h.entries.others (at o.path.now k) (apart k l)

        closed : KeptIn s marks o' t'
        closed =
            record {
              room = record {
                small = x.room.small;
                letters_small = x.room.letters_small;
                numbers = rw h.size x.room.numbers;
                beyond = λ q l u. h.others q (λ i b e. omega (arith, component.state i b)) ∙ x.room.beyond q l (rw h.size at u);
                nexts = rw h.entries.size x.room.nexts;
                stack = x.room.stack;
                path = x.room.path;
                lows = x.room.lows;
                sets = x.room.sets;
                bytes = x.room.bytes;
              };
              searched =
                  agree s marks from d _ _ _ _ _ _
                  (rw (base_is, last_is) at
                  (close s marks o.count (suc d) number (at o.stack.now) path next low found x.searched x.room.small (omega arith) over_here first_here h.members many are (at t'.numbers.now) h.done h.others))
                  _ _ _ _
                  (λ k l. sym (below_last d v.state (at o.path.now) k (λ e. omega arith)))
                  (λ k l. nexts_kept k l ∙ sym (below_last d v.next (next_at o t) k (λ e. omega arith)))
                  (λ k l. sym (below_last d v.low (at o.lows.now) k (λ e. omega arith)))
                  (λ k l. sym (below_last d v.set (at o.sets.now) k (λ e. omega arith)));
            }

        member_done : (i : ℕ) → i < length h.members → done_in s t'.numbers.now (at h.members i) ≡ true
        member_done i l = rw (lt-ltb (at h.members i) s.states (component.state i l), h.done i l)

        handed : HandedOver h.members (done_in s numbers) (done_in s t'.numbers.now)
        handed =
            record {
              fresh = λ i l. not_done (at h.members i) (open_still i l).1;
              now = member_done;
              others = λ q none. rw (h.others q none);
            }

        progress_closed : Progress s marks holds t t' y y'
        progress_closed =
            record {
              met = λ q l n. omega (arith, grown_number q l);
              rest = λ q e. h.entries.others q (λ i l f. omega (arith, e (rw f at (component.state i l)), ap (at t'.numbers.now) f, h.done i l));
              size = h.entries.size;
              same = h.same;
              takes = λ z. h.takes s marks (done_in s numbers) (done_in s t'.numbers.now) z component handed;
            }

        only_closed : (b : ℕ → Bool) → ClosedTest s b → MetIn s b t → MetIn s b t'
        only_closed b c m q l n =
            same_or (number q) 0
            (λ e. absurd (omega (arith, h.others q (λ i k f. omega (arith, (open_still i k).0, ap number f)))))
            (λ e. m q l (omega arith))

        -- it was the first one
        pub turn_over : d ≡ 0 → TurnSays s marks holds o o' t t' y y' None
        turn_over e =
            record {
              on = tt;
              over = λ z. (omega (arith, x.searched.visited.first (omega arith), ap number (ap path (sym e) ∙ path_here), is_first, is_from), e, closed, omega (arith, h.fewer));
              only = only_closed;
              progress = progress_closed;
            }

        first_done : at t'.numbers.now v.state ≡ done_number
        first_done =
            let e : from + 0 ≡ number v.state - 1 = omega (arith, is_first, is_from) in
            let n = last_number s marks o t v x in
            let l = component.some in
            let m : at h.members 0 ≡ v.state = h.are 0 l ∙ ap (at o.stack.now) e ∙ x.searched.places.placed v.state (last_state s marks o t v x) n.0 n.1 in
            rw m at (h.done 0 l)

        pub next_small : 0 < d → (r : Visit) → r ≡ visit_at o' t' (d - 1) → r.next < s.letters
        next_small some r is = rw (is, nexts_kept (d - 1) (omega arith)) (led_here s marks o t v x some).0

        -- it goes back to the visit before
        pub turn_closed : 0 < d → (r : Visit) → r ≡ visit_at o' t' (d - 1) → TurnSays s marks holds o (record o' { depth = d - 1 }) t t' y y' (Some (record r { next = r.next + 1 }))
        turn_closed some r is =
            let led = led_here s marks o t v x some in
            let kept_next = nexts_kept (d - 1) (omega arith) in
            record {
              on = (rw is (passed_letter s marks (record o' { depth = d - 1 }) t' (visit_at o' t' (d - 1)) (back_visit s marks o' t' closed some) (rw kept_next led.0) (λ l. rw (kept_next, led.1) first_done)), omega (arith, h.fewer));
              over = λ z. clash refl z;
              only = only_closed;
              progress = progress_closed;
            }
