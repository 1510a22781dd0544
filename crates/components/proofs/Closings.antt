-- What a search in Tarjan's way keeps when the last visited state has read all its letters, for any system and whatever the arrays are.
--     last_component    where nothing leads lower than it, it and the open states above it are a component, and its set has the component's marks
--     not_closed        until then, the states of that component are open
--     grown, close      that component is closed: no number falls, and the search goes on with the visited state before it
--     merge             where something leads lower, it is visited no longer, and the visited state before it takes over what it knows
use mathlib.Core.Path.{◌≡◌, sym, ap, ◌∙◌}
use mathlib.Core.Bool.{Bool, true, ◌||◌}
use mathlib.Core.List.{List}
use Prim.Native.Nat.{ℕ, suc, ◌+◌, ◌-◌, ◌<◌, ◌≤◌}
use native.Mathlib.Omega.{arith}
use lib.Dec.{ltb}
use lib.ListN.{length}
use borrow.Author.Tests.{ltb-true, ltb-false}
use Rattle.rules.specs.Basics.{bit}
use Rattle.rules.specs.Systems.{System, reaches, together, some_within}
use Rattle.rules.proofs.Bools.{by, bool_ext, or_cases, or_left, or_right}
use Rattle.rules.proofs.Reach.{reaches_view, together_view, together_sym, together_trans, inside_parts, within_view, within_same}
use Rattle.rules.proofs.Reaching.{reaches_trans, reaches_step, kept_along}
use Rattle.components.specs.Places.{done_number, at, Put}
use Rattle.components.specs.Visiting.{Places, IsRead, IsUnder, Visited, Reads, Searched, IsComponent}
use Rattle.components.proofs.Stores.{same_or}
use Rattle.components.proofs.Visits.{open_forth, from_last, to_last, within_step}

both_ways : (s : System) (p q : ℕ) → reaches s p q ≡ true → reaches s q p ≡ true → together s p q ≡ true
both_ways s p q f g = (together_view s p q).1 ((reaches_view s p q).0 f, (reaches_view s q p).0 g)

-- ---- nothing leads lower than the last visited state: it and what is above it are a component
module _ (s : System) (marks : ℕ → ℕ → ℕ) (c l : ℕ) (number stack path next low set : ℕ → ℕ) (x : Searched s marks c l number stack path next low set)
    (small : s.states < done_number) (some : 0 < l) (over : s.letters ≤ next (l - 1)) (is_first : low (l - 1) ≡ number (path (l - 1)))
  where
    -- the place of the last visited state
    abbrev base : ℕ
    base = number (path (l - 1)) - 1

    base_number : number (path (l - 1)) ≡ suc base
    base_number = omega (arith, x.visited.met (l - 1) (omega arith))

    base_below : base < c
    base_below = omega (arith, base_number, x.visited.within (l - 1) (omega arith))

    under_last : (q : ℕ) → base < number q → number q ≤ c → IsUnder c l number path (l - 1) q
    under_last q h b = record { from = omega (arith, base_number); within = b; to = λ f. absurd (omega arith) }

    all_read : (q a : ℕ) → base < number q → a < s.letters → IsRead l path next q a
    all_read q a h la k lk e =
        same_or k (l - 1) (λ f. rw f (omega arith))
        (λ d. absurd (omega (arith, base_number, ap number e, x.visited.order k (l - 1) (omega arith) (omega arith))))

    -- what is above, or done
    abbrev Beyond : ℕ → Type 0
    Beyond q = (q < s.states) × (base < number q)

    beyond_step : (q a : ℕ) → Beyond q → a < s.letters → s.go q a < s.states → Beyond (s.go q a)
    beyond_step q a h la t = (t, by (ltb c (number q)) (λ e. past (ltb-true c (number q) e)) (λ e. here (ltb-false c (number q) e)))
      where
        past : c < number q → base < number (s.go q a)
        past b = omega (arith, x.closed q a h.0 (x.places.done q h.0 b) la t, base_below, x.places.few)

        here : number q ≤ c → base < number (s.go q a)
        here b = omega (arith, base_number, is_first, x.reads.least (l - 1) q a (omega arith) h.0 (under_last q h.1 b) la (all_read q a h.1 la) t)

    abbrev Done : ℕ → Type 0
    Done q = (q < s.states) × (number q ≡ done_number)

    done_step : (q a : ℕ) → Done q → a < s.letters → s.go q a < s.states → Done (s.go q a)
    done_step q a h la t = (t, x.closed q a h.0 h.1 la t)

    module _ (members : List ℕ) (size : length members ≡ c - (number (path (l - 1)) - 1))
        (are : (i : ℕ) → i < length members → at members i ≡ stack (number (path (l - 1)) - 1 + i))
      where
        member : (i : ℕ) → i < length members → (at members i < s.states) × (number (at members i) ≡ suc (base + i))
        member i h = rw (are i h) (x.places.state (base + i) (omega arith), x.places.numbered (base + i) (omega arith))

        listed : (q : ℕ) → q < s.states → base < number q → number q ≤ c → (j : ℕ) × (j < length members) × (at members j ≡ q)
        listed q lq h b =
            let e : base + (number q - 1 - base) ≡ number q - 1 = omega arith in
            let g : number q - 1 - base < length members = omega arith in
            (number q - 1 - base, g, are (number q - 1 - base) g ∙ ap stack e ∙ x.places.placed q lq (omega arith) b)

        near : (i : ℕ) → i < length members → together s (path (l - 1)) (at members i) ≡ true
        near i h =
            let m = member i h in
            both_ways s (path (l - 1)) (at members i)
            (from_last s c l number stack path x.places x.visited (at members i) some m.0 (omega (arith, m.1, base_number)) (omega (arith, m.1)))
            (to_last s c l number stack path x.places x.visited (at members i) some m.0 (omega (arith, m.1)) (omega (arith, m.1)))

        -- what shares a component with a member is above, and not done
        kin : (i q : ℕ) → i < length members → together s (at members i) q ≡ true → (q < s.states) × (base < number q) × (number q ≤ c)
        kin i q h t =
            let w = (together_view s (at members i) q).0 t in
            let m = member i h in
            let b : Beyond q = kept_along s Beyond beyond_step w.0.1 (m.0, omega (arith, m.1)) in (
              b.0,
              b.1,
              by
                  (ltb c (number q))
                  (λ e. let d : Done (at members i) = kept_along s Done done_step w.1.1 (b.0, x.places.done q b.0 (ltb-true c (number q) e)) in absurd (omega (arith, d.1, m.1, x.places.few)))
                  (λ e. ltb-false c (number q) e),
            )

        pub last_component : IsComponent s marks members (set (l - 1))
        last_component =
            record {
              some = omega (arith, base_below);
              state = λ i h. (member i h).0;
              apart = λ i j f h e. omega (arith, ap number e, (member i (omega arith)).1, (member j h).1);
              shared = λ i j f h. together_trans s (at members i) (path (l - 1)) (at members j) (together_sym s (path (l - 1)) (at members i) (near i f)) (near j h);
              whole = λ i q h t. let k = kin i q h t in listed q k.0 k.1 k.2;
              marked = λ i b h. bool_ext (bit b (set (l - 1))) (some_within s (marked b) (at members i)) (there i b h) (back i b h);
            }
          where
            marked : ℕ → ℕ → ℕ → Bool
            marked b p a = bit b (marks p a)

            there : (i b : ℕ) → i < length members → bit b (set (l - 1)) ≡ true → some_within s (marked b) (at members i) ≡ true
            there i b h e = sym (within_same s (marked b) (path (l - 1)) (at members i) (near i h)) ∙ x.reads.real (l - 1) b (omega arith) e

            back : (i b : ℕ) → i < length members → some_within s (marked b) (at members i) ≡ true → bit b (set (l - 1)) ≡ true
            back i b h e =
                let m = (within_view s (marked b) (at members i)).0 e in
                let g = inside_parts s m.state m.letter m.inside in
                let k = kin i m.state h m.near in
                let t = kin i (s.go m.state m.letter) h (together_trans s (at members i) m.state (s.go m.state m.letter) m.near g.1) in
                let r = all_read m.state m.letter k.1 m.is_letter in
                x.reads.held (l - 1) m.state m.letter b (omega arith) k.0 (under_last m.state k.1 k.2) m.is_letter r g.0 t.2 m.passes

        pub not_closed : (i : ℕ) → i < length members → (0 < number (at members i)) × (number (at members i) ≤ c)
        not_closed i h = (omega (arith, (member i h).1), omega (arith, (member i h).1))

        -- the component is closed
        module _ (number' : ℕ → ℕ) (now_done : (i : ℕ) → i < length members → number' (at members i) ≡ done_number)
            (others : (q : ℕ) → ((i : ℕ) → i < length members → at members i ≡ q → ⊥) → number' q ≡ number q)
          where
            -- a member, and any other state
            by_member : {C : Type 0} (q : ℕ) → q < s.states → (base < number q → number' q ≡ done_number → C)
                → ((base < number q → number q ≡ done_number) → number' q ≡ number q → C) → C
            by_member {C} q lq f g =
                by
                (ltb base (number q))
                (λ e. let b = ltb-true base (number q) e in
                by
                (ltb c (number q))
                (λ h. done (x.places.done q lq (ltb-true c (number q) h)))
                (λ h. let r = listed q lq b (ltb-false c (number q) h) in f b (ap number' (sym r.2) ∙ now_done r.0 r.1)))
                (λ e. let b = ltb-false base (number q) e in g (λ z. absurd (omega arith)) (others q (λ i h z. omega (arith, ap number z, (member i h).1))))
              where
                done : number q ≡ done_number → C
                done d = g (λ z. d) (others q (λ i h z. omega (arith, d, ap number z, (member i h).1, x.places.few)))

            few : base < done_number
            few = omega (arith, base_below, x.places.few)

            -- a number that is low is as it was
            still : (q : ℕ) → q < s.states → number' q ≤ base → number' q ≡ number q
            still q lq h = by_member q lq (λ b n. absurd (omega (arith, few))) (λ d n. n)

            low_still : (q : ℕ) → q < s.states → number q ≤ base → number' q ≡ number q
            low_still q lq h = by_member q lq (λ b n. absurd (omega arith)) (λ d n. n)

            pub grown : (q : ℕ) → q < s.states → number q ≤ number' q
            grown q lq = by_member q lq (λ b n. omega (arith, limit)) (λ d n. omega arith)
              where
                -- no number is above that of what is done
                limit : number q ≤ done_number
                limit = by (ltb c (number q)) (λ e. omega (arith, x.places.done q lq (ltb-true c (number q) e))) (λ e. omega (arith, x.places.few, ltb-false c (number q) e))

            now_closed : (q : ℕ) → q < s.states → base < number q → number' q ≡ done_number
            now_closed q lq h = by_member q lq (λ b n. n) (λ d n. n ∙ d h)

            path_below : (k : ℕ) → k < l - 1 → number (path k) ≤ base
            path_below k h = omega (arith, base_number, x.visited.order k (l - 1) h (omega arith))

            path_still : (k : ℕ) → k < l - 1 → number' (path k) ≡ number (path k)
            path_still k h = low_still (path k) (x.visited.state k (omega arith)) (path_below k h)

            places_left : Places s base number' stack
            places_left =
                record {
                  few = omega (arith, base_below, x.places.few);
                  state = λ i h. x.places.state i (omega (arith, base_below));
                  numbered = λ i h. let b : i < c = omega (arith, base_below) in let n = x.places.numbered i b in low_still (stack i) (x.places.state i b) (omega arith) ∙ n;
                  placed = λ q lq nq oq. let e = still q lq oq in rw e (x.places.placed q lq (omega arith) (omega (arith, base_below)));
                  done = λ q lq h. by_member q lq (λ b n. n) (λ d n. n ∙ d (omega arith));
                }

            visited_left : Visited s base (l - 1) number' stack path
            visited_left =
                record {
                  some = λ h. same_or l 1 (λ e. absurd (omega (arith, only e))) (λ d. omega arith);
                  state = λ k h. x.visited.state k (omega arith);
                  met = λ k h. rw (path_still k h) (x.visited.met k (omega arith));
                  within = λ k h. rw (path_still k h) (path_below k h);
                  first = λ h. path_still 0 h ∙ x.visited.first some;
                  order = λ i j f h. rw (path_still i (omega arith), path_still j h) (x.visited.order i j f (omega arith));
                  forth = λ i h. x.visited.forth i (omega (arith, base_below));
                  back = λ i h none. x.visited.back i (omega (arith, base_below)) (λ k lk e. same_or k (l - 1) (at_last i k h e) (λ d. none k (omega arith) e));
                }
              where
                only : l ≡ 1 → number (path (l - 1)) ≡ 1
                only e = let f : l - 1 ≡ 0 = omega arith in rw f (x.visited.first some)

                at_last : (i k : ℕ) → suc i < base → path k ≡ stack (suc i) → k ≡ l - 1 → ⊥
                at_last i k h e f = omega (arith, base_number, base_below, ap (λ (j : ℕ). number (path j)) f, ap number e, x.places.numbered (suc i) (omega (arith, base_below)))

            reads_left : Reads s marks base (l - 1) number' stack path next low set
            reads_left =
                record {
                  upto = λ k h. x.reads.upto k (omega arith);
                  letter = λ k h. x.reads.letter k (omega arith);
                  led = λ k h. x.reads.led k (omega arith);
                  some = λ k h. x.reads.some k (omega arith);
                  lower = λ k h. rw (path_still k h) (x.reads.lower k (omega arith));
                  low_met = λ k h. x.reads.low_met k (omega arith);
                  least = λ k q a h lq u la r t. omega (arith, grown (s.go q a) t, x.reads.least k q a (omega arith) lq (was_under k q h lq u) la (was_read k q a h lq u r) t);
                  held = λ k q a b h lq u la r t o.
                      let e = still (s.go q a) t o in
                      x.reads.held k q a b (omega arith) lq (was_under k q h lq u) la (was_read k q a h lq u r) t (omega (arith, base_below));
                  real = λ k b h. x.reads.real k b (omega arith);
                }
              where
                was_under : (k q : ℕ) → k < l - 1 → q < s.states → IsUnder base (l - 1) number' path k q → IsUnder c l number path k q
                was_under k q h lq u =
                    let e = still q lq u.within in
                    record {
                      from = omega (arith, path_still k h);
                      within = omega (arith, base_below);
                      to = λ f. same_or (suc k) (l - 1) (λ z. rw z (omega (arith, base_number))) (λ d. omega (arith, u.to (omega arith), path_still (suc k) (omega arith)));
                    }

                was_read : (k q a : ℕ) → k < l - 1 → q < s.states → IsUnder base (l - 1) number' path k q → IsRead (l - 1) path next q a → IsRead l path next q a
                was_read k q a h lq u r j lj e =
                    same_or j (l - 1)
                    (λ f. absurd (omega (arith, base_number, ap (λ (i : ℕ). number (path i)) f, ap number e, still q lq u.within)))
                    (λ d. r j (omega arith) e)

            pub close : Searched s marks (number (path (l - 1)) - 1) (l - 1) number' stack path next low set
            close =
                record {
                  places = places_left;
                  visited = visited_left;
                  reads = reads_left;
                  closed = λ q a lq h la t. now_closed (s.go q a) t (beyond_step q a (lq, by_member q lq (λ b n. b) (λ d n. omega (arith, few))) la t).1;
                }

-- ---- something leads lower than the last visited state: it is visited no longer
module _ (s : System) (marks : ℕ → ℕ → ℕ) (c l : ℕ) (number stack path next low set : ℕ → ℕ) (x : Searched s marks c l number stack path next low set)
    (small : s.states < done_number) (some : 1 < l) (over : s.letters ≤ next (l - 1)) (leads_lower : low (l - 1) < number (path (l - 1)))
    (low₁ set₁ : ℕ) (low_u : low₁ ≤ low (l - 2)) (low_v : low₁ ≤ low (l - 1)) (low_is : low₁ < low (l - 2) → low₁ ≡ low (l - 1))
    (set_is : (i : ℕ) → bit i set₁ ≡ bit i (set (l - 2)) || (bit i (set (l - 1)) || bit i (marks (path (l - 2)) (next (l - 2)))))
    (next' low' set' : ℕ → ℕ) (pn : Put next next' (l - 2) (suc (next (l - 2)))) (pl : Put low low' (l - 2) low₁) (ps : Put set set' (l - 2) set₁)
  where
    -- the last visited state and the one before it
    abbrev v : ℕ
    v = l - 1

    abbrev u : ℕ
    u = l - 2

    visited_fewer : Visited s c v number stack path
    visited_fewer =
        record {
          some = λ h. omega arith;
          state = λ k h. x.visited.state k (omega arith);
          met = λ k h. x.visited.met k (omega arith);
          within = λ k h. x.visited.within k (omega arith);
          first = λ h. x.visited.first (omega arith);
          order = λ i j f h. x.visited.order i j f (omega arith);
          forth = x.visited.forth;
          back = λ i h none.
              same_or (path v) (stack (suc i)) (past i h)
              (λ e. x.visited.back i h (λ k lk f. same_or k v (λ z. e (ap path (sym z) ∙ f)) (λ d. none k (omega arith) f)));
        }
      where
        past : (i : ℕ) → suc i < c → path v ≡ stack (suc i) → reaches s (stack (suc i)) (stack i) ≡ true
        past i h e =
            let n = x.places.numbered (suc i) h in
            let up = open_forth s c l number stack path x.places x.visited (low v - 1) i (omega (arith, ap number e)) (omega arith) in
            rw e at (reaches_trans s (path v) (stack (low v - 1)) (stack i) (x.reads.low_met v (omega arith)) up)

    -- the letter that led to the last visited state
    led : s.go (path u) (next u) ≡ path v
    led = let e : suc u ≡ v = omega arith in rw e at (x.reads.led u (omega arith))

    led_state : s.go (path u) (next u) < s.states
    led_state = rw led (x.visited.state v (omega arith))

    forth_to : reaches s (path u) (path v) ≡ true
    forth_to = rw led at (reaches_step s (path u) (next u) (x.reads.letter u (omega arith)) led_state)

    back_from : reaches s (path v) (path u) ≡ true
    back_from =
        let e : v - 1 ≡ u = omega arith in
        let b : v < l = omega arith in
        rw e at (to_last s c v number stack path x.places visited_fewer (path v) (omega arith) (x.visited.state v b) (x.visited.met v b) (x.visited.within v b))

    low_before : (k : ℕ) → k < u → low' k ≡ low k
    low_before k h = pl.others k (λ e. omega arith)

    set_before : (k : ℕ) → k < u → set' k ≡ set k
    set_before k h = ps.others k (λ e. omega arith)

    next_before : (k : ℕ) → k < u → next' k ≡ next k
    next_before k h = pn.others k (λ e. omega arith)

    -- bit b of what the new set has besides set u
    abbrev later : ℕ → Bool
    later b = bit b (set v) || bit b (marks (path u) (next u))

    of_later : (b : ℕ) → later b ≡ true → bit b set₁ ≡ true
    of_later b m = set_is b ∙ or_right (bit b (set u)) (later b) m

    -- what visited state m knew, visited state k knows now
    abbrev Known : ℕ → ℕ → Type 0
    Known k m = (m < l) × (low' k ≤ low m) × ((b : ℕ) → bit b (set m) ≡ true → bit b (set' k) ≡ true)

    known : (k : ℕ) → k < v → Known k k
    known k h =
        same_or k u (λ e. rw (e, pl.here, ps.here) (omega arith, low_u, λ b m. set_is b ∙ or_left (bit b (set u)) (later b) m))
        (λ d. rw (low_before k (omega arith), set_before k (omega arith)) (omega arith, omega arith, λ b m. m))

    known_last : Known u v
    known_last = rw (pl.here, ps.here) (omega arith, low_v, λ b m. of_later b (or_left (bit b (set v)) (bit b (marks (path u) (next u))) m))

    -- a letter was read before, unless it led to the last visited state
    was_read : (q a : ℕ) → a < s.letters → IsRead v path next' q a → (path u ≡ q → a < next u) → IsRead l path next q a
    was_read q a la r z j lj e =
        same_or j v (λ f. rw f (omega arith))
        (λ d. same_or j u (λ f. rw f (z (ap path (sym f) ∙ e))) (λ g. rw (next_before j (omega arith)) at (r j (omega arith) e)))

    path_upto : (k : ℕ) → k ≤ u → number (path k) ≤ number (path u)
    path_upto k h = same_or k u (λ e. rw e (omega arith)) (λ d. omega (arith, x.visited.order k u (omega arith) (omega arith)))

    -- a read letter of a state under visited state k: either it was read before, the state under k or under the last, and k knows now what that one
    -- knew; or it led to the last
    by_read : {C : Type 0} (k q a : ℕ) → k < v → IsUnder c v number path k q → a < s.letters → IsRead v path next' q a
        → ((m : ℕ) → Known k m → IsUnder c l number path m q → IsRead l path next q a → C)
        → (k ≡ u → q ≡ path u → a ≡ next u → C) → C
    by_read {C} k q a h o la r f g =
        same_or k u
        (λ e. by (ltb (number q) (number (path v))) (λ d. low_down e (ltb-true (number q) (number (path v)) d)) (λ d. high_up e (ltb-false (number q) (number (path v)) d)))
        (λ d. let t = o.to (omega arith) in old (λ b. o.to (omega arith)) (λ z. absurd (omega (arith, ap number z, path_upto (suc k) (omega arith)))))
      where
        old : (suc k < l → number q < number (path (suc k))) → (path u ≡ q → a < next u) → C
        old to z = f k (known k h) (record { from = o.from; within = o.within; to = to }) (was_read q a la r z)

        low_down : k ≡ u → number q < number (path v) → C
        low_down e d =
            let n : suc k ≡ v = omega arith in
            same_or q (path u)
            (λ y. same_or a (next u) (g e y) (λ w. old (λ b. rw n d) (λ z. omega (arith, pn.here, r u (omega arith) z))))
            (λ y. old (λ b. rw n d) (λ z. absurd (y (sym z))))

        high_up : k ≡ u → number (path v) ≤ number q → C
        high_up e d =
            f v (rw e known_last) (record { from = d; within = o.within; to = λ b. absurd (omega arith) })
            (was_read q a la r (λ z. absurd (omega (arith, ap number z, x.visited.order u v (omega arith) (omega arith)))))

    reads_fewer : Reads s marks c v number stack path next' low' set'
    reads_fewer =
        record {
          upto = λ k h. same_or k u (λ e. rw (e, pn.here) (x.reads.letter u (omega arith))) (λ d. rw (next_before k (omega arith)) (x.reads.upto k (omega arith)));
          letter = λ k h. rw (next_before k (omega arith)) (x.reads.letter k (omega arith));
          led = λ k h. rw (next_before k (omega arith)) (x.reads.led k (omega arith));
          some = λ k h. same_or k u (λ e. rw (e, pl.here) some_u) (λ d. rw (low_before k (omega arith)) (x.reads.some k (omega arith)));
          lower = λ k h. omega (arith, (known k h).1, x.reads.lower k (omega arith));
          low_met = λ k h. same_or k u (λ e. rw (e, pl.here) low_met_u) (λ d. rw (low_before k (omega arith)) (x.reads.low_met k (omega arith)));
          least = λ k q a h lq o la r t.
              by_read k q a h o la r (λ m w n y. omega (arith, w.1, x.reads.least m q a w.0 lq n la y t))
              (λ e z w. rw (e, z, w, led, pl.here) (omega (arith, x.reads.lower v (omega arith))));
          held = λ k q a b h lq o la r t n m.
              by_read k q a h o la r (λ i w j y. w.2 b (x.reads.held i q a b w.0 lq j la y t n m))
              (λ e z w. rw (e, ps.here) (of_later b (or_right (bit b (set v)) (bit b (marks (path u) (next u))) (rw (z, w) at m))));
          real = λ k b h m. same_or k u (λ e. rw e (real_u b (rw (e, ps.here) at m))) (λ d. x.reads.real k b (omega arith) (rw (set_before k (omega arith)) at m));
        }
      where
        -- the lower of the two, either way
        by_low : {C : Type 0} → (low₁ ≡ low v → C) → (low₁ ≡ low u → C) → C
        by_low f g = by (ltb low₁ (low u)) (λ e. f (low_is (ltb-true low₁ (low u) e))) (λ e. g (omega (arith, ltb-false low₁ (low u) e)))

        some_u : 0 < low₁
        some_u = by_low (λ e. rw e (x.reads.some v (omega arith))) (λ e. rw e (x.reads.some u (omega arith)))

        low_met_u : reaches s (path u) (stack (low₁ - 1)) ≡ true
        low_met_u =
            by_low (λ e. rw e (reaches_trans s (path u) (path v) (stack (low v - 1)) forth_to (x.reads.low_met v (omega arith))))
            (λ e. rw e (x.reads.low_met u (omega arith)))

        marked : ℕ → ℕ → ℕ → Bool
        marked b p a = bit b (marks p a)

        real_u : (b : ℕ) → bit b set₁ ≡ true → some_within s (marked b) (path u) ≡ true
        real_u b m =
            or_cases (bit b (set u)) (later b) (sym (set_is b) ∙ m) (x.reads.real u b (omega arith))
            (λ f. or_cases (bit b (set v)) (bit b (marks (path u) (next u))) f
            (λ e. sym (within_same s (marked b) (path v) (path u) (both_ways s (path v) (path u) back_from forth_to)) ∙ x.reads.real v b (omega arith) e)
            (within_step s (marked b) (path u) (next u) (x.visited.state u (omega arith)) (x.reads.letter u (omega arith)) led_state (rw led back_from)))

    pub merge : Searched s marks c (l - 1) number stack path next' low' set'
    merge = record { places = x.places; visited = visited_fewer; reads = reads_fewer; closed = x.closed }
