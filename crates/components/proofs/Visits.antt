-- What a depth-first search in Tarjan's way keeps, for any system and whatever the arrays are.
--     open_forth                       an open state reaches those above it
--     path_placed, path_differ         a visited state is at the place that its number says; no state is visited twice
--     from_last, to_last               the last visited state reaches every open state from it on, and every open state reaches it
--     visited_few                      no more visited than open states
--     within_step                      a transition with a way back, which passes a test, is one of its component that does
--     agree                            arrays that say the same of the visited states
--     read                             letters of the last visited state are read: none leads to a state that is not met
--     enter                            a state that is not yet met is opened and visited: the first, or one that the last visited state leads to
use mathlib.Core.Path.{◌≡◌, sym, ap, ◌∙◌}
use mathlib.Core.Bool.{Bool, true}
use Prim.Native.Nat.{ℕ, zero, suc, ◌+◌, ◌-◌, ◌<◌, ◌≤◌}
use native.Mathlib.Omega.{arith}
use lib.Dec.{ltb}
use borrow.Author.Tests.{ltb-true, ltb-false}
use Rattle.rules.specs.Basics.{bit}
use Rattle.rules.specs.Systems.{System, reaches, some_within}
use Rattle.rules.proofs.Bools.{by, clash}
use Rattle.rules.proofs.Bits.{bit_none}
use Rattle.rules.proofs.Reach.{reaches_view, together_refl, inside_of_return, within_view}
use Rattle.rules.proofs.Reaching.{reaches_refl, reaches_trans, reaches_step}
use Rattle.components.specs.Places.{done_number, Put}
use Rattle.components.specs.Visiting.{Places, IsRead, IsUnder, Visited, Reads, Closed, Searched, LettersRead}
use Rattle.components.proofs.Placed.{room}
use Rattle.components.proofs.Stores.{same_or}

-- a transition with a way back is inside
pub within_step : (s : System) (t : ℕ → ℕ → Bool) (q a : ℕ) → q < s.states → a < s.letters → s.go q a < s.states → reaches s (s.go q a) q ≡ true
    → t q a ≡ true → some_within s t q ≡ true
within_step s t q a lq la lt h b =
    (within_view s t q).1
    (record { state = q; letter = a; is_state = lq; is_letter = la; near = together_refl s q; inside = inside_of_return s {p = q} la lt ((reaches_view s (s.go q a) q).0 h).1; passes = b })

module _ (s : System) (c l : ℕ) (number stack path : ℕ → ℕ) (p : Places s c number stack) (x : Visited s c l number stack path) where
  ways_forth : (d i : ℕ) → i + d < c → reaches s (stack i) (stack (i + d)) ≡ true
  ways_forth zero i h = let e : i + 0 ≡ i = omega arith in rw e (reaches_refl s (stack i))
  ways_forth (suc d) i h =
      let e : i + suc d ≡ suc (i + d) = omega arith in
      rw e (reaches_trans s (stack i) (stack (i + d)) (stack (suc (i + d))) (ways_forth d i (omega arith)) (x.forth (i + d) (omega arith)))

  pub open_forth : (i j : ℕ) → i ≤ j → j < c → reaches s (stack i) (stack j) ≡ true
  open_forth i j h b = let e : i + (j - i) ≡ j = omega arith in rw e at (ways_forth (j - i) i (omega arith))

  pub path_placed : (k : ℕ) → k < l → stack (number (path k) - 1) ≡ path k
  path_placed k h = p.placed (path k) (x.state k h) (x.met k h) (x.within k h)

  pub path_differ : (j k : ℕ) → j < l → k < l → path j ≡ path k → j ≡ k
  path_differ j k f g e =
      by
      (ltb j k)
      (λ h. absurd (omega (arith, ap number e, x.order j k (ltb-true j k h) g)))
      (λ h. by (ltb k j) (λ b. absurd (omega (arith, ap number e, x.order k j (ltb-true k j b) f))) (λ b. omega (arith, ltb-false j k h, ltb-false k j b)))

  -- no visited state is above the last
  below_last : (k : ℕ) → k < l → number (path k) ≤ number (path (l - 1))
  below_last k h = same_or k (l - 1) (λ e. rw e (omega arith)) (λ d. omega (arith, x.order k (l - 1) (omega arith) (omega arith)))

  ways_back : (d i : ℕ) → i + d < c → number (path (l - 1)) ≤ suc i → reaches s (stack (i + d)) (stack i) ≡ true
  ways_back zero i h b = let e : i + 0 ≡ i = omega arith in rw e (reaches_refl s (stack i))
  ways_back (suc d) i h b =
      let e : i + suc d ≡ suc (i + d) = omega arith in
      rw e
      (reaches_trans s (stack (suc (i + d))) (stack (i + d)) (stack i)
      (x.back (i + d) (omega arith) (λ k f g. omega (arith, below_last k f, ap number g, p.numbered (suc (i + d)) (omega arith))))
      (ways_back d i (omega arith) b))

  pub from_last : (q : ℕ) → 0 < l → q < s.states → number (path (l - 1)) ≤ number q → number q ≤ c → reaches s (path (l - 1)) q ≡ true
  from_last q some lq h b =
      let f = x.met (l - 1) (omega arith) in
      rw (path_placed (l - 1) (omega arith), p.placed q lq (omega arith) b) at
      (open_forth (number (path (l - 1)) - 1) (number q - 1) (omega arith) (omega arith))

  pub to_last : (q : ℕ) → 0 < l → q < s.states → 0 < number q → number q ≤ c → reaches s q (path (l - 1)) ≡ true
  to_last q some lq h b =
      let f = x.met (l - 1) (omega arith) in
      let g = x.within (l - 1) (omega arith) in
      let r = number (path (l - 1)) in
      let way : reaches s (stack (number q - 1)) (stack (r - 1)) ≡ true =
      by
      (ltb (number q) r)
      (λ d. open_forth (number q - 1) (r - 1) (omega (arith, ltb-true (number q) r d)) (omega arith))
      (λ d. back_down (r - 1) (number q - 1) (omega (arith, ltb-false (number q) r d)) (omega arith) (omega arith))
      in
      rw (path_placed (l - 1) (omega arith), p.placed q lq h b) at way
    where
      back_down : (i j : ℕ) → i ≤ j → j < c → number (path (l - 1)) ≤ suc i → reaches s (stack j) (stack i) ≡ true
      back_down i j o u v = let e : i + (j - i) ≡ j = omega arith in rw e at (ways_back (j - i) i (omega arith) v)

  last_differ : (k q : ℕ) → suc k < l → IsUnder c l number path k q → q ≡ path (l - 1) → ⊥
  last_differ k q h u e = omega (arith, u.to h, below_last (suc k) h, ap number e)

  above : (k : ℕ) → k < l → k < number (path k)
  above zero h = x.met 0 h
  above (suc k) h = omega (arith, above k (omega arith), x.order k (suc k) (omega arith) h)

  pub visited_few : l ≤ c
  visited_few = same_or l 0 (λ e. omega arith) (λ d. omega (arith, above (l - 1) (omega arith), x.within (l - 1) (omega arith)))

-- ---- arrays that say the same of the visited states
module _ (s : System) (marks : ℕ → ℕ → ℕ) (c l : ℕ) (number stack path next low set : ℕ → ℕ) (x : Searched s marks c l number stack path next low set)
    (path' next' low' set' : ℕ → ℕ) (same_path : (k : ℕ) → k < l → path' k ≡ path k) (same_next : (k : ℕ) → k < l → next' k ≡ next k)
    (same_low : (k : ℕ) → k < l → low' k ≡ low k) (same_set : (k : ℕ) → k < l → set' k ≡ set k)
  where
    visited_same : Visited s c l number stack path'
    visited_same =
        record {
          some = x.visited.some;
          state = λ k h. rw (same_path k h) (x.visited.state k h);
          met = λ k h. rw (same_path k h) (x.visited.met k h);
          within = λ k h. rw (same_path k h) (x.visited.within k h);
          first = λ h. rw (same_path 0 h) (x.visited.first h);
          order = λ i j f g. rw (same_path i (omega arith), same_path j g) (x.visited.order i j f g);
          forth = x.visited.forth;
          back = λ i h none. x.visited.back i h (λ k g e. none k g (same_path k g ∙ e));
        }

    reads_same : Reads s marks c l number stack path' next' low' set'
    reads_same =
        record {
          upto = λ k h. rw (same_next k h) (x.reads.upto k h);
          letter = λ k h. rw (same_next k (omega arith)) (x.reads.letter k h);
          led = λ k h. rw (same_path k (omega arith), same_next k (omega arith), same_path (suc k) h) (x.reads.led k h);
          some = λ k h. rw (same_low k h) (x.reads.some k h);
          lower = λ k h. rw (same_low k h, same_path k h) (x.reads.lower k h);
          low_met = λ k h. rw (same_low k h, same_path k h) (x.reads.low_met k h);
          least = λ k q a h lq u la r t. rw (same_low k h) (x.reads.least k q a h lq (under k q h u) la (is_read q a r) t);
          held = λ k q a b h lq u la r t n m. rw (same_set k h) (x.reads.held k q a b h lq (under k q h u) la (is_read q a r) t n m);
          real = λ k b h m. rw (same_path k h) (x.reads.real k b h (rw (same_set k h) at m));
        }
      where
        under : (k q : ℕ) → k < l → IsUnder c l number path' k q → IsUnder c l number path k q
        under k q h u = record { from = rw (same_path k h) at u.from; within = u.within; to = λ f. rw (same_path (suc k) f) at (u.to f) }

        is_read : (q a : ℕ) → IsRead l path' next' q a → IsRead l path next q a
        is_read q a r k h e = rw (same_next k h) at (r k h (same_path k h ∙ e))

    pub agree : Searched s marks c l number stack path' next' low' set'
    agree = record { places = x.places; visited = visited_same; reads = reads_same; closed = x.closed }

-- ---- letters of the last visited state are read
module _ (s : System) (marks : ℕ → ℕ → ℕ) (c l : ℕ) (number stack path next low set : ℕ → ℕ) (x : Searched s marks c l number stack path next low set)
    (small : s.states < done_number) (some : 0 < l) (b low₁ set₁ : ℕ)
    (rd : LettersRead s marks number (path (l - 1)) (next (l - 1)) b (low (l - 1)) low₁ (set (l - 1)) set₁) (next' low' set' : ℕ → ℕ)
    (pn : Put next next' (l - 1) b) (pl : Put low low' (l - 1) low₁) (ps : Put set set' (l - 1) set₁)
  where
    low_some : 0 < low₁
    low_some =
        by
        (ltb low₁ (low (l - 1)))
        (λ e. let w = rd.low_met (ltb-true low₁ (low (l - 1)) e) in omega (arith, rd.met w.0 w.1 w.2 w.3 w.4, w.5))
        (λ e. omega (arith, ltb-false low₁ (low (l - 1)) e, rd.lower, x.reads.some (l - 1) (omega arith)))

    lowest_met : reaches s (path (l - 1)) (stack (low₁ - 1)) ≡ true
    lowest_met =
        by
        (ltb low₁ (low (l - 1)))
        (λ e. lower (ltb-true low₁ (low (l - 1)) e))
        (λ e. let f : low₁ ≡ low (l - 1) = omega (arith, ltb-false low₁ (low (l - 1)) e, rd.lower) in rw f (x.reads.low_met (l - 1) (omega arith)))
      where
        lower : low₁ < low (l - 1) → reaches s (path (l - 1)) (stack (low₁ - 1)) ≡ true
        lower h =
            let w = rd.low_met h in
            let n = w.5 in
            let f = x.reads.lower (l - 1) (omega arith) in
            let g = x.visited.within (l - 1) (omega arith) in
            let e = x.places.placed (s.go (path (l - 1)) w.0) w.4 (omega (arith, low_some)) (omega arith) in
            rw (← n, e) (reaches_step s (path (l - 1)) w.0 w.3 w.4)

    -- a transition of the last visited state to an open state is inside
    step_within : (t : ℕ → ℕ → Bool) (a : ℕ) → a < s.letters → s.go (path (l - 1)) a < s.states → 0 < number (s.go (path (l - 1)) a)
        → (number (s.go (path (l - 1)) a) ≡ done_number → ⊥) → t (path (l - 1)) a ≡ true → some_within s t (path (l - 1)) ≡ true
    step_within t a la lt m d f =
        let y = s.go (path (l - 1)) a in
        let o : number y ≤ c = by (ltb c (number y)) (λ e. absurd (d (x.places.done y lt (ltb-true c (number y) e)))) (λ e. ltb-false c (number y) e) in
        within_step s t (path (l - 1)) a (x.visited.state (l - 1) (omega arith)) la lt
        (to_last s c l number stack path x.places x.visited y some lt m o) f

    -- what is read of a state, but for what is read now
    is_read : (q a : ℕ) → IsRead l path next' q a → (q ≡ path (l - 1) → a < next (l - 1)) → IsRead l path next q a
    is_read q a r f k h e =
        same_or k (l - 1)
        (λ g. rw g (f (sym e ∙ ap path g)))
        (λ d. rw (pn.others k d) at (r k h e))

    -- either a letter was read before, or it is one that is read now
    old_or_new : {C : Type 0} (q a : ℕ) → IsRead l path next' q a → (IsRead l path next q a → C) → (q ≡ path (l - 1) → next (l - 1) ≤ a → a < b → C) → C
    old_or_new q a r f g =
        same_or q (path (l - 1))
        (λ e. by (ltb a (next (l - 1))) (λ h. f (is_read q a r (λ _. ltb-true a (next (l - 1)) h))) (λ h. g e (ltb-false a (next (l - 1)) h) (rw pn.here at (r (l - 1) (omega arith) (sym e)))))
        (λ d. f (is_read q a r (λ e. absurd (d e))))

    not_last : {C : Type 0} (k q : ℕ) → k < l → (k ≡ l - 1 → ⊥) → IsUnder c l number path k q → q ≡ path (l - 1) → C
    not_last k q h d u e = absurd (last_differ s c l number stack path x.places x.visited k q (omega arith) u e)

    reads_more : Reads s marks c l number stack path next' low' set'
    reads_more =
        record {
          upto = λ k h. same_or k (l - 1) (λ e. rw (e, pn.here) rd.upto) (λ d. rw (pn.others k d) (x.reads.upto k h));
          letter = λ k h. rw (pn.others k (λ e. omega arith)) (x.reads.letter k h);
          led = λ k h. rw (pn.others k (λ e. omega arith)) (x.reads.led k h);
          some = λ k h. same_or k (l - 1) (λ e. rw (e, pl.here) low_some) (λ d. rw (pl.others k d) (x.reads.some k h));
          lower = λ k h. same_or k (l - 1) (λ e. rw (e, pl.here) (omega (arith, rd.lower, x.reads.lower (l - 1) (omega arith)))) (λ d. rw (pl.others k d) (x.reads.lower k h));
          low_met = λ k h. same_or k (l - 1) (λ e. rw (e, pl.here) lowest_met) (λ d. rw (pl.others k d) (x.reads.low_met k h));
          least = λ k q a h lq u la r t. same_or k (l - 1) (λ e. rw (e, pl.here) (least_last q a lq (rw e at u) la r t)) (λ d. rw (pl.others k d) (x.reads.least k q a h lq u la (is_read q a r (not_last k q h d u)) t));
          held = λ k q a i h lq u la r t n m. same_or k (l - 1) (λ e. rw (e, ps.here) (held_last q a i lq (rw e at u) la r t n m)) (λ d. rw (ps.others k d) (x.reads.held k q a i h lq u la (is_read q a r (not_last k q h d u)) t n m));
          real = λ k i h m. same_or k (l - 1) (λ e. rw e (real_last i (rw (e, ps.here) at m))) (λ d. x.reads.real k i h (rw (ps.others k d) at m));
        }
      where
        least_last : (q a : ℕ) → q < s.states → IsUnder c l number path (l - 1) q → a < s.letters → IsRead l path next' q a → s.go q a < s.states
            → low₁ ≤ number (s.go q a)
        least_last q a lq u la r t =
            old_or_new q a r
            (λ f. omega (arith, rd.lower, x.reads.least (l - 1) q a (omega arith) lq u la f t))
            (λ e f g. rw e (rd.least a f g la (rw e at t)))

        held_last : (q a i : ℕ) → q < s.states → IsUnder c l number path (l - 1) q → a < s.letters → IsRead l path next' q a → s.go q a < s.states
            → number (s.go q a) ≤ c → bit i (marks q a) ≡ true → bit i set₁ ≡ true
        held_last q a i lq u la r t n m =
            old_or_new q a r
            (λ f. rd.kept i (x.reads.held (l - 1) q a i (omega arith) lq u la f t n m))
            (λ e f g. rd.held a i f g la (rw e at t) (λ d. omega (arith, x.places.few, ap (λ y. number (s.go y a)) e)) (rw e at m))

        real_last : (i : ℕ) → bit i set₁ ≡ true → some_within s (λ p a. bit i (marks p a)) (path (l - 1)) ≡ true
        real_last i m =
            by
            (bit i (set (l - 1)))
            (λ e. x.reads.real (l - 1) i (omega arith) e)
            (λ e. let w = rd.real i e m in step_within (λ p a. bit i (marks p a)) w.0 w.3 w.4 (rd.met w.0 w.1 w.2 w.3 w.4) w.5 w.6)

    pub read : Searched s marks c l number stack path next' low' set'
    read = record { places = x.places; visited = x.visited; reads = reads_more; closed = x.closed }

-- ---- a state that is not yet met is opened and visited
module _ (s : System) (marks : ℕ → ℕ → ℕ) (c l : ℕ) (number stack path next low set : ℕ → ℕ) (x : Searched s marks c l number stack path next low set)
    (small : s.states < done_number) (w : ℕ) (lw : w < s.states) (z : number w ≡ 0)
    (led : 0 < l → (next (l - 1) < s.letters) × (s.go (path (l - 1)) (next (l - 1)) ≡ w)) (number' stack' path' next' low' set' : ℕ → ℕ)
    (pn : Put number number' w (suc c)) (pk : Put stack stack' c w) (pp : Put path path' l w) (px : Put next next' l 0) (pl : Put low low' l (suc c))
    (ps : Put set set' l 0)
  where
    open_few : c < s.states
    open_few = room s c number stack x.places w lw z

    old_stack : (i : ℕ) → i < c → stack' i ≡ stack i
    old_stack i h = pk.others i (λ e. omega arith)

    old_path : (k : ℕ) → k < l → path' k ≡ path k
    old_path k h = pp.others k (λ e. omega arith)

    old_next : (k : ℕ) → k < l → next' k ≡ next k
    old_next k h = px.others k (λ e. omega arith)

    old_low : (k : ℕ) → k < l → low' k ≡ low k
    old_low k h = pl.others k (λ e. omega arith)

    old_set : (k : ℕ) → k < l → set' k ≡ set k
    old_set k h = ps.others k (λ e. omega arith)

    old_number : (q : ℕ) → 0 < number q → number' q ≡ number q
    old_number q h = pn.others q (λ e. omega (arith, ap number e))

    path_number : (k : ℕ) → k < l → number' (path' k) ≡ number (path k)
    path_number k h = rw (old_path k h) (old_number (path k) (x.visited.met k h))

    top_number : number' (path' l) ≡ suc c
    top_number = rw pp.here pn.here

    -- no number is c + 1 before
    within_old : (q : ℕ) → q < s.states → number q ≤ suc c → number q ≤ c
    within_old q lq h = by (ltb c (number q)) (λ e. absurd (omega (arith, x.places.done q lq (ltb-true c (number q) e), open_few))) (λ e. ltb-false c (number q) e)

    places_more : Places s (suc c) number' stack'
    places_more =
        record {
          few = open_few;
          state = λ i h. same_or i c (λ e. rw (e, pk.here) lw) (λ d. rw (old_stack i (omega arith)) (x.places.state i (omega arith)));
          numbered = λ i h. same_or i c (λ e. rw (e, pk.here) pn.here) (λ d. older i (omega arith));
          placed = λ q lq nq oq. same_or q w (λ e. let f : suc c - 1 ≡ c = omega arith in rw (e, pn.here, f) pk.here) (λ d. let n = pn.others q d in again q lq n (rw n at nq) (rw n at oq));
          done = λ q lq h. same_or q w (λ e. absurd (omega (arith, ap number' e, pn.here))) (λ d. let n = pn.others q d in n ∙ x.places.done q lq (omega arith));
        }
      where
        older : (i : ℕ) → i < c → number' (stack' i) ≡ suc i
        older i h = rw (old_stack i h) (old_number (stack i) (omega (arith, x.places.numbered i h)) ∙ x.places.numbered i h)

        again : (q : ℕ) → q < s.states → number' q ≡ number q → 0 < number q → number q ≤ suc c → stack' (number' q - 1) ≡ q
        again q lq n nq oq = let b = within_old q lq oq in rw n (old_stack (number q - 1) (omega arith) ∙ x.places.placed q lq nq b)

    visited_more : Visited s (suc c) (suc l) number' stack' path'
    visited_more =
        record {
          some = λ h. omega arith;
          state = λ k h. same_or k l (λ e. rw (e, pp.here) lw) (λ d. rw (old_path k (omega arith)) (x.visited.state k (omega arith)));
          met = λ k h. same_or k l (λ e. rw (e, top_number) (omega arith)) (λ d. rw (path_number k (omega arith)) (x.visited.met k (omega arith)));
          within = λ k h. same_or k l (λ e. rw (e, top_number) (omega arith)) (λ d. rw (path_number k (omega arith)) (omega (arith, x.visited.within k (omega arith))));
          first = λ h. same_or l 0 (λ e. ap (λ k. number' (path' k)) (sym e) ∙ top_number ∙ empty e) (λ d. path_number 0 (omega arith) ∙ x.visited.first (omega arith));
          order = λ i j f g. same_or j l (λ e. rw (e, top_number, path_number i (omega arith)) (omega (arith, x.visited.within i (omega arith)))) (λ d. rw (path_number i (omega arith), path_number j (omega arith)) (x.visited.order i j f (omega arith)));
          forth = λ i h. same_or (suc i) c (λ e. rw (e, pk.here, old_stack i (omega arith)) (to_new i e)) (λ d. rw (old_stack i (omega arith), old_stack (suc i) (omega arith)) (x.visited.forth i (omega arith)));
          back = λ i h none. same_or (suc i) c (λ e. absurd (none l (omega arith) (pp.here ∙ sym pk.here ∙ ap stack' (sym e)))) (λ d. back_old i (omega arith) none);
        }
      where
        empty : l ≡ 0 → suc c ≡ 1
        empty e = same_or c 0 (λ f. omega arith) (λ d. absurd (omega (arith, x.visited.some (omega arith))))

        back_old : (i : ℕ) → suc i < c → ((k : ℕ) → k < suc l → path' k ≡ stack' (suc i) → ⊥) → reaches s (stack' (suc i)) (stack' i) ≡ true
        back_old i h none =
            let e = old_stack (suc i) h in
            rw (old_stack i (omega arith), e) (x.visited.back i h (λ k g f. none k (omega arith) (old_path k g ∙ f ∙ sym e)))

        -- by the last visited state, which leads to w
        to_new : (i : ℕ) → suc i ≡ c → reaches s (stack i) w ≡ true
        to_new i e =
            let h = x.visited.some (omega arith) in
            let f = led h in
            let n = x.places.numbered i (omega arith) in
            let y = path (l - 1) in
            let t : s.go y (next (l - 1)) < s.states = rw f.1 lw in
            let up = to_last s c l number stack path x.places x.visited (stack i) h (x.places.state i (omega arith)) (omega arith) (omega arith) in
            rw f.1 at (reaches_trans s (stack i) y (s.go y (next (l - 1))) up (reaches_step s y (next (l - 1)) f.0 t))

    reads_new : Reads s marks (suc c) (suc l) number' stack' path' next' low' set'
    reads_new =
        record {
          upto = λ k h. same_or k l (λ e. rw (e, px.here) (omega arith)) (λ d. rw (old_next k (omega arith)) (x.reads.upto k (omega arith)));
          letter = λ k h. rw (old_next k (omega arith)) (same_or (suc k) l (λ e. let f : k ≡ l - 1 = omega arith in rw f (led (omega arith)).0) (λ d. x.reads.letter k (omega arith)));
          led = λ k h. rw (old_next k (omega arith), old_path k (omega arith)) (same_or (suc k) l (λ e. last_led k e) (λ d. x.reads.led k (omega arith) ∙ sym (old_path (suc k) (omega arith))));
          some = λ k h. same_or k l (λ e. rw (e, pl.here) (omega arith)) (λ d. rw (old_low k (omega arith)) (x.reads.some k (omega arith)));
          lower = λ k h. same_or k l (λ e. rw (e, pl.here, top_number) (omega arith)) (λ d. rw (old_low k (omega arith), path_number k (omega arith)) (x.reads.lower k (omega arith)));
          low_met = λ k h. same_or k l (λ e. let f : suc c - 1 ≡ c = omega arith in rw (e, pl.here, pp.here, f, pk.here) (reaches_refl s w)) (λ d. low_old k (omega arith));
          least = λ k q a h lq u la r t. same_or k l (λ e. nothing q a lq (rw e at u) r) (λ d. rw (old_low k (omega arith), target k q a (omega arith) lq u la r t) (least_old k q a (omega arith) lq u la r t));
          held = λ k q a b h lq u la r t n m. same_or k l (λ e. nothing q a lq (rw e at u) r) (λ d. rw (old_set k (omega arith)) (held_old k q a b (omega arith) lq u la r t n m));
          real = λ k b h m. same_or k l (λ e. clash (rw (e, ps.here) at m) (bit_none b)) (λ d. rw (old_path k (omega arith)) (x.reads.real k b (omega arith) (rw (old_set k (omega arith)) at m)));
        }
      where
        last_led : (k : ℕ) → suc k ≡ l → s.go (path k) (next k) ≡ path' (suc k)
        last_led k e = let f : k ≡ l - 1 = omega arith in ap (λ i. s.go (path i) (next i)) f ∙ (led (omega arith)).1 ∙ sym pp.here ∙ ap path' (sym e)

        low_old : (k : ℕ) → k < l → reaches s (path' k) (stack' (low' k - 1)) ≡ true
        low_old k h =
            let a = x.reads.some k h in
            let b = x.reads.lower k h in
            let d = x.visited.within k h in
            rw (old_low k h, old_path k h, old_stack (low k - 1) (omega arith)) (x.reads.low_met k h)

        -- nothing is read of w, the only state under it
        nothing : {C : Type 0} (q a : ℕ) → q < s.states → IsUnder (suc c) (suc l) number' path' l q → IsRead (suc l) path' next' q a → C
        nothing q a lq u r =
            same_or q w
            (λ e. absurd (omega (arith, r l (omega arith) (pp.here ∙ sym e), px.here)))
            (λ d. absurd (omega (arith, u.from, u.within, top_number, pn.others q d, within_old q lq (omega (arith, u.within, pn.others q d)))))

        under_old : (k q : ℕ) → k < l → q < s.states → IsUnder (suc c) (suc l) number' path' k q → (number' q ≡ number q) × IsUnder c l number path k q
        under_old k q h lq u =
            let d : q ≡ w → ⊥ = λ e. omega (arith, ap number' e, pn.here, u.to (omega arith), visited_more.within (suc k) (omega arith)) in
            let n = pn.others q d in
            (n, record { from = rw (path_number k h, n) at u.from; within = within_old q lq (omega (arith, n, u.within)); to = λ f. rw (path_number (suc k) f, n) at (u.to (omega arith)) })

        is_read : (q a : ℕ) → IsRead (suc l) path' next' q a → IsRead l path next q a
        is_read q a r k h e = rw (old_next k h) at (r k (omega arith) (old_path k h ∙ e))

        least_old : (k q a : ℕ) → k < l → q < s.states → IsUnder (suc c) (suc l) number' path' k q → a < s.letters → IsRead (suc l) path' next' q a
            → s.go q a < s.states → low k ≤ number (s.go q a)
        least_old k q a h lq u la r t = x.reads.least k q a h lq (under_old k q h lq u).1 la (is_read q a r) t

        -- what is read leads to a state that was met before
        target : (k q a : ℕ) → k < l → q < s.states → IsUnder (suc c) (suc l) number' path' k q → a < s.letters → IsRead (suc l) path' next' q a
            → s.go q a < s.states → number' (s.go q a) ≡ number (s.go q a)
        target k q a h lq u la r t = old_number (s.go q a) (omega (arith, x.reads.some k h, least_old k q a h lq u la r t))

        held_old : (k q a b : ℕ) → k < l → q < s.states → IsUnder (suc c) (suc l) number' path' k q → a < s.letters → IsRead (suc l) path' next' q a
            → s.go q a < s.states → number' (s.go q a) ≤ suc c → bit b (marks q a) ≡ true → bit b (set k) ≡ true
        held_old k q a b h lq u la r t n m =
            x.reads.held k q a b h lq (under_old k q h lq u).1 la (is_read q a r) t (within_old (s.go q a) t (rw (target k q a h lq u la r t) at n)) m

    closed_more : Closed s number'
    closed_more q a lq h la t =
        same_or q w
        (λ e. absurd (omega (arith, ap number' e, pn.here, open_few)))
        (λ d. let g = x.closed q a lq (sym (pn.others q d) ∙ h) la t in old_number (s.go q a) (omega arith) ∙ g)

    pub enter : Searched s marks (suc c) (suc l) number' stack' path' next' low' set'
    enter = record { places = places_more; visited = visited_more; reads = reads_new; closed = closed_more }
