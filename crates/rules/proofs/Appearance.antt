-- Index appearance records and closed walks: the abstract theorem, with no table in it.
-- A walk is a list of marks, and it is closed if it carries the record back to itself. `closed_walk`: the largest priority of a closed
-- walk is even exactly if some pair of the record is never prohibited and once required on it.
--     moved_length, moved_occurs                   a move keeps what a record holds
--     after x o                                    what follows x in o
--     after_moved                                  behind a pair that is not prohibited a move only drops the prohibited ones
--     drop_moved                                   a tail in which nothing is prohibited stays as it is
--     priority_none, priority_last, priority_is    the last pair with either mark decides the priority
--     once_length                                  a list of different numbers from 1 to k has at most k
--     with_bounds                                  one pair more cannot lower the priority found, nor lift it past its own position
--     priority_bound                               a priority is at most 2p + 1, p the length of the record
--     scan-*                                       what the search for the priority can find, from any position on
--     even_satisfied, satisfied_even the two halves of the theorem
--     moved_same, priority_same                    tests that agree on a record's pairs move it alike and give it the same priority
use mathlib.Core.Path.{◌≡◌, refl, sym, ap, ◌∙◌}
use mathlib.Core.Logic.{◌⊎◌, inl, inr, ⊎_elim}
use mathlib.Core.Bool.{Bool, true, false, not, ◌||◌, false≢true}
use mathlib.Core.List.{List, [], ◌∷◌, ◌++◌, append_assoc}
use Prim.Native.Nat.{ℕ, zero, suc, ◌+◌, ◌*◌, ◌/◌, ◌%◌, ◌-◌, ◌≤◌, ◌<◌, max}
use native.Mathlib.Omega.{arith}
use lib.Dec.{eqb, leb}
use lib.ListN.{length, take, drop, length-append, length-drop, take-append-drop, drop_of_length-le}
use lib.Seq.{drop_at}
use borrow.Author.Tests.{eqb-true, eqb-false, eq-eqb, leb-true, leb-false, not-true}
use Rattle.rules.specs.Basics.{pick, any, is_in, occurs, keep, is_even}
use Rattle.rules.specs.Records.{Marks, Rearranges, moved, priority_with, priority_from, priority, moved_along, largest_priority, satisfied, has_mark, PriorityIs}
use Rattle.rules.proofs.Bools.{by, clash, or_cases, or_left, or_right, or_none, and_parts, bool_ext}
use Rattle.rules.proofs.Sets.{any_append, any_find, any_intro, any_none}

-- ---- what is kept
module _ (p : ℕ → Bool) where
  abbrev others : List ℕ → List ℕ
  others o = keep (λ i. not (p i)) o

  pub kept_length : (o : List ℕ) → length (keep p o) + length (others o) ≡ length o
  kept_length [] = refl
  kept_length (i ∷ o) = by (p i) (λ e. rw e (omega (arith, kept_length o))) (λ e. rw e (omega (arith, kept_length o)))

  pub kept_occurs : (x : ℕ) (o : List ℕ) → occurs x (keep p o) + occurs x (others o) ≡ occurs x o
  kept_occurs x [] = refl
  kept_occurs x (i ∷ o) =
      by
      (p i)
      (λ e. rw e (by (eqb x i) (λ f. rw f (omega (arith, kept_occurs x o))) (λ f. rw f (kept_occurs x o))))
      (λ e. rw e (by (eqb x i) (λ f. rw f (omega (arith, kept_occurs x o))) (λ f. rw f (kept_occurs x o))))

  pub keep_append : (o o' : List ℕ) → keep p (o ++ o') ≡ keep p o ++ keep p o'
  keep_append [] o' = refl
  keep_append (i ∷ o) o' = by (p i) (λ e. rw (e, keep_append o o')) (λ e. rw (e, keep_append o o'))

  pub others_all : (o : List ℕ) → any p o ≡ false → others o ≡ o
  others_all [] h = refl
  others_all (i ∷ o) h = let r = or_none (p i) (any p o) h in rw (r.0, others_all o r.1)

  -- where nothing is dropped nothing was picked
  pub others_lose_none : (o : List ℕ) → length o ≤ length (others o) → any p o ≡ false
  others_lose_none [] h = refl
  others_lose_none (i ∷ o) h =
      by (p i) (λ e. absurd (omega (arith, rw e at h, kept_length o))) (λ e. rw e (others_lose_none o (omega (arith, rw e at h))))

  pub keep_free : (x : ℕ) (o : List ℕ) → p x ≡ false → is_in x (keep p o) ≡ false
  keep_free x [] h = refl
  keep_free x (i ∷ o) h =
      by
      (p i)
      (λ e. rw e (by (eqb x i) (λ f. clash e (rw (eqb-true x i f) at h)) (λ f. rw (f, keep_free x o h))))
      (λ e. rw e (keep_free x o h))

  pub keep_hold : (x : ℕ) (o : List ℕ) → p x ≡ true → is_in x (keep p o) ≡ is_in x o
  keep_hold x [] h = refl
  keep_hold x (i ∷ o) h =
      by
      (p i)
      (λ e. rw e (rw (keep_hold x o h)))
      (λ e. rw e (by (eqb x i) (λ f. clash h (rw (← eqb-true x i f) at e)) (λ f. rw f (keep_hold x o h))))

-- ---- what follows a pair
abbrev pub after : ℕ → List ℕ → List ℕ
after x [] = []
after x (i ∷ o) = pick (eqb x i) o (after x o)

after_length : (x : ℕ) (o : List ℕ) → length (after x o) ≤ length o
after_length x [] = omega arith
after_length x (i ∷ o) = by (eqb x i) (λ e. rw e (omega arith)) (λ e. rw e (omega (arith, after_length x o)))

after_append : (x : ℕ) (o o' : List ℕ) → is_in x o ≡ false → after x (o ++ o') ≡ after x o'
after_append x [] o' h = refl
after_append x (i ∷ o) o' h = let r = or_none (eqb x i) (is_in x o) h in rw r.0 (after_append x o o' r.1)

after_others : (p : ℕ → Bool) (x : ℕ) (o : List ℕ) → p x ≡ false → after x (keep (λ i. not (p i)) o) ≡ keep (λ i. not (p i)) (after x o)
after_others p x [] h = refl
after_others p x (i ∷ o) h =
    by
    (p i)
    (λ e. rw e (by (eqb x i) (λ f. clash e (rw (eqb-true x i f) at h)) (λ f. rw f (after_others p x o h))))
    (λ e. rw e (by (eqb x i) (λ f. rw f) (λ f. rw f (after_others p x o h))))

pub occurs_none : (x : ℕ) (o : List ℕ) → occurs x o ≡ 0 → is_in x o ≡ false
occurs_none x [] h = refl
occurs_none x (i ∷ o) h = by (eqb x i) (λ e. absurd (omega (arith, rw e at h))) (λ e. rw e (occurs_none x o (rw e at h)))

pub none_occurs : (x : ℕ) (o : List ℕ) → is_in x o ≡ false → occurs x o ≡ 0
none_occurs x [] h = refl
none_occurs x (i ∷ o) h = let r = or_none (eqb x i) (is_in x o) h in rw r.0 (none_occurs x o r.1)

pub occurs_append : (x : ℕ) (o o' : List ℕ) → occurs x (o ++ o') ≡ occurs x o + occurs x o'
occurs_append x [] o' = omega arith
occurs_append x (i ∷ o) o' = by (eqb x i) (λ e. rw e (omega (arith, occurs_append x o o'))) (λ e. rw e (occurs_append x o o'))

-- different numbers from 1 to k
occurs_kept : (x : ℕ) (o : List ℕ) → length (keep (eqb x) o) ≡ occurs x o
occurs_kept x [] = refl
occurs_kept x (i ∷ o) = by (eqb x i) (λ e. rw e (ap suc (occurs_kept x o))) (λ e. rw e (occurs_kept x o))

pub once_length : (k : ℕ) (o : List ℕ) → occurs 0 o ≡ 0 → ((i : ℕ) → occurs i o ≤ 1) → ((i : ℕ) → k < i → occurs i o ≡ 0) → length o ≤ k
once_length zero [] z once none = omega arith
once_length zero (zero ∷ o) z once none = absurd (omega arith)
once_length zero (suc i ∷ o) z once none = let self = eq-eqb (suc i) (suc i) refl in absurd (omega (arith, rw self at (none (suc i) (omega arith))))
once_length (suc k) o z once none =
    let fewer = once_length k (others (eqb (suc k)) o) (omega (arith, kept_occurs (eqb (suc k)) 0 o)) (λ i. omega (arith, kept_occurs (eqb (suc k)) i o, once i)) below in
    omega (arith, kept_length (eqb (suc k)) o, occurs_kept (suc k) o, once (suc k))
  where
    below : (i : ℕ) → k < i → occurs i (others (eqb (suc k)) o) ≡ 0
    below i l =
        by
        (eqb (suc k) i)
        (λ e. none_occurs i (others (eqb (suc k)) o) (keep_free (λ j. not (eqb (suc k) j)) i o (rw e)))
        (λ e. omega (arith, kept_occurs (eqb (suc k)) i o, none i (omega (arith, eqb-false (suc k) i e))))

-- a priority as it looks from position q: even, or below 2q, and not below where the pair at q is required
record SeenFrom (q r : ℕ) (required : Bool) : Type 0 where
  even_or_below : (is_even r ≡ true) ⊎ (r < 2 * q)
  not_below : required ≡ true → 2 * q ≤ r

seen_max : {q a b : ℕ} {f g : Bool} → SeenFrom q a f → SeenFrom q b g → SeenFrom q (max a b) (f || g)
seen_max {q} {a} {b} {f} {g} s t =
    record {
      even_or_below = by (leb a b) (λ e. let z : max a b ≡ b = omega (arith, leb-true a b e) in rw z t.even_or_below) (λ e. let z : max a b ≡ a = omega (arith, leb-false a b e) in rw z s.even_or_below);
      not_below = λ h. or_cases f g h (λ e. omega (arith, s.not_below e)) (λ e. omega (arith, t.not_below e));
    }

is_in_drop : (x k : ℕ) (o : List ℕ) → is_in x (drop k o) ≡ true → is_in x o ≡ true
is_in_drop x zero o h = h
is_in_drop x (suc k) [] h = h
is_in_drop x (suc k) (i ∷ o) h = or_right (eqb x i) (is_in x o) (is_in_drop x k o h)

even_double : (p : ℕ) → is_even (2 * p) ≡ true
even_double p = eq-eqb (2 * p % 2) 0 (omega arith)

-- ---- the search for the priority: it stands at position p, and best was found before
module _ (m : Marks) where
  -- the pairs with either mark
  abbrev marked : ℕ → Bool
  marked = has_mark m

  scan_quiet : (o : List ℕ) (p best : ℕ) → any marked o ≡ false → priority_from p m o best ≡ best
  scan_quiet [] p best h = refl
  scan_quiet (i ∷ o) p best h =
      let r = or_none (marked i) (any marked o) h in
      let n = or_none (m.prohibited i) (m.required i) r.0 in
      rw (n.0, n.1) (scan_quiet o (suc p) best r.1)

  scan_last : (u : List ℕ) (i : ℕ) (v : List ℕ) (p best : ℕ) → marked i ≡ true → any marked v ≡ false
      → priority_from p m (u ++ (i ∷ v)) best ≡ pick (m.prohibited i) (suc (2 * (p + length u))) (2 * (p + length u))
  scan_last [] i v p best h q =
      scan_quiet v (suc p) _ q ∙ by (m.prohibited i) (λ e. rw e (omega arith)) (λ e. let f = rw e at h in rw (e, f) (omega arith))
  scan_last (j ∷ u) i v p best h q =
      let e : suc p + length u ≡ p + suc (length u) = omega arith in
      scan_last u i v (suc p) _ h q ∙ ap (λ (n : ℕ). pick (m.prohibited i) (suc (2 * n)) (2 * n)) e

  -- RULES, "Priorities": the last pair with a mark decides, and there may be none
  pub priority_none : (o : List ℕ) → any marked o ≡ false → priority m o ≡ 1
  priority_none o h = scan_quiet o 1 1 h

  pub priority_last : (u : List ℕ) (i : ℕ) (v : List ℕ) → marked i ≡ true → any marked v ≡ false
      → priority m (u ++ (i ∷ v)) ≡ pick (m.prohibited i) (suc (2 * (1 + length u))) (2 * (1 + length u))
  priority_last u i v h q = scan_last u i v 1 1 h q

  pub priority_is : (o : List ℕ) → PriorityIs m o (priority m o)
  priority_is o =
      record {
        none = priority_none o;
        last = λ u i v e h q. ap (priority m) (sym e) ∙ priority_last u i v h q ∙ by (m.prohibited i) (λ f. rw f (omega arith)) (λ f. rw f);
      }

  with_bounds : (p i best : ℕ) → best < 2 * p → (best ≤ priority_with p m i best) × (priority_with p m i best < 2 * suc p)
  with_bounds p i best h =
      by (m.prohibited i) (λ e. rw e (omega arith)) (λ e. rw e (by (m.required i) (λ f. rw f (omega arith)) (λ f. rw f (omega arith))))

  scan_below : (o : List ℕ) (p best : ℕ) → best < 2 * p → priority_from p m o best < 2 * (p + length o)
  scan_below [] p best h = omega arith
  scan_below (i ∷ o) p best h = omega (arith, scan_below o (suc p) (priority_with p m i best) (with_bounds p i best h).1)

  pub priority_bound : (o : List ℕ) → priority m o ≤ 2 * length o + 1
  priority_bound o = omega (arith, scan_below o 1 1 (omega arith))

  pub scan_keeps : (o : List ℕ) (p best : ℕ) → best < 2 * p → best ≤ priority_from p m o best
  scan_keeps [] p best h = omega arith
  scan_keeps (i ∷ o) p best h = let b = with_bounds p i best h in omega (arith, scan_keeps o (suc p) (priority_with p m i best) b.1)

  pub scan_result : (o : List ℕ) (p best : ℕ) → best < 2 * p → (priority_from p m o best ≡ best) ⊎ (2 * p ≤ priority_from p m o best)
  scan_result [] p best h = inl refl
  scan_result (i ∷ o) p best h =
      by
      (m.prohibited i)
      (λ e. rw e (inr (omega (arith, scan_keeps o (suc p) (suc (2 * p)) (omega arith)))))
      (λ e. rw e (by (m.required i) (λ f. rw f (inr (scan_keeps o (suc p) (2 * p) (omega arith)))) (λ f. rw f (⊎_elim inl (λ g. inr (omega arith)) (scan_result o (suc p) best (omega arith))))))

  -- a result of at most 2(p + k): nothing is prohibited from the k-th on
  pub scan_none_prohibited : (o : List ℕ) (p k best : ℕ) → best < 2 * p → priority_from p m o best ≤ 2 * (p + k)
      → any m.prohibited (drop k o) ≡ false
  scan_none_prohibited [] p zero best b h = refl
  scan_none_prohibited [] p (suc k) best b h = refl
  scan_none_prohibited (i ∷ o) p zero best b h =
      let f = with_bounds p i best b in
      by
      (m.prohibited i)
      (λ e. absurd (omega (arith, rw e at h, scan_keeps o (suc p) (suc (2 * p)) (omega arith))))
      (λ e. rw e (scan_none_prohibited o (suc p) zero (priority_with p m i best) f.1 (omega arith)))
  scan_none_prohibited (i ∷ o) p (suc k) best b h =
      scan_none_prohibited o (suc p) k (priority_with p m i best) (with_bounds p i best b).1 (omega arith)

  -- a result of 2(p + k): something is required from the k-th on
  pub scan_some_required : (o : List ℕ) (p k best : ℕ) → best < 2 * p → priority_from p m o best ≡ 2 * (p + k)
      → any m.required (drop k o) ≡ true
  scan_some_required [] p k best b h = absurd (omega arith)
  scan_some_required (i ∷ o) p zero best b h =
      by
      (m.prohibited i)
      (λ e. absurd (omega (arith, rw e at h, scan_keeps o (suc p) (suc (2 * p)) (omega arith))))
      (λ e. by (m.required i) (λ f. rw f) (λ f. let h' = rw (e, f) at h in absurd (⊎_elim (λ (g : priority_from (suc p) m o best ≡ best). omega arith) (λ (g : 2 * suc p ≤ priority_from (suc p) m o best). omega arith) (scan_result o (suc p) best (omega arith)))))
  scan_some_required (i ∷ o) p (suc k) best b h = scan_some_required o (suc p) k (priority_with p m i best) (with_bounds p i best b).1 (omega arith)

  -- nothing prohibited: the result is even, or what was found before
  scan_clean : (o : List ℕ) (p best : ℕ) → any m.prohibited o ≡ false
      → (is_even (priority_from p m o best) ≡ true) ⊎ (priority_from p m o best ≡ best)
  scan_clean [] p best h = inr refl
  scan_clean (i ∷ o) p best h =
      let r = or_none (m.prohibited i) (any m.prohibited o) h in
      rw r.0 (by (m.required i) (λ f. rw f (inl (⊎_elim (λ e. e) (λ e. rw e (even_double p)) (scan_clean o (suc p) (2 * p) r.1)))) (λ f. rw f (scan_clean o (suc p) best r.1)))

  scan_head : (x : ℕ) (o : List ℕ) (p best : ℕ) → best < 2 * p → m.prohibited x ≡ false → any m.prohibited o ≡ false
      → SeenFrom p (priority_from p m (x ∷ o) best) (m.required x)
  scan_head x o p best b n c =
      by
      (m.required x)
      (λ f. rw (n, f) (record { even_or_below = inl (⊎_elim (λ e. e) (λ e. rw e (even_double p)) (scan_clean o (suc p) (2 * p) c)); not_below = λ _. scan_keeps o (suc p) (2 * p) (omega arith) }))
      (λ f. rw (n, f) (record { even_or_below = ⊎_elim inl (λ e. inr (omega arith)) (scan_clean o (suc p) best c); not_below = λ h. absurd (false≢true h) }))

  -- x stands at position q, and neither it nor anything behind it is prohibited
  scan_at : (x : ℕ) (o : List ℕ) (p q best : ℕ) → best < 2 * p → is_in x o ≡ true → m.prohibited x ≡ false
      → any m.prohibited (after x o) ≡ false → q + suc (length (after x o)) ≡ p + length o
      → SeenFrom q (priority_from p m o best) (m.required x)
  scan_at x [] p q best b i n c e = absurd (false≢true i)
  scan_at x (y ∷ o) p q best b i n c e =
      by
      (eqb x y)
      (λ f. let g : q ≡ p = omega (arith, rw f at e) in rw (← eqb-true x y f, g) (scan_head x o p best b n (rw f at c)))
      (λ f. scan_at x o (suc p) q (priority_with p m y best) (with_bounds p y best b).1 (rw f at i) n (rw f at c) (omega (arith, rw f at e)))

-- ---- moves
module _ (arr : List ℕ → List ℕ) (law : Rearranges arr) where
  module _ (p : ℕ → Bool) where
    arranged_free : (x : ℕ) (o : List ℕ) → p x ≡ false → is_in x (arr (keep p o)) ≡ false
    arranged_free x o h = occurs_none x (arr (keep p o)) (law.same_occurs x (keep p o) ∙ none_occurs x (keep p o) (keep_free p x o h))

    pub after_moved : (x : ℕ) (o : List ℕ) → p x ≡ false → after x (moved arr p o) ≡ keep (λ i. not (p i)) (after x o)
    after_moved x o h = after_append x (arr (keep p o)) (others p o) (arranged_free x o h) ∙ after_others p x o h

    pub moved_length : (o : List ℕ) → length (moved arr p o) ≡ length o
    moved_length o = simp (length-append, law.same_length) (kept_length p o)

    pub moved_occurs : (x : ℕ) (o : List ℕ) → occurs x (moved arr p o) ≡ occurs x o
    moved_occurs x o = simp (occurs_append, law.same_occurs) (kept_occurs p x o)

    moved_holds : (x : ℕ) (o : List ℕ) → p x ≡ false → is_in x (moved arr p o) ≡ is_in x o
    moved_holds x o h =
        any_append (λ y. eqb x y) (arr (keep p o)) (others p o) ∙ rw (arranged_free x o h) (keep_hold (λ i. not (p i)) x o (rw h))

    pub drop_moved : (k : ℕ) (o : List ℕ) → any p (drop k o) ≡ false → drop k (moved arr p o) ≡ drop k o
    drop_moved k o h = by (leb k (length o)) (λ e. within (leb-true k (length o) e)) (λ e. past (leb-false k (length o) e))
      where
        past : length o < k → drop k (moved arr p o) ≡ drop k o
        past l = drop_of_length-le (moved arr p o) {i = k} (omega (arith, moved_length o)) ∙ sym (drop_of_length-le o {i = k} (omega arith))

        front : List ℕ
        front = arr (keep p o) ++ others p (take k o)

        tail_stays : others p o ≡ others p (take k o) ++ drop k o
        tail_stays =
            ap (others p) (sym (take-append-drop k o)) ∙ keep_append (λ i. not (p i)) (take k o) (drop k o)
            ∙ ap (λ (z : List ℕ). others p (take k o) ++ z) (others_all p (drop k o) h)

        front_length : k ≤ length o → length front ≡ k
        front_length l =
            simp length-append
            (omega (arith, law.same_length (keep p o), kept_length p o, simp (length-append, length-drop) at (ap length tail_stays)))

        within : k ≤ length o → drop k (moved arr p o) ≡ drop k o
        within l =
            ap (λ (z : List ℕ). drop k (arr (keep p o) ++ z)) tail_stays
            ∙ ap (drop k) (sym (append_assoc (arr (keep p o)) (others p (take k o)) (drop k o)))
            ∙ drop_at front (drop k o) k (front_length l)

  -- ---- even: some pair of the tail at which the largest priority points is satisfied
  tail_free : (ms : List Marks) (o : List ℕ) (k : ℕ) → largest_priority arr ms o ≤ 2 * suc k → (x : ℕ) → is_in x (drop k o) ≡ true
      → any (λ m. m.prohibited x) ms ≡ false
  tail_free [] o k h x i = refl
  tail_free (m ∷ ms) o k h x i =
      let c = scan_none_prohibited m o 1 k 1 (omega arith) (omega arith) in
      let d = drop_moved m.prohibited k o c in
      rw (any_none m.prohibited (drop k o) x c i) (tail_free ms (moved arr m.prohibited o) k (omega arith) x (rw d i))

  tail_required : (ms : List Marks) (o : List ℕ) (k : ℕ) → largest_priority arr ms o ≡ 2 * suc k
      → (x : ℕ) × (is_in x (drop k o) ≡ true) × (any (λ m. m.required x) ms ≡ true)
  tail_required [] o k h = absurd (omega arith)
  tail_required (m ∷ ms) o k h =
      let c = scan_none_prohibited m o 1 k 1 (omega arith) (omega arith) in
      let d = drop_moved m.prohibited k o c in
      by
      (eqb (priority m o) (2 * suc k))
      (λ e. let r = any_find m.required (drop k o) (scan_some_required m o 1 k 1 (omega arith) (omega (arith, eqb-true (priority m o) (2 * suc k) e))) in (r.0, r.1, or_left (m.required r.0) (any (λ n. n.required r.0) ms) r.2))
      (λ e. let r = tail_required ms (moved arr m.prohibited o) k (omega (arith, eqb-false (priority m o) (2 * suc k) e)) in (r.0, rw d at r.1, or_right (m.required r.0) (any (λ n. n.required r.0) ms) r.2))

  even_satisfied : (m : Marks) (ms : List Marks) (o : List ℕ) → is_even (largest_priority arr (m ∷ ms) o) ≡ true
      → any (satisfied (m ∷ ms)) o ≡ true
  even_satisfied m ms o h =
      let l = largest_priority arr (m ∷ ms) o in
      let k = l / 2 - 1 in
      let e : l ≡ 2 * suc k = omega (arith, eqb-true (l % 2) 0 h, scan_keeps m o 1 1 (omega arith)) in
      let r = tail_required (m ∷ ms) o k e in
      let f = tail_free (m ∷ ms) o k (omega arith) r.0 r.1 in
      any_intro (satisfied (m ∷ ms)) o r.0 (is_in_drop r.0 k o r.1) (rw (f, r.2))

  -- ---- satisfied: the tail behind the pair cannot shrink, so nothing of it is prohibited, and the priorities that reach it are even
  after_shrinks : (x : ℕ) (ms : List Marks) (o : List ℕ) → any (λ m. m.prohibited x) ms ≡ false
      → length (after x (moved_along arr ms o)) ≤ length (after x o)
  after_shrinks x [] o h = omega arith
  after_shrinks x (m ∷ ms) o h =
      let r = or_none (m.prohibited x) (any (λ n. n.prohibited x) ms) h in
      omega (arith, after_shrinks x ms (moved arr m.prohibited o) r.1, ap length (after_moved m.prohibited x o r.0), kept_length m.prohibited (after x o))

  walk_seen : (x q : ℕ) (ms : List Marks) (o : List ℕ) → any (λ m. m.prohibited x) ms ≡ false → is_in x o ≡ true
      → length (after x o) ≤ length (after x (moved_along arr ms o)) → q + suc (length (after x o)) ≡ 1 + length o
      → SeenFrom q (largest_priority arr ms o) (any (λ m. m.required x) ms)
  walk_seen x q [] o h i l e = record { even_or_below = inl refl; not_below = λ f. absurd (false≢true f) }
  walk_seen x q (m ∷ ms) o h i l e =
      let r = or_none (m.prohibited x) (any (λ n. n.prohibited x) ms) h in
      let o' = moved arr m.prohibited o in
      let s = after_shrinks x ms o' r.1 in
      let a = ap length (after_moved m.prohibited x o r.0) in
      let c = others_lose_none m.prohibited (after x o) (omega arith) in
      let b = ap length (others_all m.prohibited (after x o) c) in
      seen_max (scan_at m x o 1 q 1 (omega arith) i r.0 c e) (walk_seen x q ms o' r.1 (moved_holds m.prohibited x o r.0 ∙ i) (omega arith) (omega (arith, moved_length m.prohibited o)))

  satisfied_even : (m : Marks) (ms : List Marks) (o : List ℕ) → moved_along arr (m ∷ ms) o ≡ o → any (satisfied (m ∷ ms)) o ≡ true
      → is_even (largest_priority arr (m ∷ ms) o) ≡ true
  satisfied_even m ms o closed h =
      let r = any_find (satisfied (m ∷ ms)) o h in
      let x = r.0 in
      let f = and_parts (not (any (λ n. n.prohibited x) (m ∷ ms))) (any (λ n. n.required x) (m ∷ ms)) r.2 in
      let q = length o - length (after x o) in
      let s = walk_seen x q (m ∷ ms) o (not-true (any (λ n. n.prohibited x) (m ∷ ms)) f.0) r.1 (omega (arith, ap (λ (z : List ℕ). length (after x z)) closed)) (omega (arith, after_length x o)) in
      ⊎_elim (λ e. e) (λ l. absurd (omega (arith, s.not_below f.1))) s.even_or_below

  pub closed_walk : (m : Marks) (ms : List Marks) (o : List ℕ) → moved_along arr (m ∷ ms) o ≡ o
      → is_even (largest_priority arr (m ∷ ms) o) ≡ any (satisfied (m ∷ ms)) o
  closed_walk m ms o closed =
      bool_ext (is_even (largest_priority arr (m ∷ ms) o)) (any (satisfied (m ∷ ms)) o) (even_satisfied m ms o) (satisfied_even m ms o closed)

-- ---- tests that agree on the pairs of a record
keep_same : (b c : ℕ → Bool) (o : List ℕ) → ((i : ℕ) → is_in i o ≡ true → b i ≡ c i) → keep b o ≡ keep c o
keep_same b c [] h = refl
keep_same b c (i ∷ o) h =
    rw
    (h i (or_left (eqb i i) (is_in i o) (eq-eqb i i refl)), keep_same b c o (λ j e. h j (or_right (eqb j i) (is_in j o) e)))

pub moved_same : (arr : List ℕ → List ℕ) (b c : ℕ → Bool) (o : List ℕ) → ((i : ℕ) → is_in i o ≡ true → b i ≡ c i) → moved arr b o ≡ moved arr c o
moved_same arr b c o h = rw (keep_same b c o h, keep_same (λ i. not (b i)) (λ i. not (c i)) o (λ i e. ap not (h i e)))

priority_same_from : (m n : Marks) (o : List ℕ) (p best : ℕ) → ((i : ℕ) → is_in i o ≡ true → m.prohibited i ≡ n.prohibited i)
    → ((i : ℕ) → is_in i o ≡ true → m.required i ≡ n.required i) → priority_from p m o best ≡ priority_from p n o best
priority_same_from m n [] p best h k = refl
priority_same_from m n (i ∷ o) p best h k =
    let here = or_left (eqb i i) (is_in i o) (eq-eqb i i refl) in
    rw (h i here, k i here)
    (priority_same_from m n o (suc p) _ (λ j e. h j (or_right (eqb j i) (is_in j o) e)) (λ j e. k j (or_right (eqb j i) (is_in j o) e)))

pub priority_same : (m n : Marks) (o : List ℕ) → ((i : ℕ) → is_in i o ≡ true → m.prohibited i ≡ n.prohibited i)
    → ((i : ℕ) → is_in i o ≡ true → m.required i ≡ n.required i) → priority m o ≡ priority n o
priority_same m n o h k = priority_same_from m n o 1 1 h k
