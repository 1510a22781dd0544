-- What the exploration finds, over any plan whose sameness of rows is equality.
--     place_found, place_least, place_most, place_append, place_added, place_same    the place of the first element that passes a test
--     Found                                                                          what holds of the rows found at a moment of the exploration
--     found_with                                                                     one transition more keeps it
--     with_longer, with_row, by_next, by_grows                                       what a transition, and letters, leave of the rows found
--     from_on, from_stop                                                             a row more is read, or none
--     explored                                                                       at the end all rows have been read, unless there are too many
--     rows_distinct                                                                  no row is found twice
--     rows_view                                                                      the rows found are the reachable ones, each once, in order of discovery; full exactly if more than c are reachable
use mathlib.Core.Path.{◌≡◌, refl, sym, ap, ◌∙◌, subst}
use mathlib.Core.Logic.{◌↔◌, ◌⊎◌, inl, inr, ⊎_elim}
use mathlib.Core.Bool.{Bool, true, false, ◌&&◌}
use mathlib.Core.List.{List, [], ◌∷◌, ◌++◌}
use Prim.Native.Nat.{ℕ, zero, suc, ◌+◌, ◌≤◌, ◌<◌}
use native.Mathlib.Omega.{arith}
use lib.Dec.{ltb, leb}
use lib.ListN.{length, get_or, length-append, get_or-append}
use lib.Seq.{get_or-append_seam}
use borrow.Author.Tests.{ltb-true, ltb-false, leb-true, leb-false}
use Rattle.rules.specs.Rows.{Plan, SameIsEqual, place_of, number_of, rows_with, found_by, found_from, rows_of, is_full, row_at, Reached, first_row, next_row, Distinct, Earlier, Discovered, MoreThan, RowsAre}
use Rattle.rules.proofs.Bools.{by, clash, and_both, and_parts}
use Rattle.rules.proofs.Pigeonhole.{pigeonhole}

-- ---- the place of the first element that passes a test
module _ {A : Type 0} (b : A → Bool) where
  place_hit : (x : A) (xs : List A) → b x ≡ true → place_of b (x ∷ xs) ≡ 0
  place_hit x xs e = rw (e, place_of)

  place_miss : (x : A) (xs : List A) → b x ≡ false → place_of b (x ∷ xs) ≡ suc (place_of b xs)
  place_miss x xs e = rw (e, place_of)

  pub place_found : (d : A) (xs : List A) → place_of b xs < length xs → b (get_or xs (place_of b xs) d) ≡ true
  place_found d [] h = absurd (omega arith)
  place_found d (x ∷ xs) h =
      by (b x) (λ e. rw (place_hit x xs e) e) (λ e. rw (place_miss x xs e) (place_found d xs (omega (arith, rw (place_miss x xs e) at h))))

  pub place_least : (d : A) (xs : List A) (k : ℕ) → k < length xs → b (get_or xs k d) ≡ true → place_of b xs ≤ k
  place_least d [] k l h = absurd (omega arith)
  place_least d (x ∷ xs) zero l h = rw (place_hit x xs h) (omega arith)
  place_least d (x ∷ xs) (suc k) l h =
      by (b x) (λ e. rw (place_hit x xs e) (omega arith)) (λ e. rw (place_miss x xs e) (omega (arith, place_least d xs k (omega arith) h)))

  pub place_most : (xs : List A) → place_of b xs ≤ length xs
  place_most [] = omega arith
  place_most (x ∷ xs) =
      by (b x) (λ e. rw (place_hit x xs e) (omega arith)) (λ e. rw (place_miss x xs e) (omega (arith, place_most xs)))

  pub place_append : (xs ys : List A) → place_of b xs < length xs → place_of b (xs ++ ys) ≡ place_of b xs
  place_append [] ys h = absurd (omega arith)
  place_append (x ∷ xs) ys h =
      by
      (b x)
      (λ e. place_hit x (xs ++ ys) e ∙ sym (place_hit x xs e))
      (λ e. place_miss x (xs ++ ys) e ∙ ap suc (place_append xs ys (omega (arith, rw (place_miss x xs e) at h))) ∙ sym (place_miss x xs e))

  pub place_added : (xs : List A) (y : A) → length xs ≤ place_of b xs → b y ≡ true → place_of b (xs ++ (y ∷ [])) ≡ length xs
  place_added [] y h e = place_hit y [] e
  place_added (x ∷ xs) y h e =
      by
      (b x)
      (λ f. absurd (omega (arith, rw (place_hit x xs f) at h)))
      (λ f. place_miss x (xs ++ (y ∷ [])) f ∙ ap suc (place_added xs y (omega (arith, rw (place_miss x xs f) at h)) e))

-- two lists with the same answers to two tests
pub place_same : {A B : Type 0} (b : A → Bool) (c : B → Bool) (xs : List A) (ys : List B) (d : A) (e : B) → length xs ≡ length ys
    → ((i : ℕ) → i < length xs → b (get_or xs i d) ≡ c (get_or ys i e)) → place_of b xs ≡ place_of c ys
place_same b c [] [] d e l h = refl
place_same b c [] (y ∷ ys) d e l h = absurd (omega arith)
place_same b c (x ∷ xs) [] d e l h = absurd (omega arith)
place_same b c (x ∷ xs) (y ∷ ys) d e l h =
    let rest = place_same b c xs ys d e (omega arith) (λ i k. h (suc i) (omega arith)) in
    let here : b x ≡ c y = h 0 (omega arith) in
    by
    (b x)
    (λ f. place_hit b x xs f ∙ sym (place_hit c y ys (sym here ∙ f)))
    (λ f. place_miss b x xs f ∙ ap suc rest ∙ sym (place_miss c y ys (sym here ∙ f)))

-- ---- moments of the exploration, ordered by row and letter
earlier_row : {j b i a : ℕ} → Earlier j b i a → j ≤ i
earlier_row e = ⊎_elim (λ l. omega arith) (λ p. omega arith) e

earlier_next : {C : Type 0} {j b i a : ℕ} → Earlier j b i (suc a) → (Earlier j b i a → C) → (j ≡ i → b ≡ a → C) → C
earlier_next {b = b} {a = a} e f g =
    ⊎_elim (λ l. f (inl l)) (λ p. by (ltb b a) (λ h. f (inr (p.0, ltb-true b a h))) (λ h. g p.0 (omega (arith, ltb-false b a h, p.1))))
    e

module _ {A : Type 0} (g : Plan A) (law : SameIsEqual g) where
  -- the rows found when the rows below i have been read, and row i by the letters below a
  record Found (i a : ℕ) (rs : List A) : Type 0 where
    some : 0 < length rs
    front : row_at g rs 0 ≡ g.first
    once : (k : ℕ) → k < length rs → number_of g (row_at g rs k) rs ≡ k
    closed : (j b : ℕ) → Earlier j b i a → b < g.letters → j < length rs → (g.step (row_at g rs j) b).there ≡ true
        → number_of g (g.step (row_at g rs j) b).to rs < length rs
    ordered : (k : ℕ) → 0 < k → k < length rs → Discovered g rs k

  -- a row that is absent is added
  module _ (rs : List A) (x : A) (absent : length rs ≤ number_of g x rs) where
    abbrev more : List A
    more = rs ++ (x ∷ [])

    more_length : length more ≡ suc (length rs)
    more_length = simp length-append (omega arith)

    same_row_lem : (j : ℕ) → j < length rs → row_at g more j ≡ row_at g rs j
    same_row_lem j l = get_or-append rs (x ∷ []) g.first j l

    last_row : row_at g more (length rs) ≡ x
    last_row = get_or-append_seam rs x [] g.first

    same_number : (r : A) → number_of g r rs < length rs → number_of g r more ≡ number_of g r rs
    same_number r l = place_append (g.same r) rs (x ∷ []) l

    last_number : number_of g x more ≡ length rs
    last_number = place_added (g.same x) rs x absent (law.self x)

    once_more : ((k : ℕ) → k < length rs → number_of g (row_at g rs k) rs ≡ k) → (k : ℕ) → k < length more
        → number_of g (row_at g more k) more ≡ k
    once_more h k l =
        by
        (ltb k (length rs))
        (λ e. let b = ltb-true k (length rs) e in rw (same_row_lem k b) (same_number (row_at g rs k) (omega (arith, h k b)) ∙ h k b))
        (λ e. let z : k ≡ length rs = omega (arith, ltb-false k (length rs) e, more_length) in rw z (rw last_row last_number))

    -- a transition of an old row to an old row
    old_step : (j b n : ℕ) → j < length rs → n ≤ length rs
        → ((g.step (row_at g rs j) b).there ≡ true → number_of g (g.step (row_at g rs j) b).to rs < n)
        → (g.step (row_at g more j) b).there ≡ true → number_of g (g.step (row_at g more j) b).to more < n
    old_step j b n l le h t =
        let lt = h (rw (same_row_lem j l) at t) in
        rw (same_row_lem j l) (rw (same_number (g.step (row_at g rs j) b).to (omega arith)) lt)

    discovered_more : (k : ℕ) → k < length rs → Discovered g rs k → Discovered g more k
    discovered_more k l d =
        let o = same_row_lem d.by_row (omega (arith, d.from_before)) in
        record {
          by_row = d.by_row;
          by_letter = d.by_letter;
          from_before = d.from_before;
          is_letter = d.is_letter;
          there = rw o d.there;
          found = rw (o, same_row_lem k l) d.found;
          nothing_new =
              λ j b e lb t. old_step j b k (omega (arith, earlier_row e, d.from_before)) (omega arith) (d.nothing_new j b e lb) t;
        }

    discovered_last : {i a : ℕ} → Found i a rs → i < length rs → a < g.letters → (g.step (row_at g rs i) a).there ≡ true
        → (g.step (row_at g rs i) a).to ≡ x → Discovered g more (length rs)
    discovered_last {i} {a} f l la t to =
        let o = same_row_lem i l in
        record {
          by_row = i;
          by_letter = a;
          from_before = l;
          is_letter = la;
          there = rw o t;
          found = rw (o, last_row) to;
          nothing_new =
              λ j b e lb t'. let lj : j < length rs = omega (arith, earlier_row e) in old_step j b (length rs) lj (omega arith) (f.closed j b e lb lj) t';
        }

    found_more : {i a : ℕ} → Found i a rs → i < length rs → a < g.letters → (g.step (row_at g rs i) a).there ≡ true
        → (g.step (row_at g rs i) a).to ≡ x → Found i (suc a) more
    found_more {i} {a} f l la t to =
        record {
          some = omega (arith, more_length);
          front = same_row_lem 0 f.some ∙ f.front;
          once = once_more f.once;
          closed =
              λ j b h lb lj t'. earlier_next h (λ h'. let lj' : j < length rs = omega (arith, earlier_row h') in omega (arith, more_length, old_step j b (length rs) lj' (omega arith) (f.closed j b h' lb lj') t')) (λ p q. rw (p, q, same_row_lem i l, to) (omega (arith, last_number, more_length)));
          ordered =
              λ k pos lk. by (ltb k (length rs)) (λ e. let b = ltb-true k (length rs) e in discovered_more k b (f.ordered k pos b)) (λ e. let z : k ≡ length rs = omega (arith, ltb-false k (length rs) e, more_length) in rw z (discovered_last f l la t to));
        }

  found_with : {i a : ℕ} {rs : List A} → Found i a rs → i < length rs → a < g.letters → Found i (suc a) (rows_with g rs (row_at g rs i) a)
  found_with {i} {a} {rs} f l la =
      by ((g.step (row_at g rs i) a).there && leb (length rs) (number_of g (g.step (row_at g rs i) a).to rs)) added known
    where
      x : A
      x = (g.step (row_at g rs i) a).to

      added : (g.step (row_at g rs i) a).there && leb (length rs) (number_of g x rs) ≡ true → Found i (suc a) (rows_with g rs (row_at g rs i) a)
      added e =
          let r = and_parts (g.step (row_at g rs i) a).there (leb (length rs) (number_of g x rs)) e in
          rw e (found_more rs x (leb-true (length rs) (number_of g x rs) r.1) f l la r.0 refl)

      known : (g.step (row_at g rs i) a).there && leb (length rs) (number_of g x rs) ≡ false → Found i (suc a) (rows_with g rs (row_at g rs i) a)
      known e =
          rw e
          (record { some = f.some; front = f.front; once = f.once; closed = λ j b h lb lj t. earlier_next h (λ h'. f.closed j b h' lb lj t) (λ p q. rw (p, q) (now (rw (p, q) at t))); ordered = f.ordered })
        where
          now : (g.step (row_at g rs i) a).there ≡ true → number_of g x rs < length rs
          now t =
              by
              (leb (length rs) (number_of g x rs))
              (λ h. clash (and_both (g.step (row_at g rs i) a).there (leb (length rs) (number_of g x rs)) t h) e)
              (λ h. leb-false (length rs) (number_of g x rs) h)

  -- ---- the whole exploration
  pub with_longer : (rs : List A) (r : A) (a : ℕ) → length rs ≤ length (rows_with g rs r a)
  with_longer rs r a =
      by
      ((g.step r a).there && leb (length rs) (number_of g (g.step r a).to rs))
      (λ e. rw e (simp length-append (omega arith)))
      (λ e. rw e (omega arith))

  pub with_row : (rs : List A) (r : A) (a i : ℕ) → i < length rs → row_at g (rows_with g rs r a) i ≡ row_at g rs i
  with_row rs r a i l =
      by
      ((g.step r a).there && leb (length rs) (number_of g (g.step r a).to rs))
      (λ e. rw e (get_or-append rs ((g.step r a).to ∷ []) g.first i l))
      (λ e. rw e)

  -- the letters below a, then one more
  pub by_next : (n a : ℕ) (r : A) (rs : List A) → found_by (suc n) a g r rs ≡ rows_with g (found_by n a g r rs) r (a + n)
  by_next zero a r rs = let e : a + 0 ≡ a = omega arith in rw e
  by_next (suc n) a r rs = let e : suc a + n ≡ a + suc n = omega arith in by_next n (suc a) r (rows_with g rs r a) ∙ rw e

  pub by_grows : (d n a : ℕ) (r : A) (rs : List A) → length (found_by n a g r rs) ≤ length (found_by (d + n) a g r rs)
  by_grows zero n a r rs = let e : 0 + n ≡ n = omega arith in rw e (omega arith)
  by_grows (suc d) n a r rs =
      let e : suc d + n ≡ suc (d + n) = omega arith in
      rw (e, by_next (d + n) a r rs) (omega (arith, by_grows d n a r rs, with_longer (found_by (d + n) a g r rs) r (a + (d + n))))

  found_by_lem : (n : ℕ) {i a : ℕ} {rs : List A} (r : A) → Found i a rs → row_at g rs i ≡ r → i < length rs → a + n ≡ g.letters
      → Found i g.letters (found_by n a g r rs)
  found_by_lem zero {i} {a} {rs} r f e l h = let z : a ≡ g.letters = omega arith in rw z at f
  found_by_lem (suc n) {i} {a} {rs} r f e l h =
      found_by_lem n r (rw e at (found_with f l (omega arith))) (with_row rs r a i l ∙ e) (omega (arith, with_longer rs r a)) (omega arith)

  found_next : {i : ℕ} {rs : List A} → Found i g.letters rs → Found (suc i) 0 rs
  found_next {i} f =
      record {
        some = f.some;
        front = f.front;
        once = f.once;
        ordered = f.ordered;
        closed = λ j b h lb lj t. f.closed j b (earlier h lb) lb lj t;
      }
    where
      earlier : {j b : ℕ} → Earlier j b (suc i) 0 → b < g.letters → Earlier j b i g.letters
      earlier {j} h lb =
          ⊎_elim (λ l. by (ltb j i) (λ e. inl (ltb-true j i e)) (λ e. inr (omega (arith, ltb-false j i e), lb))) (λ p. absurd (omega arith))
          h

  pub from_on : (n i c : ℕ) (rs : List A) → ltb i (length rs) && leb (length rs) c ≡ true
      → found_from (suc n) i g c rs ≡ found_from n (suc i) g c (found_by g.letters 0 g (row_at g rs i) rs)
  from_on n i c rs e = rw (e, found_from)

  from_end : (n i c : ℕ) (rs : List A) → ltb i (length rs) && leb (length rs) c ≡ false → found_from (suc n) i g c rs ≡ rs
  from_end n i c rs e = rw (e, found_from)

  pub from_stop : (n i c : ℕ) (rs : List A) → ltb i (length rs) && leb (length rs) c ≡ false → found_from n i g c rs ≡ rs
  from_stop zero i c rs e = refl
  from_stop (suc n) i c rs e = from_end n i c rs e

  -- the rows found, all of them read unless there are too many
  record Explored (c : ℕ) (rs : List A) : Type 0 where
    read : ℕ
    rows : Found read 0 rs
    ended : (c < length rs) ⊎ (length rs ≤ read)

  found_from_lem : (n c : ℕ) {i : ℕ} {rs : List A} → Found i 0 rs → n + i ≡ suc c → Explored c (found_from n i g c rs)
  found_from_lem zero c {i} {rs} f h =
      record {
        read = i;
        rows = f;
        ended = by (ltb c (length rs)) (λ e. inl (ltb-true c (length rs) e)) (λ e. inr (omega (arith, ltb-false c (length rs) e)));
      }
  found_from_lem (suc n) c {i} {rs} f h =
      by
      (ltb i (length rs) && leb (length rs) c)
      (λ e. rw (from_on n i c rs e) (found_from_lem n c (found_next (found_by_lem g.letters (row_at g rs i) f refl (ltb-true i (length rs) (and_parts (ltb i (length rs)) (leb (length rs) c) e).0) (omega arith))) (omega arith)))
      (λ e. rw (from_end n i c rs e) (record { read = i; rows = f; ended = by (ltb i (length rs)) (λ p. inl (leb-false (length rs) c (rw p at e))) (λ p. inr (ltb-false i (length rs) p)) }))

  first_found : Found 0 0 (g.first ∷ [])
  first_found =
      record {
        some = omega arith;
        front = refl;
        once = alone;
        closed = λ j b h lb lj t. absurd (⊎_elim (λ (l : j < 0). omega arith) (λ (p : (j ≡ 0) × (b < 0)). omega arith) h);
        ordered = λ k pos l. absurd (omega arith);
      }
    where
      alone : (k : ℕ) → k < length (g.first ∷ []) → number_of g (row_at g (g.first ∷ []) k) (g.first ∷ []) ≡ k
      alone zero l = place_hit (g.same g.first) g.first [] (law.self g.first)
      alone (suc k) l = absurd (omega arith)

  explored : (c : ℕ) → Explored c (rows_of g c)
  unfolding rows_of
  explored c = found_from_lem (suc c) c first_found (omega arith)

  -- ---- what the rows found are
  module _ (c : ℕ) where
    abbrev rs : List A
    rs = rows_of g c

    some : 0 < length rs
    some = (explored c).rows.some

    first : row_at g rs 0 ≡ g.first
    first = (explored c).rows.front

    once : (k : ℕ) → k < length rs → number_of g (row_at g rs k) rs ≡ k
    once = (explored c).rows.once

    numbered : (r : A) → number_of g r rs < length rs → row_at g rs (number_of g r rs) ≡ r
    numbered r l = sym (law.equal r (row_at g rs (number_of g r rs)) (place_found (g.same r) g.first rs l))

    discovered : (k : ℕ) → 0 < k → k < length rs → Discovered g rs k
    discovered = (explored c).rows.ordered

    pub rows_distinct : Distinct g rs
    rows_distinct i j l lj e =
        let z : i ≡ j = sym (once i (omega arith)) ∙ ap (λ (r : A). number_of g r rs) e ∙ once j lj in
        omega arith

    reached_below : (n k : ℕ) → k < n → k < length rs → Reached g (row_at g rs k)
    reached_below zero k h l = absurd (omega arith)
    reached_below (suc n) zero h l = rw first first_row
    reached_below (suc n) (suc k) h l =
        let d = discovered (suc k) (omega arith) l in
        let before = d.from_before in
        subst (Reached g) d.found (next_row (reached_below n d.by_row (omega arith) (omega arith)) d.is_letter d.there)

    reached : (k : ℕ) → k < length rs → Reached g (row_at g rs k)
    reached k l = reached_below (suc k) k (omega arith) l

    complete : is_full g c ≡ false → {r : A} → Reached g r → number_of g r rs < length rs
    complete fits first_row =
        let h = place_least (g.same g.first) g.first rs 0 some (rw first (law.self g.first)) in
        omega (arith, some)
    complete fits (next_row {r = x} {a = a} h l t) =
        let n = complete fits h in
        let e = numbered x n in
        let few = ltb-false c (length rs) fits in
        let read : number_of g x rs < (explored c).read = ⊎_elim (λ m. omega arith) (λ m. omega arith) (explored c).ended in
        subst (λ (z : A). number_of g (g.step z a).to rs < length rs) e ((explored c).rows.closed (number_of g x rs) a (inl read) l n (rw e t))

    full : (is_full g c ≡ true) ↔ MoreThan g c
    full = (λ h. record { many = rs; more = ltb-true c (length rs) h; distinct = rows_distinct; reached = reached }, λ f. by (is_full g c) (λ e. e) (λ e. absurd (crowded e f)))
      where
        crowded : is_full g c ≡ false → MoreThan g c → ⊥
        crowded e f =
            let more = f.more in
            let few = ltb-false c (length rs) e in
            let n : ℕ → ℕ = λ k. number_of g (row_at g f.many k) rs in
            let p = pigeonhole (length rs) n (λ k l. complete e (f.reached k (omega arith))) in
            let below = p.2 in
            let within = p.3 in
            let at_i = numbered (row_at g f.many p.0) (complete e (f.reached p.0 (omega arith))) in
            let at_j = numbered (row_at g f.many p.1) (complete e (f.reached p.1 (omega arith))) in
            f.distinct p.0 p.1 below (omega arith) (sym at_i ∙ ap (row_at g rs) p.4 ∙ at_j)

    pub rows_view : RowsAre g c
    rows_view = record { some = some; first = first; once = once; numbered = numbered; discovered = discovered; reached = reached; complete = λ fits r h. complete fits h; full = full }
