-- A search over the arrays of the code.
--     at_last, below_last              a value at the last place
--     last_state, last_number, last_low, last_next, few_open, deep    what is known of the visit in hand
--     read_on                          letters of it are read
--     keep_visit, back_visit           it is put into the arrays, and taken back
--     count_few, enter_state           a state that is not yet met is visited
--     path_state                       a visit in the arrays is of a state
--     led_here, passed_letter          the visit before led here; the letter that leads to what is done is read
--     some_before, merged_last         it is joined to the visit before, where it leads lower than itself
use mathlib.Core.Path.{◌≡◌, refl, sym, ap, ◌∙◌}
use Rattle.rules.proofs.Bools.{clash}
use mathlib.Core.List.{List}
use Prim.Native.Nat.{ℕ, suc, ◌+◌, ◌-◌, ◌<◌, ◌≤◌}
use native.Mathlib.Numerals.{add-one}
use native.Mathlib.Omega.{arith}
use lib.ListN.{length, set, length-set}
use borrow.Author.Tests.{eq-eqb, ne_eqb}
use Rattle.rules.specs.Systems.{System}
use Rattle.components.specs.declared.walk.Open.{Open}
use Rattle.components.specs.declared.walk.States.{States}
use Rattle.components.specs.declared.walk.Visit.{Visit}
use Rattle.components.specs.Places.{done_number, at, Put}
use Rattle.components.specs.Visiting.{Searched, LettersRead}
use Rattle.components.specs.Walking.{Room, with_last, next_at, SearchedIn, KeptIn, entered, numbered, begun, kept, next_is, visit_at, JoinSays}
use Rattle.components.proofs.Stores.{put_set, same_or}
use Rattle.components.proofs.Placed.{room}
use Rattle.components.proofs.Visits.{path_differ, visited_few, agree, read, enter}
use Rattle.components.proofs.Closings.{merge}

-- ---- a value at the last place
pub at_last : (d v : ℕ) (f : ℕ → ℕ) → with_last d v f d ≡ v
at_last d v f = rw (eq-eqb d d refl)

pub below_last : (d v : ℕ) (f : ℕ → ℕ) (k : ℕ) → (k ≡ d → ⊥) → with_last d v f k ≡ f k
below_last d v f k h = rw (ne_eqb k d h)

put_last : (d v v' : ℕ) (f : ℕ → ℕ) → Put (with_last d v f) (with_last d v' f) d v'
put_last d v v' f = record { here = at_last d v' f; others = λ k h. below_last d v' f k h ∙ sym (below_last d v f k h) }

put_first : (d v : ℕ) (f g : ℕ → ℕ) → ((k : ℕ) → (k ≡ d → ⊥) → g k ≡ f k) → Put f (with_last d v g) d v
put_first d v f g h = record { here = at_last d v g; others = λ k n. below_last d v g k n ∙ h k n }

-- ---- the visit in hand
module _ (s : System) (marks : ℕ → ℕ → ℕ) (o : Open) (t : States) (v : Visit) (x : SearchedIn s marks o t v) where
  abbrev d : ℕ
  d = o.depth

  abbrev number : ℕ → ℕ
  number = at t.numbers.now

  abbrev path : ℕ → ℕ
  path = with_last d v.state (at o.path.now)

  path_last : path d ≡ v.state
  path_last = at_last d v.state (at o.path.now)

  pub last_state : v.state < s.states
  last_state = rw path_last at (x.searched.visited.state d (omega arith))

  pub last_number : (0 < number v.state) × (number v.state ≤ o.count)
  last_number = (rw path_last at (x.searched.visited.met d (omega arith)), rw path_last at (x.searched.visited.within d (omega arith)))

  pub last_low : (0 < v.low) × (v.low ≤ number v.state)
  last_low =
      let e = at_last d v.low (at o.lows.now) in
      (rw e at (x.searched.reads.some d (omega arith)), rw (e, path_last) at (x.searched.reads.lower d (omega arith)))

  pub last_next : v.next ≤ s.letters
  last_next = rw (at_last d v.next (next_at o t)) at (x.searched.reads.upto d (omega arith))

  pub few_open : o.count ≤ s.states
  few_open = x.searched.places.few

  pub deep : o.depth < s.states
  deep = omega (arith, x.searched.places.few, visited_few s o.count (suc d) number (at o.stack.now) path x.searched.places x.searched.visited)

  -- letters are read
  pub read_on : (u : Visit) → u.state ≡ v.state → LettersRead s marks number v.state v.next u.next v.low u.low v.set u.set → SearchedIn s marks o t u
  read_on u h y =
      let e : suc d - 1 ≡ d = omega arith in
      record {
        room = x.room;
        searched = rw h (read s marks o.count (suc d) number (at o.stack.now) path _ _ _ x.searched x.room.small (omega arith) u.next u.low u.set
            (rw (e, path_last, at_last d v.next (next_at o t), at_last d v.low (at o.lows.now), at_last d v.set (at o.sets.now)) y) _ _ _
            (rw e (put_last d v.next u.next (next_at o t))) (rw e (put_last d v.low u.low (at o.lows.now))) (rw e (put_last d v.set u.set (at o.sets.now))));
      }

  -- the visit is put into the arrays
  pub keep_visit : v.set < 256 → KeptIn s marks (kept v o) (next_is v.state v.next t)
  keep_visit byte =
      record {
        room = record {
          small = x.room.small;
          letters_small = x.room.letters_small;
          numbers = x.room.numbers;
          beyond = x.room.beyond;
          nexts = simp length-set x.room.nexts;
          stack = x.room.stack;
          path = simp length-set x.room.path;
          lows = simp length-set x.room.lows;
          sets = simp length-set x.room.sets;
          bytes = λ k h. same_or k d (λ e. rw (e, stored o.sets.now v.set (omega (arith, deep, x.room.sets)) d, at_last d v.set (at o.sets.now)) byte) (λ n. rw (stored o.sets.now v.set (omega (arith, deep, x.room.sets)) k, below_last d v.set (at o.sets.now) k n) (x.room.bytes k (omega arith)));
        };
        searched = rw (add-one d) (agree s marks o.count (suc d) number (at o.stack.now) path _ _ _ x.searched _ _ _ _ same_path same_next
            (λ k h. stored o.lows.now v.low (omega (arith, deep, x.room.lows)) k) (λ k h. stored o.sets.now v.set (omega (arith, deep, x.room.sets)) k));
      }
    where
      stored : (xs : List ℕ) (u : ℕ) → d < length xs → (k : ℕ) → at (set xs d u) k ≡ with_last d u (at xs) k
      stored xs u l k =
          let p = put_set xs d u l in
          same_or k d (λ e. rw e (p.here ∙ sym (at_last d u (at xs)))) (λ n. p.others k n ∙ sym (below_last d u (at xs) k n))

      same_path : (k : ℕ) → k < suc d → at (set o.path.now d v.state) k ≡ path k
      same_path k h = stored o.path.now v.state (omega (arith, deep, x.room.path)) k

      same_next : (k : ℕ) → k < suc d → at (set t.nexts.now v.state v.next) (at (set o.path.now d v.state) k) ≡ with_last d v.next (next_at o t) k
      same_next k h =
          let p = put_set t.nexts.now v.state v.next (omega (arith, last_state, x.room.nexts)) in
          same_or k d
          (λ e. rw (same_path k h, e, path_last, at_last d v.next (next_at o t)) p.here)
          (λ n. rw (same_path k h, below_last d v.next (next_at o t) k n)
          (p.others (path k) (λ e. n (path_differ s o.count (suc d) number (at o.stack.now) path x.searched.places x.searched.visited k d h (omega arith) (e ∙ sym path_last)))
          ∙ ap (at t.nexts.now) (below_last d v.state (at o.path.now) k n)))

  before_path : (k : ℕ) → k < d → path k ≡ at o.path.now k
  before_path k h = below_last d v.state (at o.path.now) k (λ e. omega arith)

  pub path_state : (k : ℕ) → k < d → at o.path.now k < s.states
  path_state k h = rw (before_path k h) at (x.searched.visited.state k (omega arith))

  before_next : (k : ℕ) → k < d → with_last d v.next (next_at o t) k ≡ next_at o t k
  before_next k h = below_last d v.next (next_at o t) k (λ e. omega arith)

  -- the visit before led here
  pub led_here : 0 < d → (next_at o t (d - 1) < s.letters) × (s.go (at o.path.now (d - 1)) (next_at o t (d - 1)) ≡ v.state)
  led_here some =
      let e : suc (d - 1) ≡ d = omega arith in
      let l : d - 1 < d = omega arith in (
        rw (before_next (d - 1) l) at (x.searched.reads.letter (d - 1) (omega arith)),
        rw (before_path (d - 1) l, before_next (d - 1) l, e, at_last d v.state (at o.path.now)) at (x.searched.reads.led (d - 1) (omega arith)),
      )

  -- the letter that is read next leads to what is done
  pub passed_letter : v.next < s.letters → (s.go v.state v.next < s.states → number (s.go v.state v.next) ≡ done_number) → SearchedIn s marks o t (record v { next = v.next + 1 })
  passed_letter la done =
      read_on (record v { next = v.next + 1 }) refl
      (record {
        upto = omega arith;
        met = λ a f u l w. let e : a ≡ v.next = omega arith in rw (e, done (rw e at w)) (omega arith);
        lower = omega arith;
        least = λ a f u l w. let e : a ≡ v.next = omega arith in rw (e, done (rw e at w)) (omega (arith, last_low, last_number, few_open, x.room.small));
        low_met = λ h. absurd (omega arith);
        kept = λ i h. h;
        held = λ a i f u l w n m. let e : a ≡ v.next = omega arith in absurd (n (rw e (done (rw e at w))));
        real = λ i z h. clash h z;
      })

  module _ (over : s.letters ≤ v.next) where
    last_over : s.letters ≤ with_last d v.next (next_at o t) (suc d - 1)
    last_over = let e : suc d - 1 ≡ d = omega arith in rw (e, at_last d v.next (next_at o t)) over

    -- it leads lower than itself
    module _ (low : v.low < number v.state) where
      pub some_before : 0 < d
      some_before =
          same_or d 0
          (λ e. absurd (omega (arith, low, last_low, x.searched.visited.first (omega arith), ap number (ap path (sym e) ∙ path_last))))
          (λ n. omega arith)

      module _ (r : Visit) (j : JoinSays marks (visit_at o t (d - 1)) v r) where
        abbrev b : ℕ
        b = d - 1

        before : b < d
        before = omega (arith, some_before)

        abbrev next' : ℕ → ℕ
        next' = with_last b (suc (next_at o t b)) (with_last d v.next (next_at o t))

        abbrev low' : ℕ → ℕ
        low' = with_last b r.low (with_last d v.low (at o.lows.now))

        abbrev set' : ℕ → ℕ
        set' = with_last b r.set (with_last d v.set (at o.sets.now))

        joined : Searched s marks o.count d number (at o.stack.now) path next' low' set'
        joined =
            let e : suc d - 1 ≡ d = omega arith in
            let f : suc d - 2 ≡ b = omega arith in
            let low_before = below_last d v.low (at o.lows.now) b (λ z. omega (arith, before)) in
            let set_before = below_last d v.set (at o.sets.now) b (λ z. omega (arith, before)) in
            rw e at (merge s marks o.count (suc d) number (at o.stack.now) path _ _ _ x.searched x.room.small (omega (arith, some_before)) last_over
            (rw (e, at_last d v.low (at o.lows.now), path_last) low)
            r.low r.set (rw (f, low_before) j.lower.0) (rw (e, at_last d v.low (at o.lows.now)) j.lower.1) (λ h. rw (e, at_last d v.low (at o.lows.now)) (j.either (rw (f, low_before) at h)))
            (λ i. rw (f, e, set_before, at_last d v.set (at o.sets.now), before_path b before, before_next b before) (j.set i))
            next' low' set'
            (rw (f, before_next b before) (put_first b (suc (next_at o t b)) _ _ (λ k n. refl))) (rw f (put_first b r.low _ _ (λ k n. refl))) (rw f (put_first b r.set _ _ (λ k n. refl))))

        chosen : (u v' : ℕ) (f h : ℕ → ℕ) → u ≡ v' → ((k : ℕ) → k < d → h k ≡ f k) → (k : ℕ) → k < d → with_last b v' f k ≡ with_last b u h k
        chosen u v' f h e same k l =
            same_or k b
            (λ z. rw (z, at_last b v' f, at_last b u h) (sym e))
            (λ n. rw (below_last b v' f k n, below_last b u h k n) (sym (same k l)))

        same_path : (k : ℕ) → k < d → with_last b r.state (at o.path.now) k ≡ path k
        same_path k l = same_or k b (λ z. rw (z, at_last b r.state (at o.path.now), before_path b before) j.state) (λ n. rw (below_last b r.state (at o.path.now) k n, before_path k l) refl)

        same_next : (k : ℕ) → k < d → with_last b r.next (next_at o t) k ≡ next' k
        same_next k l = chosen (suc (next_at o t b)) r.next (next_at o t) _ (omega (arith, j.next)) (λ i h. before_next i h) k l

        same_low : (k : ℕ) → k < d → with_last b r.low (at o.lows.now) k ≡ low' k
        same_low k l = chosen r.low r.low (at o.lows.now) _ refl (λ i h. below_last d v.low (at o.lows.now) i (λ e. omega arith)) k l

        same_set : (k : ℕ) → k < d → with_last b r.set (at o.sets.now) k ≡ set' k
        same_set k l = chosen r.set r.set (at o.sets.now) _ refl (λ i h. below_last d v.set (at o.sets.now) i (λ e. omega arith)) k l

        back_room : Room s (record o { depth = d - 1 }) t
        back_room =
            record {
              small = x.room.small;
              letters_small = x.room.letters_small;
              numbers = x.room.numbers;
              beyond = x.room.beyond;
              nexts = x.room.nexts;
              stack = x.room.stack;
              path = x.room.path;
              lows = x.room.lows;
              sets = x.room.sets;
              bytes = λ k h. x.room.bytes k (omega arith);
            }

        pub merged_last : SearchedIn s marks (record o { depth = d - 1 }) t r
        merged_last =
            let g : suc (d - 1) ≡ d = omega (arith, some_before) in
            record { room = back_room; searched = rw g (agree s marks o.count d _ _ _ _ _ _ joined _ _ _ _ same_path same_next same_low same_set) }

-- ---- all visits are in the arrays
module _ (s : System) (marks : ℕ → ℕ → ℕ) (o : Open) (t : States) (x : KeptIn s marks o t) where
  -- the last visit is taken back
  pub back_visit : 0 < o.depth → SearchedIn s marks (record o { depth = o.depth - 1 }) t (visit_at o t (o.depth - 1))
  back_visit some =
      let e : suc (o.depth - 1) ≡ o.depth = omega arith in
      record {
        room = record {
          small = x.room.small;
          letters_small = x.room.letters_small;
          numbers = x.room.numbers;
          beyond = x.room.beyond;
          nexts = x.room.nexts;
          stack = x.room.stack;
          path = x.room.path;
          lows = x.room.lows;
          sets = x.room.sets;
          bytes = λ k h. x.room.bytes k (omega arith);
        };
        searched = rw e (agree s marks o.count o.depth _ _ _ _ _ _ x.searched _ _ _ _ (λ k h. whole (at o.path.now) k) (λ k h. whole (next_at o t) k) (λ k h. whole (at o.lows.now) k) (λ k h. whole (at o.sets.now) k));
      }
    where
      whole : (f : ℕ → ℕ) (k : ℕ) → with_last (o.depth - 1) (f (o.depth - 1)) f k ≡ f k
      whole f k = same_or k (o.depth - 1) (λ e. rw e (at_last (o.depth - 1) (f (o.depth - 1)) f)) (λ n. below_last (o.depth - 1) (f (o.depth - 1)) f k n)

  -- a state that is not yet met is visited
  module _ (w : ℕ) (lw : w < s.states) (z : at t.numbers.now w ≡ 0)
      (led : 0 < o.depth → (next_at o t (o.depth - 1) < s.letters) × (s.go (at o.path.now (o.depth - 1)) (next_at o t (o.depth - 1)) ≡ w))
    where
      pub count_few : o.count < s.states
      count_few = room s o.count (at t.numbers.now) (at o.stack.now) x.searched.places w lw z

      pub enter_state : SearchedIn s marks (entered w o) (numbered w (o.count + 1) t) (begun w (o.count + 1))
      enter_state =
          let put = put_set t.numbers.now w (o.count + 1) (omega (arith, x.room.numbers)) in
          record {
            room = record {
              small = x.room.small;
              letters_small = x.room.letters_small;
              numbers = simp length-set x.room.numbers;
              beyond = λ q l u. put.others q (λ e. omega arith) ∙ x.room.beyond q l (simp length-set at u);
              nexts = x.room.nexts;
              stack = simp length-set x.room.stack;
              path = x.room.path;
              lows = x.room.lows;
              sets = x.room.sets;
              bytes = x.room.bytes;
            };
            searched = rw (add-one o.count) (enter s marks o.count o.depth _ _ _ _ _ _ x.searched x.room.small w lw z led _ _ _ _ _ _ (rw (add-one o.count) at put)
                (put_set o.stack.now o.count w (omega (arith, count_few, x.room.stack))) (put_first o.depth w (at o.path.now) (at o.path.now) (λ k n. refl))
                (put_first o.depth 0 (next_at o t) (next_at o t) (λ k n. refl)) (put_first o.depth (suc o.count) (at o.lows.now) (at o.lows.now) (λ k n. refl)) (put_first o.depth 0 (at o.sets.now) (at o.sets.now) (λ k n. refl)));
          }
