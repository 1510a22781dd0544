-- A search from one state, and from several.
--     progress_then                              what turns keep, one after another
--     WalkUnderway, walk_begun, walk_on, walk_all    a search from a state
--     turn_less                                  the turns that are left become fewer
--     met_already                                a state that is met already
--     WalksUnderway, walks_none, walks_more, walks_all, walks_left    a search from several states
use mathlib.Core.Path.{◌≡◌, refl, ◌∙◌}
use mathlib.Core.Bool.{Bool, true, false, ◌&&◌}
use mathlib.Core.List.{List}
use Prim.Native.Nat.{ℕ, ◌+◌, ◌<◌, ◌≤◌}
use native.Mathlib.Omega.{arith}
use lib.Dec.{eqb, ltb, leb}
use lib.ListN.{set}
use borrow.Author.Tests.{eqb-true, eqb-false, lt-ltb, le-ltb, ltb-true, le-leb, leb-true}
use Rattle.std.specs.Prelude.{Option, None, Some, is_some, IfSome}
use Rattle.rules.specs.Basics.{any_below}
use Rattle.rules.specs.Systems.{System, reaches}
use Rattle.rules.proofs.Bools.{by, clash, and_parts}
use Rattle.rules.proofs.Reach.{reaches_view}
use Rattle.rules.proofs.Reaching.{reaches_refl, reaches_trans, kept_along}
use Rattle.rules.proofs.Sets.{below_find, below_intro}
use Rattle.components.specs.declared.walk.Open.{Open}
use Rattle.components.specs.declared.walk.States.{States}
use Rattle.components.specs.declared.walk.Visit.{Visit}
use Rattle.components.specs.Places.{done_number, at, Put}
use Rattle.components.specs.Visiting.{Searched}
use Rattle.components.specs.Handing.{Holds, Lasts}
use Rattle.components.specs.Walking.{done_in, Room, next_at, SearchedIn, KeptIn, entered, numbered, begun, ClosedTest, MetIn, Progress, to_do, turns_left, TurnSays, WalkSays, SearchSays}
use Rattle.components.proofs.Stores.{put_set, same_or}
use Rattle.components.proofs.InArrays.{enter_state}
use Rattle.components.proofs.Turns.{progress_none}

module _ {T : Type 0} (s : System) (marks : ℕ → ℕ → ℕ) (holds : Holds T) where
  pub progress_then : (t t' t'' : States) (x x' x'' : T) → Progress s marks holds t t' x x' → Progress s marks holds t' t'' x' x'' → Progress s marks holds t t'' x x''
  progress_then t t' t'' x x' x'' p q =
      record {
        met = λ i l h. q.met i l (p.met i l h);
        rest = λ i h. q.rest i h ∙ p.rest i (λ l. unmet i l (h l));
        size = q.size ∙ p.size;
        same = q.same ∙ p.same;
        takes = λ h. q.takes (p.takes h);
      }
    where
      -- what is not met at the end was not met before
      unmet : (i : ℕ) → i < s.states → at t''.numbers.now i ≡ 0 → at t'.numbers.now i ≡ 0
      unmet i l z = by (eqb (at t'.numbers.now i) 0) (λ e. eqb-true _ _ e) (λ e. absurd (omega (arith, q.met i l (omega (arith, eqb-false (at t'.numbers.now i) 0 e)))))

  -- a search from a state, since it began
  pub record WalkUnderway (root : ℕ) (o : Open) (t₀ t : States) (x₀ x : T) (last : Option Visit) : Type 0 where
    pub on : IfSome last (λ v. SearchedIn s marks o t v)
    pub over : is_some last ≡ false → (o.count ≡ 0) × (o.depth ≡ 0) × KeptIn s marks o t
    pub root_met : 0 < at t.numbers.now root
    pub only : (b : ℕ → Bool) → ClosedTest s b → b root ≡ true → MetIn s b t₀ → MetIn s b t
    pub progress : Progress s marks holds t₀ t x₀ x

  pub walk_on : (root : ℕ) (o o' : Open) (t₀ t t' : States) (x₀ x x' : T) (v : Visit) (r : Option Visit) → root < s.states → WalkUnderway root o t₀ t x₀ x (Some v)
      → TurnSays s marks holds o o' t t' x x' r → WalkUnderway root o' t₀ t' x₀ x' r
  walk_on root o o' t₀ t t' x₀ x x' v r lr w y =
      record {
        on = going r y.on;
        over = λ e. let h = y.over e in (h.0, h.1, h.2);
        root_met = y.progress.met root lr w.root_met;
        only = λ b c h m. y.only b c (w.only b c h m);
        progress = progress_then t₀ t t' x₀ x x' w.progress y.progress;
      }
    where
      going : (r : Option Visit) → IfSome r (λ v. SearchedIn s marks o' t' v × (to_do o' t' < to_do o t)) → IfSome r (λ v. SearchedIn s marks o' t' v)
      going (Some v) h = h.0
      going None h = tt

  -- the turns that are left become fewer
  pub turn_less : (o o' : Open) (t t' : States) (x x' : T) (r : Option Visit) → TurnSays s marks holds o o' t t' x x' r → turns_left o' t' r < 1 + to_do o t
  turn_less o o' t t' x x' (Some v) y = omega (arith, y.on.1)
  turn_less o o' t t' x x' None y = omega (arith, (y.over refl).3)

  pub walk_all : (root : ℕ) (o₀ o : Open) (t₀ t : States) (x₀ x : T) (last : Option Visit) → is_some last ≡ false → WalkUnderway root o t₀ t x₀ x last
      → WalkSays s marks holds root o₀ o t₀ t x₀ x
  walk_all root o₀ o t₀ t x₀ x last e w =
      let h = w.over e in
      record { after = h.2; none = (h.0, h.1); root_met = w.root_met; only = w.only; progress = w.progress }

  -- a state that is met already
  pub met_already : (root : ℕ) (o : Open) (t : States) (x : T) → KeptIn s marks o t → o.count ≡ 0 → o.depth ≡ 0 → 0 < at t.numbers.now root
      → WalkSays s marks holds root o o t t x x
  met_already root o t x k c d n = record { after = k; none = (c, d); root_met = n; only = λ b c h m. m; progress = progress_none s marks holds t x }

  -- a search begins
  pub walk_begun : Lasts holds → (root : ℕ) (o : Open) (t : States) (x : T) → KeptIn s marks o t → o.count ≡ 0 → o.depth ≡ 0 → root < s.states → at t.numbers.now root ≡ 0
      → WalkUnderway root (entered root o) t (numbered root (o.count + 1) t) x x (Some (begun root (o.count + 1)))
  walk_begun lasts root o t x k c d l z =
      record {
        on = enter_state s marks o t k root l z (λ h. absurd (omega (arith, h, d)));
        over = λ e. clash refl e;
        root_met = rw put.here (omega arith);
        only = λ b c h m q lq n. same_or q root (λ e. rw e h) (λ f. m q lq (rw (put.others q f) at n));
        progress = record {
          met = λ q lq n. same_or q root (λ e. rw (e, put.here) (omega arith)) (λ f. rw (put.others q f) n);
          rest = λ q h. refl;
          size = refl;
          same = refl;
          takes = λ h. lasts x _ _ s marks _ _ h refl same (λ q e. refl);
        };
      }
    where
      put : Put (at t.numbers.now) (at (set t.numbers.now root (o.count + 1))) root (o.count + 1)
      put = put_set t.numbers.now root (o.count + 1) (omega (arith, k.room.numbers))

      same : (q : ℕ) → done_in s (set t.numbers.now root (o.count + 1)) q ≡ done_in s t.numbers.now q
      same q = same_or q root (λ e. rw (e, put.here, z, c) refl) (λ f. rw (put.others q f))

  -- several searches, one after the other, since the first began
  pub record WalksUnderway (lo hi : ℕ) (o : Open) (t₀ t : States) (x₀ x : T) : Type 0 where
    pub now : KeptIn s marks o t
    pub none : (o.count ≡ 0) × (o.depth ≡ 0)
    pub met : (r : ℕ) → lo ≤ r → r < hi → 0 < at t.numbers.now r
    pub only : (b : ℕ → Bool) → ClosedTest s b → ((r : ℕ) → lo ≤ r → r < hi → b r ≡ true) → MetIn s b t
    pub progress : Progress s marks holds t₀ t x₀ x

  pub walks_none : (lo : ℕ) (o : Open) (t : States) (x : T) → Room s o t → o.count ≡ 0 → o.depth ≡ 0 → ((q : ℕ) → q < s.states → at t.numbers.now q ≡ 0)
      → WalksUnderway lo lo o t t x x
  walks_none lo o t x room c d z =
      record {
        now = record { room = room; searched = rw (c, d) searched };
        none = (c, d);
        met = λ r l h. absurd (omega arith);
        only = λ b c h q l n. absurd (omega (arith, z q l));
        progress = progress_none s marks holds t x;
      }
    where
      searched : Searched s marks 0 0 (at t.numbers.now) (at o.stack.now) (at o.path.now) (next_at o t) (at o.lows.now) (at o.sets.now)
      searched =
          record {
            places = record {
              few = omega arith;
              state = λ i h. absurd (omega arith);
              numbered = λ i h. absurd (omega arith);
              placed = λ q l n h. absurd (omega (arith, z q l));
              done = λ q l h. absurd (omega (arith, z q l));
            };
            visited = record {
              some = λ h. absurd (omega arith);
              state = λ i h. absurd (omega arith);
              met = λ i h. absurd (omega arith);
              within = λ i h. absurd (omega arith);
              first = λ h. absurd (omega arith);
              order = λ i j f h. absurd (omega arith);
              forth = λ i h. absurd (omega arith);
              back = λ i h n. absurd (omega arith);
            };
            reads = record {
              upto = λ i h. absurd (omega arith);
              letter = λ i h. absurd (omega arith);
              led = λ i h. absurd (omega arith);
              some = λ i h. absurd (omega arith);
              lower = λ i h. absurd (omega arith);
              low_met = λ i h. absurd (omega arith);
              least = λ i q a h l u la r w. absurd (omega arith);
              held = λ i q a b h l u la r w n m. absurd (omega arith);
              real = λ i b h m. absurd (omega arith);
            };
            closed = λ q a l h la w. absurd (omega (arith, z q l));
          }

  pub walks_more : (lo hi : ℕ) (o o' : Open) (t₀ t t' : States) (x₀ x x' : T) → lo ≤ hi → hi < s.states → WalksUnderway lo hi o t₀ t x₀ x
      → WalkSays s marks holds hi o o' t t' x x' → WalksUnderway lo (hi + 1) o' t₀ t' x₀ x'
  walks_more lo hi o o' t₀ t t' x₀ x x' up l w y =
      record {
        now = y.after;
        none = y.none;
        met = λ r a b. same_or r hi (λ e. rw e y.root_met) (λ f. y.progress.met r (omega arith) (w.met r a (omega arith)));
        only = λ b c h. y.only b c (h hi up (omega arith)) (w.only b c (λ r f l. h r f (omega arith)));
        progress = progress_then t₀ t t' x₀ x x' w.progress y.progress;
      }

  -- what they leave
  module _ (lasts : Lasts holds) (lo hi : ℕ) (o : Open) (t₀ t : States) (x₀ x : T) (up : hi ≤ s.states) (none : (q : ℕ) → q < s.states → at t₀.numbers.now q ≡ 0)
      (w : WalksUnderway lo hi o t₀ t x₀ x)
    where
      abbrev number : ℕ → ℕ
      number = at t.numbers.now

      -- what is met is done
      met_done : (q : ℕ) → q < s.states → 0 < number q → number q ≡ done_number
      met_done q l n = w.now.searched.places.done q l (omega (arith, w.none.0))

      abbrev IsDone : ℕ → Type 0
      IsDone q = (q < s.states) × (number q ≡ done_number)

      reached_done : (r q : ℕ) → lo ≤ r → r < hi → reaches s r q ≡ true → IsDone q
      reached_done r q a b h =
          kept_along s IsDone (λ p c d la u. (u, w.now.searched.closed p c d.0 d.1 la u)) ((reaches_view s r q).0 h).1 (omega arith, met_done r (omega arith) (w.met r a b))

      is_done : (q : ℕ) → IsDone q → done_in s t.numbers.now q ≡ true
      is_done q h = rw (lt-ltb q s.states h.0, h.1) refl

      no_state : (q : ℕ) → s.states ≤ q → done_in s t.numbers.now q ≡ false
      no_state q l = rw (le-ltb q s.states l) refl

      not_met : (q : ℕ) → done_in s t.numbers.now q ≡ false → q < s.states → number q ≡ 0
      not_met q h l = same_or (number q) 0 (λ e. e) (λ f. clash (is_done q (l, met_done q l (omega arith))) h)

      -- some state from lo up to hi reaches q
      abbrev leads : ℕ → ℕ → Bool
      leads q r = leb lo r && reaches s r q

      abbrev is_reached : ℕ → Bool
      is_reached q = any_below hi (leads q)

      reached_by : (q : ℕ) → is_reached q ≡ true → (r : ℕ) × (lo ≤ r) × (r < hi) × (reaches s r q ≡ true)
      reached_by q h =
          let f = below_find hi (leads q) h in
          let a = and_parts (leb lo f.0) (reaches s f.0 q) f.2 in
          (f.0, leb-true lo f.0 a.0, f.1, a.1)

      reached_from : (r q : ℕ) → lo ≤ r → r < hi → reaches s r q ≡ true → is_reached q ≡ true
      reached_from r q a b h = below_intro hi (leads q) r b (rw (le-leb lo r a, h) refl)

      unreached : (q : ℕ) → q < s.states → ((r : ℕ) → lo ≤ r → r < hi → reaches s r q ≡ false) → done_in s t.numbers.now q ≡ false
      unreached q l none = same_or (number q) 0 (λ e. rw (lt-ltb q s.states l, e) refl) (λ f. found (reached_by q (w.only is_reached closed (λ r a b. reached_from r r a b (reaches_refl s r)) q l (omega arith))))
        where
          closed : ClosedTest s is_reached
          closed p i h g = let f = reached_by p h in reached_from f.0 i f.1 f.2 (reaches_trans s f.0 p i f.3 g)

          found : (r : ℕ) × (lo ≤ r) × (r < hi) × (reaches s r q ≡ true) → done_in s t.numbers.now q ≡ false
          found f = clash f.3 (none f.0 f.1 f.2)

      pub walks_all : SearchSays s marks holds lo hi t₀.nexts.now t.nexts.now x₀ x
      walks_all =
          record {
            size = w.progress.size;
            taken = (
              done_in s t.numbers.now,
              record {
                reached = λ r q a b l d. is_done q (reached_done r q a b d);
                others = unreached;
                states = no_state;
              },
              (λ q d. w.progress.rest q (λ l. not_met q d l)),
              λ h. w.progress.takes (lasts x₀ _ _ s marks _ _ h refl (λ q. fresh q) (λ q d. refl)),
            );
          }
        where
          fresh : (q : ℕ) → done_in s t₀.numbers.now q ≡ false
          fresh q = by (ltb q s.states) (λ e. rw (e, none q (ltb-true q s.states e)) refl) (λ e. rw e refl)

  -- the entries at the end are what the search has left
  pub walks_left : (lo hi : ℕ) (es es' es'' : List ℕ) (x₀ x : T) → SearchSays s marks holds lo hi es es' x₀ x → es'' ≡ es' → SearchSays s marks holds lo hi es es'' x₀ x
  walks_left lo hi es es' es'' x₀ x y e = rw e y
