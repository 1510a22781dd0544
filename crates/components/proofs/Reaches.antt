-- A search from one state on, for any system and whatever the arrays are.
--     reached_old, reached_new                                                  one letter more, to a state that is met or not
--     reached_path                                                              a path leads to every state that is met, with fewer letters than its number
--     untouched_none, untouched_then                                            entries past the states that are met: nothing is written, one writing after another
--     Reaching, reach_room_kept, reaching_more                                  the search underway
--     read_old, reaching_all                                                    a letter leads to nothing new; all letters are read
--     FromEarlier, LeadsOn, Leading, leading_none, leading_more, leading_all    a path written from its end
--     reached_exact                                                             when all letters are read, what is met is what is reached
use mathlib.Core.Path.{◌≡◌, refl, sym, ap, ◌∙◌}
use mathlib.Core.Bool.{Bool, false, not, ◌&&◌}
use mathlib.Core.List.{List, [], ◌∷◌, ◌++◌}
use mathlib.Core.Logic.{◌↔◌}
use Prim.Native.Nat.{ℕ, zero, suc, ◌+◌, ◌-◌, ◌<◌, ◌≤◌}
use native.Mathlib.Numerals.{add-one}
use native.Mathlib.Nat.{le_antisymm}
use native.Mathlib.Omega.{arith}
use lib.Dec.{eqb, ltb}
use lib.ListN.{length, take, drop, set, length-append}
use lib.Seq.{drop-cons, drop-length, drop-set-lt, get_or-set_same, lt-length-set, take-set-le, take-take}
use borrow.Author.Tests.{eqb-true, lt-ltb}
use Rattle.rules.specs.Systems.{System, Path, here, step, Leads}
use Rattle.rules.proofs.Bools.{by, clash}
use Rattle.rules.proofs.Filling.{beyond_none, beyond_then, beyond_wider}
use Rattle.rules.proofs.Reach.{path_append}
use Rattle.components.specs.Places.{at, Put}
use Rattle.components.specs.declared.reach.Met.{Met}
use Rattle.components.specs.Reaches.{Came, Queued, Untouched, ReachSays}
use Rattle.components.specs.Meeting.{ReachRoom, QueuedIn, SameArrays, ReadSays}
use Rattle.components.specs.Calls.{PathFound}
use Rattle.rules.proofs.Reaching.{kept_along}
use Rattle.components.proofs.Placed.{room}
use Rattle.components.proofs.Stores.{same_or}

module _ (s : System) (from c k a : ℕ) (number queue parent letter : ℕ → ℕ) (x : Queued s from c k a number queue parent letter) where
  pub reached_old : (s.go (queue k) a < s.states → 0 < number (s.go (queue k) a)) → Queued s from c k (a + 1) number queue parent letter
  reached_old h =
      record {
        places = x.places;
        low = x.low;
        some = x.some;
        first = x.first;
        came = x.came;
        closed = x.closed;
        part = λ b l t. same_or b a (λ e. rw e (h (rw e at t))) (λ d. x.part b (omega arith) t);
      }

  module _ (lk : k < c) (la : a < s.letters) (lt : s.go (queue k) a < s.states) (fresh : number (s.go (queue k) a) ≡ 0)
      (number' queue' parent' letter' : ℕ → ℕ)
      (pn : Put number number' (s.go (queue k) a) (suc c)) (pq : Put queue queue' c (s.go (queue k) a)) (pp : Put parent parent' c k) (pl : Put letter letter' c a)
    where
      abbrev w : ℕ
      w = s.go (queue k) a

      old_place : (i : ℕ) → i < c → queue' i ≡ queue i
      old_place i h = pq.others i (λ e. omega arith)

      old_number : (q : ℕ) → 0 < number q → number' q ≡ number q
      old_number q h = pn.others q (λ e. omega (arith, ap number e))

      met_still : (q : ℕ) → 0 < number q → 0 < number' q
      met_still q h = rw (old_number q h) h

      low_more : (q : ℕ) → q < s.states → number' q ≤ suc c
      low_more q lq = same_or q w (λ e. rw (e, pn.here) (omega arith)) (λ d. omega (arith, pn.others q d, x.low q lq))

      came_more : (i : ℕ) → 0 < i → i < suc c → Came s queue' parent' letter' i
      came_more i h g =
          same_or i c
          (λ e. rw e (record { earlier = rw pp.here lk; is_letter = rw pl.here la; leads = rw (pp.here, pl.here, pq.here, old_place k lk) refl }))
          (λ d. older (omega arith) (x.came i h (omega arith)))
        where
          older : i < c → Came s queue parent letter i → Came s queue' parent' letter' i
          older b y =
              let ep = pp.others i (λ e. omega arith) in
              let el = pl.others i (λ e. omega arith) in
              record { earlier = rw ep y.earlier; is_letter = rw el y.is_letter; leads = rw (ep, el, old_place (parent i) (omega (arith, y.earlier)), old_place i b) y.leads }

      pub reached_new : Queued s from (c + 1) k (a + 1) number' queue' parent' letter'
      reached_new =
          rw (add-one c)
          (record {
            places = record {
              few = room s c number queue x.places w lt fresh;
              state = λ i h. same_or i c (λ e. rw (e, pq.here) lt) (λ d. rw (old_place i (omega arith)) (x.places.state i (omega arith)));
              numbered = λ i h. same_or i c (λ e. rw (e, pq.here) pn.here) (λ d. older i (omega arith));
              placed = λ q lq nq oq. same_or q w (λ e. let f : suc c - 1 ≡ c = omega arith in rw (e, pn.here, f) pq.here) (λ d. let n = pn.others q d in rw n (again q lq (rw n at nq)));
              done = λ q lq h. absurd (omega (arith, low_more q lq));
            };
            low = low_more;
            some = omega arith;
            first = old_place 0 (omega (arith, x.some)) ∙ x.first;
            came = came_more;
            closed = λ i b h lb t. let e = old_place i (omega arith) in rw e (met_still _ (x.closed i b h lb (rw e at t)));
            part = λ b h t. let e = old_place k lk in rw e (same_or b a (λ f. rw (f, pn.here) (omega arith)) (λ d. met_still _ (x.part b (omega arith) (rw e at t))));
          })
        where
          older : (i : ℕ) → i < c → number' (queue' i) ≡ suc i
          older i h = rw (old_place i h) (old_number (queue i) (omega (arith, x.places.numbered i h)) ∙ x.places.numbered i h)

          again : (q : ℕ) → q < s.states → 0 < number q → queue' (number q - 1) ≡ q
          again q lq nq = old_place (number q - 1) (omega (arith, x.low q lq)) ∙ x.places.placed q lq nq (x.low q lq)

  -- by which letters a state that is met is reached
  pub reached_path : (f i : ℕ) → i < f → i < c → (w : List ℕ) × Path s from w (queue i) × (length w ≤ i)
  reached_path zero i h l = absurd (omega arith)
  reached_path (suc f) zero h l = ([], rw x.first here, omega arith)
  reached_path (suc f) (suc i) h l =
      let y = x.came (suc i) (omega arith) l in
      let j = parent (suc i) in
      let r = reached_path f j (omega (arith, y.earlier)) (omega (arith, y.earlier)) in
      let one : Path s (queue j) (letter (suc i) ∷ []) (s.go (queue j) (letter (suc i))) = step {p = queue j} y.is_letter (rw y.leads (x.places.state (suc i) l)) here in
      (r.0 ++ (letter (suc i) ∷ []), path_append s r.1 (rw y.leads at one), simp length-append (omega (arith, r.2, y.earlier)))

  abbrev Known : ℕ → Type 0
  Known y = (y < s.states) × (0 < number y)

  pub reached_exact : from < s.states → c ≤ k → (q : ℕ) → q < s.states → (0 < number q) ↔ Leads s from q
  reached_exact lf all q lq = (sound, λ h. (kept_along s Known known_step h.1 (lf, first_known)).1)
    where
      sound : 0 < number q → Leads s from q
      sound h =
          let e : queue (number q - 1) ≡ q = x.places.placed q lq h (x.low q lq) in
          let r = reached_path (number q) (number q - 1) (omega arith) (omega (arith, x.low q lq)) in
          (r.0, rw e at r.1)

      first_known : 0 < number from
      first_known = omega (arith, ap number x.first, x.places.numbered 0 x.some)

      known_step : (y b : ℕ) → Known y → b < s.letters → s.go y b < s.states → Known (s.go y b)
      known_step y b h lb t =
          let e : queue (number y - 1) ≡ y = x.places.placed y h.0 h.1 (x.low y h.0) in
          (t, rw e at (x.closed (number y - 1) b (omega (arith, x.low y h.0, h.1)) lb (rw e t)))

-- ---- the search underway, since its arrays were as those without a prime
pub record Reaching (s : System) (from k a : ℕ) (m m' : Met) : Type 0 where
  pub reached : Queued s from m'.count k a (at m'.numbers.now) (at m'.queue.now) (at m'.parents.now) (at m'.by.now)
  pub room : ReachRoom s m'
  pub untouched : Untouched s.states m'.count m.numbers.now m'.numbers.now m.queue.now m'.queue.now m.parents.now m'.parents.now m.by.now m'.by.now
  pub same : SameArrays m m'

pub untouched_none : (n c : ℕ) (numbers queue parents letters : List ℕ) → Untouched n c numbers numbers queue queue parents parents letters letters
untouched_none n c numbers queue parents letters =
    record { past_numbers = beyond_none n numbers; past_queue = beyond_none c queue; past_parents = beyond_none c parents; past_letters = beyond_none c letters }

pub untouched_then : {n c c' : ℕ} {numbers numbers' numbers'' queue queue' queue'' parents parents' parents'' letters letters' letters'' : List ℕ} → c ≤ c'
    → Untouched n c numbers numbers' queue queue' parents parents' letters letters' → Untouched n c' numbers' numbers'' queue' queue'' parents' parents'' letters' letters''
    → Untouched n c' numbers numbers'' queue queue'' parents parents'' letters letters''
untouched_then l x y =
    record {
      past_numbers = beyond_then x.past_numbers y.past_numbers;
      past_queue = beyond_then (beyond_wider l x.past_queue) y.past_queue;
      past_parents = beyond_then (beyond_wider l x.past_parents) y.past_parents;
      past_letters = beyond_then (beyond_wider l x.past_letters) y.past_letters;
    }

pub reach_room_kept : (s : System) (c : ℕ) (m m' : Met) → ReachRoom s m
    → Untouched s.states c m.numbers.now m'.numbers.now m.queue.now m'.queue.now m.parents.now m'.parents.now m.by.now m'.by.now → ReachRoom s m'
reach_room_kept s c m m' r u =
    record {
      small = r.small;
      letters_small = r.letters_small;
      number_room = rw u.past_numbers.size r.number_room;
      queue_room = rw u.past_queue.size r.queue_room;
      parent_room = rw u.past_parents.size r.parent_room;
      letter_room = rw u.past_letters.size r.letter_room;
    }

pub reaching_more : (s : System) (from k a k' a' : ℕ) (m m' m'' : Met) → Reaching s from k a m m' → ReadSays s m' m'' k' a' → Reaching s from k' a' m m''
reaching_more s from k a k' a' m m' m'' x y =
    record {
      reached = rw x.reached.first at y.reached;
      room = reach_room_kept s m''.count m' m'' x.room y.untouched;
      untouched = untouched_then y.more x.untouched y.untouched;
      same = record {
        numbers = y.same.numbers ∙ x.same.numbers;
        queue = y.same.queue ∙ x.same.queue;
        parents = y.same.parents ∙ x.same.parents;
        by = y.same.by ∙ x.same.by;
      };
    }

-- a letter leads to no state that is not yet met
pub read_old : (s : System) (m : Met) (k a : ℕ) → QueuedIn s m k a → (s.go (at m.queue.now k) a < s.states → 0 < at m.numbers.now (s.go (at m.queue.now k) a))
    → ReadSays s m m k (a + 1)
read_old s m k a x h =
    record {
      reached = reached_old _ _ _ _ _ _ _ _ _ x.queued h;
      more = omega arith;
      untouched = untouched_none s.states m.count m.numbers.now m.queue.now m.parents.now m.by.now;
      same = record { numbers = refl; queue = refl; parents = refl; by = refl };
    }

-- where the letters of all states that are met are read, the arrays say what is reached
pub reaching_all : (s : System) (from k : ℕ) (m m' : Met) (numbers queue parents letters : List ℕ) → Reaching s from k 0 m m' → k ≤ m'.count → m'.count ≤ k → from < s.states
    → numbers ≡ m'.numbers.now → queue ≡ m'.queue.now → parents ≡ m'.parents.now → letters ≡ m'.by.now → ReachSays s from m'.count numbers queue parents letters
reaching_all s from k m m' numbers queue parents letters x low high l a b c d =
    rw (a, b, c, d) (record { reached = rw (le_antisymm low high) at x.reached; exact = reached_exact _ _ _ _ _ _ _ _ _ x.reached l high })

-- ---- a path written from its end
drop_set : (xs : List ℕ) (j v : ℕ) → 0 < j → j ≤ length xs → drop (j - 1) (set xs (j - 1) v) ≡ v ∷ drop j xs
drop_set xs j v some l =
    let e : suc (j - 1) ≡ j = omega arith in
    drop-cons (set xs (j - 1) v) (j - 1) 0 (lt-length-set xs (j - 1) v (omega arith))
    ∙ rw (get_or-set_same xs (j - 1) v 0 (omega arith), drop-set-lt (suc (j - 1)) xs (j - 1) v (omega arith), e) refl

abbrev pub LeadsOn : (ℕ → ℕ) → (ℕ → ℕ) → ℕ → ℕ → List ℕ → Type 0
LeadsOn parent letter place i w =
    (s : System) (from c k a : ℕ) (number queue : ℕ → ℕ) → Queued s from c k a number queue parent letter → place < c → Path s (queue i) w (queue place)

leads_none : (parent letter : ℕ → ℕ) (place : ℕ) → LeadsOn parent letter place place []
leads_none parent letter place s from c k a number queue x l = here

leads_more : (parent letter : ℕ → ℕ) (place i : ℕ) (w : List ℕ) → 0 < i → i ≤ place → LeadsOn parent letter place i w
    → LeadsOn parent letter place (parent i) (letter i ∷ w)
leads_more parent letter place i w some l f s from c k a number queue x h =
    let y = x.came i some (omega arith) in
    let rest : Path s (s.go (queue (parent i)) (letter i)) w (queue place) = rw y.leads (f s from c k a number queue x h) in
    step {p = queue (parent i)} y.is_letter (rw y.leads (x.places.state i (omega arith))) rest

leads_all : (parent letter : ℕ → ℕ) (place i : ℕ) (w : List ℕ) → i ≡ 0 → LeadsOn parent letter place i w
    → (s : System) (from c k a : ℕ) (number queue : ℕ → ℕ) → Queued s from c k a number queue parent letter → place < c → Path s from w (queue place)
leads_all parent letter place i w e f s from c k a number queue x h = rw (e, x.first) at (f s from c k a number queue x h)

-- each place up to the one asked for was met from an earlier one
abbrev pub FromEarlier : List ℕ → ℕ → Type 0
FromEarlier parents place = (j : ℕ) → 0 < j → j ≤ place → at parents j < j

pub record Leading (place : ℕ) (parents letters old out : List ℕ) (begin i : ℕ) : Type 0 where
  pub within : begin ≤ length old
  pub front : take begin out ≡ take begin old
  pub leads : FromEarlier parents place → place ≤ length old
      → (i ≤ place) × (i + length old ≤ place + begin) × LeadsOn (at parents) (at letters) place i (drop begin out)

module _ (place : ℕ) (parents letters : List ℕ) where
  pub leading_none : (out : List ℕ) → Leading place parents letters out out (length out) place
  leading_none out =
      record {
        within = omega arith;
        front = refl;
        leads = λ early room. (omega arith, omega arith, rw (drop-length out) (leads_none (at parents) (at letters) place));
      }

  -- another letter can be written
  abbrev goes_on : List ℕ → ℕ → ℕ → Bool
  goes_on out begin i = not (eqb i 0) && (not (eqb begin 0) && (ltb i (length parents) && ltb i (length letters)))

  module _ (old out : List ℕ) (begin i : ℕ) (size : length out ≡ length old) (x : Leading place parents letters old out begin i) where
    pub leading_more : (i ≡ 0 → ⊥) → (begin ≡ 0 → ⊥)
        → Leading place parents letters old (set out (begin - 1) (at letters i)) (begin - 1) (at parents i)
    leading_more some left =
        let l : begin - 1 ≤ begin = omega arith in
        record {
          within = omega (arith, x.within);
          front = take-set-le (begin - 1) out (begin - 1) (at letters i) (omega arith) ∙ sym (take-take (begin - 1) begin out l) ∙ ap (take (begin - 1)) x.front ∙ take-take (begin - 1) begin old l;
          leads = λ early room. let r = x.leads early room in let e = early i (omega arith) r.0 in (omega arith, omega (arith, r.1), rw (drop_set out begin (at letters i) (omega arith) (omega (arith, x.within))) (leads_more (at parents) (at letters) place i (drop begin out) (omega arith) r.0 r.2));
        }

    pub leading_all : goes_on out begin i ≡ false → PathFound place parents letters old out begin
    leading_all stops =
        record {
          within = x.within;
          front = x.front;
          path = λ s from c k a number queue y l lp ll room. let r = x.leads (λ j some b. (y.came j some (omega arith)).earlier) room in leads_all (at parents) (at letters) place i (drop begin out) (none r lp ll room) r.2 s from c k a number queue y l;
        }
      where
        none : (i ≤ place) × (i + length old ≤ place + begin) × LeadsOn (at parents) (at letters) place i (drop begin out)
            → place < length parents → place < length letters → place ≤ length old → i ≡ 0
        none r lp ll room =
            by
            (eqb i 0)
            (λ e. eqb-true i 0 e)
            (λ e. by (eqb begin 0) (λ d. omega (arith, r.0, r.1, eqb-true begin 0 d)) (λ d. clash (let f = lt-ltb i (length parents) (omega (arith, r.0)) in let g = lt-ltb i (length letters) (omega (arith, r.0)) in rw (e, d, f, g)) stops))
