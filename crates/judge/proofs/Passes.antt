-- A word that is read pass by pass, over any transition system.
--     sums_mapped                                       the sum of some marks is that of their numbers
--     misses_judged                                     the answer where the lead-in meets a missing transition
--     underway_next, underway_kept                      one pass more, and its sum
--     underway_state, underway_count, underway_early    what holds of a word that is being read, and as long as a pass begins at a new place
--     underway_misses                                   the answer where a pass meets a missing transition
--     round_earlier, round_judged, round_sums           the next pass begins where an earlier one began: that one, the answer, the sum of the recurring
--                                                       transitions
--     round_decided                                     the answer, where it is decided by a sum
use mathlib.Core.Path.{◌≡◌, refl, sym, ap, ◌∙◌, subst⁻¹}
use mathlib.Core.Bool.{Bool, false}
use mathlib.Core.List.{List}
use Prim.Native.Nat.{ℕ, zero, suc, ◌+◌, ◌-◌, ◌*◌, ◌<◌, ◌≤◌}
use native.Mathlib.Nat.{suc-mul, mul-le-mul}
use native.Mathlib.Numerals.{add-one}
use native.Mathlib.Omega.{arith}
use lib.Dec.{eqb, ltb}
use lib.ListN.{length, get_or, take, drop, set, length-set}
use lib.Seq.{get_or-set_same, get_or-set_other, drop-cons}
use borrow.Author.Tests.{eqb-true, eqb-false, ltb-true, ltb-false}
use Rattle.std.proofs.Common.{map}
use Rattle.std.proofs.lemmas.List.{drop-map, take-map}
use Rattle.rules.specs.Basics.{pick, any, SameSet, repeated}
use Rattle.rules.specs.Systems.{System, Path}
use Rattle.rules.specs.Runs.{stray_letter, Taken, pass_from, follow, turn, recurring}
use Rattle.rules.specs.Answers.{accepts, rejects, stops, judged_by}
use Rattle.rules.proofs.Bools.{by}
use Rattle.rules.proofs.Pigeonhole.{pigeonhole}
use Rattle.rules.proofs.Sets.{any_append, any_map}
use Rattle.rules.proofs.Runs.{path_end, pass_append, turns_below}
use Rattle.rules.proofs.Judging.{judged_lead, judged_pass, judged_round}
use Rattle.judge.specs.Passes.{SumsUp, MissesAfter, Begun, SumsKept, WordUnderway}

pub sums_mapped : {M : Type 0} (t : ℕ → ℕ → Bool) (n : M → ℕ) (xs : List M) (d i v : ℕ) → SumsUp t n (take d (drop i xs)) v
    → SumsUp t (λ x. x) (take d (drop i (map n xs))) v
sums_mapped t n xs d i v h k = h k ∙ sym (rw (drop-map n i xs, take-map n d (drop i xs)) (any_map (t k) n (take d (drop i xs))))

module _ (s : System) (l : List ℕ) (e : ℕ) where
  module _ (r q : ℕ) (begun : List ℕ) (b : Begun s l e r q begun) where
    begun_next : (x v : ℕ) → get_or begun q 0 ≡ 0 → q < length begun → Path s q l x → v ≡ r + 1 → Begun s l e (r + 1) x (set begun q v)
    begun_next x v new within a is =
        rw (add-one r)
        (record {
          here = ap (follow s l) b.here ∙ path_end s a;
          reads = λ i h. by (eqb i r) (λ f. rw (eqb-true i r f) last) (λ f. b.reads i (omega (arith, eqb-false i r f)));
          noted = λ i h. by (eqb i r) (λ f. rw (eqb-true i r f, b.here, get_or-set_same begun q v 0 within) count) (λ f. earlier i (omega (arith, eqb-false i r f)));
          only = λ y i h. by (eqb y q) (λ f. latest y i (eqb-true y q f) h) (λ f. let o = b.only y i (sym (get_or-set_other begun q y v 0 (eqb-false y q f)) ∙ h) in (omega (arith, o.0), o.1));
        })
      where
        count : v ≡ suc r
        count = omega (arith, is)

        last : Path s (turn s l r e) l (turn s l (suc r) e)
        last = rw (b.here, path_end s a) a

        earlier : (i : ℕ) → i < r → get_or (set begun q v) (turn s l i e) 0 ≡ suc i
        earlier i h =
            let before = b.noted i h in
            get_or-set_other begun q (turn s l i e) v 0 (λ f. omega (arith, before, ap (λ (z : ℕ). get_or begun z 0) f, new)) ∙ before

        latest : (y i : ℕ) → y ≡ q → get_or (set begun q v) y 0 ≡ suc i → (i < suc r) × (turn s l i e ≡ y)
        latest y i f h =
            let g : v ≡ suc i = sym (get_or-set_same begun q v 0 within) ∙ (rw f at h) in
            let j : i ≡ r = omega (arith, g, count) in
            (omega arith, ap (λ (z : ℕ). turn s l z e) j ∙ b.here ∙ sym f)

    begun_below : e < s.states → q < s.states
    begun_below h = rw b.here at (turns_below s l r e h b.reads r (omega arith))

    -- as long as each pass begins at a new place, there are fewer passes than places
    begun_early : e < s.states → get_or begun q 0 ≡ 0 → r < s.states
    begun_early h new =
        by (ltb r s.states) (λ f. ltb-true r s.states f)
        (λ f. let many = ltb-false r s.states f in
        let two = pigeonhole s.states (λ i. turn s l i e) (λ i k. turns_below s l r e h b.reads i (omega arith)) in
        absurd (clash_at two.0 two.1 two.2 (omega (arith, two.3)) two.4))
      where
        clash_at : (i j : ℕ) → i < j → j ≤ r → turn s l i e ≡ turn s l j e → ⊥
        clash_at i j below within same =
            let first = b.noted i (omega arith) in
            let there = ap (λ (z : ℕ). get_or begun z 0) same in
            by (eqb j r) (λ f. omega (arith, first, there, ap (λ (z : ℕ). get_or begun (turn s l z e) 0) (eqb-true j r f), ap (λ (z : ℕ). get_or begun z 0) b.here, new))
            (λ f. omega (arith, first, there, b.noted j (omega (arith, eqb-false j r f))))

  module _ (t : ℕ → ℕ → Bool) (g : Taken → ℕ) where
    -- the sum of one pass more
    kept_next : (r p v : ℕ) (vs : List ℕ) → turn s l r e ≡ p → r < length vs → SumsUp t g (pass_from s p l) v → SumsKept s l e t g r vs → SumsKept s l e t g (r + 1) (set vs r v)
    kept_next r p v vs at within h n i k =
        by
        (eqb i r)
        (λ f. rw (eqb-true i r f, get_or-set_same vs r v 0 within, at) h)
        (λ f. rw (get_or-set_other vs r i v 0 (eqb-false i r f)) (n i (omega (arith, eqb-false i r f))))

    -- the sum of consecutive passes
    kept_window : (r : ℕ) (vs : List ℕ) → r ≤ length vs → SumsKept s l e t g r vs → (d i : ℕ) → i + d ≤ r → (k : ℕ)
        → any (t k) (take d (drop i vs)) ≡ any (λ x. t k (g x)) (pass_from s (turn s l i e) (repeated d l))
    kept_window r vs enough n zero i within k = refl
    kept_window r vs enough n (suc d) i within k =
        rw (drop-cons vs i 0 (omega arith), n i (omega arith) k, kept_window r vs enough n d (suc i) (omega arith) k)
        (sym (ap (any (λ x. t k (g x))) (pass_append s l (repeated d l) (turn s l i e)) ∙ any_append (λ x. t k (g x)) (pass_from s (turn s l i e) l) (pass_from s (turn s l (suc i) e) (repeated d l))))

module _ (s : System) (q : ℕ) (lead l : List ℕ) where
  pub misses_judged : (good : List Taken → Bool) → q < s.states → stray_letter s.letters lead ≡ false → stray_letter s.letters l ≡ false → (n : ℕ) → MissesAfter s q lead n
      → judged_by s q lead l good ≡ stops n
  misses_judged good is_state lead-ok l-ok n m = judged_lead s q lead l good is_state lead-ok l-ok m.stop ∙ ap stops m.count

module _ {s : System} {q : ℕ} {lead l : List ℕ} {e r p count first : ℕ} {begun : List ℕ} (u : WordUnderway s q lead l e r p count first begun) where
  pub underway_state : p < s.states
  underway_state = begun_below s l e r p begun u.passes u.entry_state

  -- the letters read so far are few enough to count
  pub underway_count : (n m : ℕ) → s.states ≤ n → length l ≤ m → count ≤ length lead + n * m
  underway_count n m states size =
      let few : r ≤ n = omega (arith, u.few) in
      let product = mul-le-mul few size in
      omega (arith, u.letters)

  module _ (new : first ≡ 0) where
    pub underway_early : r < s.states
    underway_early = begun_early s l e r p begun u.passes u.entry_state (sym u.earlier ∙ new)

    pub underway_next : (x v : ℕ) → Path s p l x → v ≡ r + 1 → WordUnderway s q lead l e (r + 1) x (count + length l) (get_or (set begun p v) x 0) (set begun p v)
    underway_next x v a is =
        record {
          entry = u.entry;
          entry_state = u.entry_state;
          passes = begun_next s l e r p begun u.passes x v (sym u.earlier ∙ new) (omega (arith, underway_state, u.room)) a is;
          few = omega (arith, underway_early);
          letters = rw (add-one r, suc-mul r (length l)) (omega (arith, u.letters));
          earlier = refl;
          room = rw (length-set begun p v) u.room;
        }

    pub underway_kept : (t : ℕ → ℕ → Bool) (g : Taken → ℕ) (v : ℕ) (vs : List ℕ) → s.states ≤ length vs → SumsUp t g (pass_from s p l) v → SumsKept s l e t g r vs
        → SumsKept s l e t g (r + 1) (set vs r v)
    underway_kept t g v vs enough = kept_next s l e t g r p v vs u.passes.here (omega (arith, underway_early))

  pub underway_misses : (good : List Taken → Bool) → q < s.states → stray_letter s.letters lead ≡ false → stray_letter s.letters l ≡ false → (n : ℕ) → MissesAfter s p l n
      → judged_by s q lead l good ≡ stops (count + n)
  underway_misses good is_state lead-ok l-ok n m =
      let x = subst⁻¹ (λ (z : ℕ). MissesAfter s z l n) u.passes.here m in
      judged_pass s q lead l good is_state lead-ok l-ok u.entry r u.passes.reads x.stop ∙ ap stops (omega (arith, x.count, u.letters))

  -- the next pass begins where an earlier one began
  module _ (again : first ≡ 0 → ⊥) where
    earlier : (first - 1 < r) × (turn s l (first - 1) e ≡ turn s l r e)
    earlier =
        let o = u.passes.only p (first - 1) (sym u.earlier ∙ omega (arith, again)) in (o.0, o.1 ∙ sym u.passes.here)

    pub round_earlier : first - 1 < r
    round_earlier = earlier.0

    module _ (good : List Taken → Bool) where
      round : (judged_by s q lead l good ≡ pick (good (recurring s q lead l)) accepts rejects) × SameSet (recurring s q lead l) (pass_from s (turn s l (first - 1) e) (repeated (r - (first - 1)) l))
      round = judged_round s q lead l good u.entry r u.passes.reads (first - 1) earlier.0 u.few earlier.1

      pub round_judged : judged_by s q lead l good ≡ pick (good (recurring s q lead l)) accepts rejects
      round_judged = round.0

      pub round_sums : (t : ℕ → ℕ → Bool) (g : Taken → ℕ) (vs : List ℕ) (v : ℕ) → r ≤ length vs → SumsKept s l e t g r vs
          → SumsUp t (λ x. x) (take (r - (first - 1)) (drop (first - 1) vs)) v → SumsUp t g (recurring s q lead l) v
      round_sums t g vs v enough n h k =
          h k ∙ kept_window s l e t g r vs enough n (r - (first - 1)) (first - 1) (omega (arith, earlier.0)) k ∙ sym (round.1 (λ x. t k (g x)))

      -- what decides on all transitions that a sum sums up decides on the recurring ones
      pub round_decided : (t : ℕ → ℕ → Bool) (g : Taken → ℕ) (vs : List ℕ) (v : ℕ) → r ≤ length vs → SumsKept s l e t g r vs
          → SumsUp t (λ x. x) (take (r - (first - 1)) (drop (first - 1) vs)) v → (b : Bool) → ((xs : List Taken) → SumsUp t g xs v → b ≡ good xs)
          → judged_by s q lead l good ≡ pick b accepts rejects
      round_decided t g vs v enough n h b d =
          round_judged ∙ ap (λ (z : Bool). pick z accepts rejects) (sym (d (recurring s q lead l) (round_sums t g vs v enough n h)))
