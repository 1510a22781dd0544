-- A key is looked up and, where it is absent and there is room, its row is filed.
--     number_most, number_found, number_absent    the number of a key among keys that are all different
--     rows_old, rows_new                          how many rows there are when a key was found or added
--     filed_found, filed_full, filed_added        the three outcomes
--     linked_more                                 the index with the key that was added
use mathlib.Core.Path.{◌≡◌, refl, sym, ◌∙◌}
use mathlib.Core.List.{List}
use Prim.Native.Nat.{ℕ, suc, ◌<◌, ◌≤◌}
use native.Mathlib.Omega.{arith}
use lib.Dec.{eqb, ltb}
use lib.ListN.{length, get_or, set, take, length-set}
use lib.Seq.{get_or-set_same, get_or-set_other, get_or-take, length-take-le}
use borrow.Author.Tests.{eqb-true, eqb-false, eq-eqb, ne_eqb, ltb-true, ltb-false}
use Rattle.rules.proofs.Bools.{by}
use Rattle.rules.proofs.Exploration.{place_found, place_least, place_most}
use Rattle.explore.specs.Index.{slot_of, Linked, Apart, number_among, KeyIndexed}
use Rattle.explore.specs.Filing.{Filed, rows_after, Files}
use Rattle.explore.proofs.Chains.{indexed_more}
use Rattle.rules.proofs.Filling.{beyond_none, beyond_set}

-- ---- the number of a key
module _ (n key : ℕ) (keys : List ℕ) (room : n ≤ length keys) where
  number_passes : number_among key n keys < n → get_or keys (number_among key n keys) 0 ≡ key
  number_passes l =
      let h = place_found (λ x. eqb key x) 0 (take n keys) (rw (length-take-le n keys room) l) in
      sym (eqb-true key (get_or keys (number_among key n keys) 0) (rw (get_or-take n keys (number_among key n keys) 0 l) at h))

  number_least : (i : ℕ) → i < n → get_or keys i 0 ≡ key → number_among key n keys ≤ i
  number_least i l e =
      place_least (λ x. eqb key x) 0 (take n keys) i (rw (length-take-le n keys room) l)
      (rw (get_or-take n keys i 0 l) (eq-eqb key (get_or keys i 0) (sym e)))

  pub number_found : Apart n keys → (i : ℕ) → i < n → get_or keys i 0 ≡ key → i ≡ number_among key n keys
  number_found apart i l e =
      let least = number_least i l e in
      by
      (eqb i (number_among key n keys))
      (λ h. eqb-true i (number_among key n keys) h)
      (λ h. let d = eqb-false i (number_among key n keys) h in absurd (apart (number_among key n keys) i (omega arith) l (number_passes (omega arith) ∙ sym e)))

  pub number_most : number_among key n keys ≤ n
  number_most = rw (length-take-le n keys room) at (place_most (λ x. eqb key x) (take n keys))

  pub number_absent : ((i : ℕ) → i < n → get_or keys i 0 ≡ key → ⊥) → n ≡ number_among key n keys
  number_absent absent =
      by
      (ltb (number_among key n keys) n)
      (λ h. let l = ltb-true (number_among key n keys) n h in absurd (absent (number_among key n keys) l (number_passes l)))
      (λ h. omega (arith, ltb-false (number_among key n keys) n h, number_most))

-- ---- one row more
pub rows_old : (n i : ℕ) → i < n → rows_after n i ≡ n
rows_old n i l = rw (ne_eqb i n (λ z. omega arith))

pub rows_new : (n : ℕ) → rows_after n n ≡ suc n
rows_new n = rw (eq-eqb n n refl)

apart_more : (n key : ℕ) (keys : List ℕ) → n < length keys → ((i : ℕ) → i < n → get_or keys i 0 ≡ key → ⊥) → Apart n keys
    → Apart (suc n) (set keys n key)
apart_more n key keys room absent apart i j l lj e =
    let low = get_or-set_other keys n i key 0 (λ (z : i ≡ n). omega arith) in
    by
    (eqb j n)
    (λ h. absent i (omega (arith, eqb-true j n h)) (sym low ∙ e ∙ (rw (eqb-true j n h) (get_or-set_same keys n key 0 room))))
    (λ h. let d = eqb-false j n h in apart i j l (omega arith) (sym low ∙ e ∙ get_or-set_other keys n j key 0 d))

module _ (c key n : ℕ) (keys : List ℕ) (f : Filed c n keys) where
  abbrev Absent-key : Type 0
  Absent-key = (i : ℕ) → i < n → get_or keys i 0 ≡ key → ⊥

  key_places : n ≤ length keys
  key_places = omega (arith, f.few, f.key_room)

  pub filed_found : (i : ℕ) → i < n → get_or keys i 0 ≡ key → Files c key n keys keys i
  filed_found i l e =
      let old = ne_eqb i n (λ z. omega arith) in
      record {
        number = number_found n key keys key_places f.apart i l e;
        filed = λ h. rw old f;
        key_array = λ h. rw old;
        key_rest = beyond_none c keys;
      }

  pub filed_full : c ≤ n → Absent-key → Files c key n keys keys n
  filed_full l absent =
      let new = eq-eqb n n refl in
      record {
        number = number_absent n key keys key_places absent;
        filed = λ h. absurd (omega (arith, rw new at h));
        key_array = λ h. absurd (omega (arith, rw new at h));
        key_rest = beyond_none c keys;
      }

  module _ (l : n < c) where
    lk : n < length keys
    lk = omega (arith, f.key_room)

    pub filed_added : Absent-key → Files c key n keys (set keys n key) n
    filed_added absent =
        let new = eq-eqb n n refl in
        record {
          number = number_absent n key keys key_places absent;
          filed = λ h. rw new (record { few = l; most = f.most; key_room = simp length-set f.key_room; apart = apart_more n key keys lk absent f.apart });
          key_array = λ h. rw new;
          key_rest = beyond_set c keys n key l;
        }

    pub linked_more : (heads heads' links links' : List ℕ) → n < length links → Linked n keys heads links → KeyIndexed key n heads heads' links links'
        → Linked (suc n) (set keys n key) heads' links'
    linked_more heads heads' links links' ll x y =
        let some = x.some_slots in
        rw
        (y.head_array, y.link_array)
        (record { some_slots = simp length-set some; enough = simp length-set ll; chains = rw (length-set heads (slot_of (length heads) key) (suc n)) (indexed_more (length heads) n key keys (set keys n key) heads links some (omega arith) ll (λ i b. get_or-set_other keys n i key 0 (λ z. omega arith)) (get_or-set_same keys n key 0 lk) x.chains) })
