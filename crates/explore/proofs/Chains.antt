-- The index of keys: what its chains hold, and how a key is found along one.
--     slot_below                    the slot of a key is a slot
--     indexed_more                  one key more, after keys that stay as they are
--     Sought slots n key keys at    the search for a key is at `at`: every place of the key among the first n is below it
--     next_below                    a link falls
--     sought_first, sought_next     the search begins at a slot's head, and goes on along the links
use mathlib.Core.Path.{◌≡◌, refl, sym, ap, ◌∙◌}
use mathlib.Core.List.{List}
use Prim.Native.Nat.{ℕ, zero, suc, ◌-◌, ◌*◌, ◌/◌, ◌%◌, ◌<◌, ◌≤◌}
use native.Mathlib.Omega.{arith}
use lib.Bits.{and_le_l}
use lib.Dec.{eqb}
use lib.ListN.{length, get_or, set}
use lib.Seq.{get_or-set_same, get_or-set_other}
use borrow.Author.Tests.{eqb-true, eqb-false}
use Rattle.rules.proofs.Bools.{by}
use Rattle.explore.specs.Index.{slot_of, nearest, Indexed}

pub slot_below : (slots key : ℕ) → 0 < slots → slot_of slots key < slots
slot_below slots key some = omega (arith, and_le_l (slots - 1) (key * 2246822507 % 4294967296 / 262144))

module _ (slots : ℕ) where
  nearest_within : (keys : List ℕ) (s n : ℕ) → nearest slots keys s n ≤ n
  nearest_within keys s zero = omega arith
  nearest_within keys s (suc n) =
      by (eqb (slot_of slots (get_or keys n 0)) s) (λ e. rw e (omega arith)) (λ e. rw e (omega (arith, nearest_within keys s n)))

  nearest_over : (keys : List ℕ) (s n i : ℕ) → i < n → slot_of slots (get_or keys i 0) ≡ s → i < nearest slots keys s n
  nearest_over keys s zero i l e = absurd (omega arith)
  nearest_over keys s (suc n) i l e =
      by
      (eqb (slot_of slots (get_or keys n 0)) s)
      (λ h. rw h (omega arith))
      (λ h. rw h (nearest_over keys s n i (below (eqb-false (slot_of slots (get_or keys n 0)) s h)) e))
    where
      below : (slot_of slots (get_or keys n 0) ≡ s → ⊥) → i < n
      below d = by (eqb i n) (λ h. absurd (d (rw (eqb-true i n h) at e))) (λ h. omega (arith, eqb-false i n h))

  nearest_slot : (keys : List ℕ) (s n i : ℕ) → suc i ≡ nearest slots keys s n → slot_of slots (get_or keys i 0) ≡ s
  nearest_slot keys s zero i h = absurd (omega arith)
  nearest_slot keys s (suc n) i h =
      by
      (eqb (slot_of slots (get_or keys n 0)) s)
      (λ e. let z : i ≡ n = omega (arith, rw e at h) in rw z (eqb-true (slot_of slots (get_or keys n 0)) s e))
      (λ e. nearest_slot keys s n i (rw e at h))

  -- the nearest place depends on the keys below n alone
  nearest_same : (keys keys' : List ℕ) (s n : ℕ) → ((i : ℕ) → i < n → get_or keys i 0 ≡ get_or keys' i 0) → nearest slots keys s n ≡ nearest slots keys' s n
  nearest_same keys keys' s zero h = refl
  nearest_same keys keys' s (suc n) h = rw (h n (omega arith), nearest_same keys keys' s n (λ i l. h i (omega arith)))

pub indexed_more : (slots n key : ℕ) (keys keys' heads links : List ℕ) → 0 < slots → slots ≤ length heads → n < length links → ((i : ℕ) → i < n → get_or keys' i 0 ≡ get_or keys i 0)
    → get_or keys' n 0 ≡ key → Indexed slots n keys heads links → Indexed slots (suc n) keys' (set heads (slot_of slots key) (suc n)) (set links n (get_or heads (slot_of slots key) 0))
indexed_more slots n key keys keys' heads links some lh ll old last x =
    record { head = heads_more; link = links_more }
  where
    heads_more : (s : ℕ) → s < slots → get_or (set heads (slot_of slots key) (suc n)) s 0 ≡ nearest slots keys' s (suc n)
    heads_more s l =
        by
        (eqb (slot_of slots key) s)
        (λ e. let z = eqb-true (slot_of slots key) s e in rw (last, e, ← z) (get_or-set_same heads (slot_of slots key) (suc n) 0 (omega (arith, slot_below slots key some))))
        (λ e. rw (last, e, get_or-set_other heads (slot_of slots key) s (suc n) 0 (λ d. eqb-false (slot_of slots key) s e (sym d)), nearest_same slots keys' keys s n old) (x.head s l))

    links_more : (i : ℕ) → i < suc n → get_or (set links n (get_or heads (slot_of slots key) 0)) i 0 ≡ nearest slots keys' (slot_of slots (get_or keys' i 0)) i
    links_more i l =
        by
        (eqb i n)
        (λ e. rw (eqb-true i n e, last, get_or-set_same links n (get_or heads (slot_of slots key) 0) 0 ll, nearest_same slots keys' keys (slot_of slots key) n old) (x.head (slot_of slots key) (slot_below slots key some)))
        (λ e. below i (omega (arith, eqb-false i n e)) (eqb-false i n e))
      where
        below : (i : ℕ) → i < n → (i ≡ n → ⊥) → get_or (set links n (get_or heads (slot_of slots key) 0)) i 0 ≡ nearest slots keys' (slot_of slots (get_or keys' i 0)) i
        below i b d =
            rw
            (get_or-set_other links n i (get_or heads (slot_of slots key) 0) 0 d, old i b, nearest_same slots keys' keys (slot_of slots (get_or keys i 0)) i (λ j k. old j (omega arith)))
            (x.link i b)

-- ---- the search along a chain
pub record Sought (slots n key : ℕ) (keys : List ℕ) (at : ℕ) : Type 0 where
  pub within : at ≤ n
  pub chain : (i : ℕ) → suc i ≡ at → slot_of slots (get_or keys i 0) ≡ slot_of slots key
  pub later : (i : ℕ) → i < n → get_or keys i 0 ≡ key → i < at

pub next_below : (slots n : ℕ) (keys heads links : List ℕ) → Indexed slots n keys heads links → (place : ℕ) → place < n → get_or links place 0 ≤ place
next_below slots n keys heads links x place l = rw (x.link place l) (nearest_within slots keys (slot_of slots (get_or keys place 0)) place)

module _ (slots n key : ℕ) (keys heads links : List ℕ) (some : 0 < slots) (x : Indexed slots n keys heads links) where
  sought_nearest : (m at : ℕ) → m ≤ n → ((i : ℕ) → i < n → get_or keys i 0 ≡ key → i < m) → at ≡ nearest slots keys (slot_of slots key) m → Sought slots n key keys at
  sought_nearest m at l h e =
      record {
        within = omega (arith, nearest_within slots keys (slot_of slots key) m);
        chain = λ i d. nearest_slot slots keys (slot_of slots key) m i (d ∙ e);
        later = λ i b d. rw e (nearest_over slots keys (slot_of slots key) m i (h i b d) (ap (slot_of slots) d));
      }

  pub sought_first : Sought slots n key keys (get_or heads (slot_of slots key) 0)
  sought_first = sought_nearest n (get_or heads (slot_of slots key) 0) (omega arith) (λ i b d. b) (x.head (slot_of slots key) (slot_below slots key some))

  pub sought_next : (at place : ℕ) → suc place ≡ at → (get_or keys place 0 ≡ key → ⊥) → Sought slots n key keys at → Sought slots n key keys (get_or links place 0)
  sought_next at place e d f =
      let b : place < n = omega (arith, f.within) in
      sought_nearest place (get_or links place 0) (omega arith) (λ i l h. apart i h (f.later i l h))
      (rw (f.chain place e) at (x.link place b))
    where
      apart : (i : ℕ) → get_or keys i 0 ≡ key → i < at → i < place
      apart i h l = by (eqb i place) (λ z. absurd (d (rw (eqb-true i place z) at h))) (λ z. omega (arith, eqb-false i place z))
