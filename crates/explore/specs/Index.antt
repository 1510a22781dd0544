-- The index of keys: chains of places, one chain for each slot. Nothing is asked of the slot of a key but that it is a slot.
--     max_slots                           the most slots of an index
--     slot_of slots key                   number: the slot of a key among so many (multiplicative hashing)
--     nearest slots keys s n              number: one more than the last place below n whose key has the slot s, 0 if there is none
--     Indexed slots n keys heads links    claim: heads has the nearest place for each slot, links the one before each place, of the same slot
--     Linked n keys heads links           claim: such an index of n keys, with some slots
--     Apart n keys                        claim: no key is twice among the first n
--     number_among key n keys             number: the place of the key among the first n, n if it is absent
--     Finds n key keys f                  claim: f is the place of the key among the first n, or none if it is absent
--     KeyIndexed key n ..                 claim: the index with one key more, of number n; a prime marks an array's contents at exit
use Rattle.std.specs.Prelude.{◌≡◌, List, ℕ, zero, suc, ◌-◌, ◌*◌, ◌/◌, ◌%◌, ◌<◌, ◌≤◌, eqb, length, get_or, set, take, Option, Some, None}
use Rattle.std.specs.Int.Bits.{bit_and}
use Rattle.rules.specs.Basics.{pick}
use Rattle.rules.specs.Rows.{place_of}

abbrev pub max_slots : ℕ
max_slots = 16384

abbrev pub slot_of : ℕ → ℕ → ℕ
slot_of slots key = bit_and (slots - 1) (key * 2246822507 % 4294967296 / 262144)

abbrev pub nearest : ℕ → List ℕ → ℕ → ℕ → ℕ
nearest slots keys s zero = 0
nearest slots keys s (suc n) = pick (eqb (slot_of slots (get_or keys n 0)) s) (suc n) (nearest slots keys s n)

pub record Indexed (slots n : ℕ) (keys heads links : List ℕ) : Type 0 where
  pub head : (s : ℕ) → s < slots → get_or heads s 0 ≡ nearest slots keys s n
  pub link : (i : ℕ) → i < n → get_or links i 0 ≡ nearest slots keys (slot_of slots (get_or keys i 0)) i

pub record Linked (n : ℕ) (keys heads links : List ℕ) : Type 0 where
  pub some_slots : 0 < length heads
  pub enough : n ≤ length links
  pub chains : Indexed (length heads) n keys heads links

abbrev pub Apart : ℕ → List ℕ → Type 0
Apart n keys = (i j : ℕ) → i < j → j < n → get_or keys i 0 ≡ get_or keys j 0 → ⊥

abbrev pub number_among : ℕ → ℕ → List ℕ → ℕ
number_among key n keys = place_of (λ x. eqb key x) (take n keys)

abbrev pub Finds : ℕ → ℕ → List ℕ → Option ℕ → Type 0
Finds n key keys (Some i) = (i < n) × (get_or keys i 0 ≡ key)
Finds n key keys None = (i : ℕ) → i < n → get_or keys i 0 ≡ key → ⊥

pub record KeyIndexed (key n : ℕ) (heads heads' links links' : List ℕ) : Type 0 where
  pub head_array : heads' ≡ set heads (slot_of (length heads) key) (suc n)
  pub link_array : links' ≡ set links n (get_or heads (slot_of (length heads) key) 0)
