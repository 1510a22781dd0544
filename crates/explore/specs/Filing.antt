-- Keys that are filed, and their index.
--     Filed c n keys                claim: n keys of at most c are filed, each once
--     rows_after n r                number: how many keys are filed when the one of number r has been looked up among n
--     Files c key n keys keys' r    claim: r is the key's number, and it has been filed if it was absent and there was room
--     NoRoom c key n keys           claim: the key is absent, and no more can be filed
--     Lookup c key n .. f           claim: what looking a key up leaves, and its answer f; a prime marks an array's contents at exit
use Rattle.std.specs.Prelude.{◌≡◌, List, ℕ, suc, ◌≤◌, eqb, length, set, Option, Some, None}
use Rattle.rules.specs.Basics.{pick}
use Rattle.rules.specs.Limits.{max_rows}
use Rattle.rules.specs.Arrays.{Beyond}
use Rattle.explore.specs.declared.filing.Numbered.{Numbered}
use Rattle.explore.specs.Index.{Apart, Linked, number_among}

pub record Filed (c n : ℕ) (keys : List ℕ) : Type 0 where
  pub few : n ≤ c
  pub most : c ≤ max_rows
  pub key_room : c ≤ length keys
  pub apart : Apart n keys

abbrev pub rows_after : ℕ → ℕ → ℕ
rows_after n r = pick (eqb r n) (suc n) n

pub record Files (c key n : ℕ) (keys keys' : List ℕ) (r : ℕ) : Type 0 where
  pub number : r ≡ number_among key n keys
  pub filed : rows_after n r ≤ c → Filed c (rows_after n r) keys'
  pub key_array : rows_after n r ≤ c → keys' ≡ pick (eqb r n) (set keys n key) keys
  pub key_rest : Beyond c keys keys'

pub record NoRoom (c key n : ℕ) (keys : List ℕ) : Type 0 where
  pub absent : n ≡ number_among key n keys
  pub full : c ≤ n

abbrev pub Lookup : ℕ → ℕ → ℕ → List ℕ → List ℕ → List ℕ → List ℕ → Option Numbered → Type 0
Lookup c key n keys keys' heads' links' (Some f) =
    Files c key n keys keys' f.number × (f.known ≡ rows_after n f.number) × (f.known ≤ c) × Linked f.known keys' heads' links'
Lookup c key n keys keys' heads' links' None = NoRoom c key n keys × (keys' ≡ keys)
