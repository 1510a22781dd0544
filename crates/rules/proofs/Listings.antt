-- Listings by computation, with the listing program's capacity and four arrays for two letters.
--     text_of_t, listing_of_T                the table T: its nine lines, byte for byte
--     text_of_missing, listing_of_missing    an empty record and a missing transition: dashes
--     text_of_short, listing_of_short        an array below its size: a refusal
use mathlib.Core.Path.{◌≡◌, refl}
use mathlib.Core.List.{List, [], ◌∷◌, ◌++◌}
use Prim.Native.Nat.{ℕ}
use Rattle.rules.specs.Systems.{linked, reaches, together, is_inside, some_within}
use Rattle.rules.specs.Rows.{rows_of, step_of}
use Rattle.rules.specs.Tables.{table_fault}
use Rattle.rules.specs.Says.{translate_fault}
use Rattle.rules.specs.Cards.{table_t, one_missing}
use Rattle.rules.specs.Texts.{numeral, each}
use Rattle.rules.specs.Listings.{field, optional, line, row_lines, lines, head, refusal_line, table_listing, listing}

abbrev pub text_of_t : List ℕ
text_of_t =
    -- 4 2 2
    (52 ∷ 32 ∷ 50 ∷ 32 ∷ 50 ∷ 10 ∷ [])
    -- 0 0 12 0 0 4
    ++ (48 ∷ 32 ∷ 48 ∷ 32 ∷ 49 ∷ 50 ∷ 32 ∷ 48 ∷ 32 ∷ 48 ∷ 32 ∷ 52 ∷ 10 ∷ [])
    -- 0 0 12 1 1 1
    ++ (48 ∷ 32 ∷ 48 ∷ 32 ∷ 49 ∷ 50 ∷ 32 ∷ 49 ∷ 32 ∷ 49 ∷ 32 ∷ 49 ∷ 10 ∷ [])
    -- 1 1 12 0 0 2
    ++ (49 ∷ 32 ∷ 49 ∷ 32 ∷ 49 ∷ 50 ∷ 32 ∷ 48 ∷ 32 ∷ 48 ∷ 32 ∷ 50 ∷ 10 ∷ [])
    -- 1 1 12 1 2 5
    ++ (49 ∷ 32 ∷ 49 ∷ 32 ∷ 49 ∷ 50 ∷ 32 ∷ 49 ∷ 32 ∷ 50 ∷ 32 ∷ 53 ∷ 10 ∷ [])
    -- 2 1 21 0 3 4
    ++ (50 ∷ 32 ∷ 49 ∷ 32 ∷ 50 ∷ 49 ∷ 32 ∷ 48 ∷ 32 ∷ 51 ∷ 32 ∷ 52 ∷ 10 ∷ [])
    -- 2 1 21 1 2 3
    ++ (50 ∷ 32 ∷ 49 ∷ 32 ∷ 50 ∷ 49 ∷ 32 ∷ 49 ∷ 32 ∷ 50 ∷ 32 ∷ 51 ∷ 10 ∷ [])
    -- 3 0 21 0 0 5
    ++ (51 ∷ 32 ∷ 48 ∷ 32 ∷ 50 ∷ 49 ∷ 32 ∷ 48 ∷ 32 ∷ 48 ∷ 32 ∷ 53 ∷ 10 ∷ [])
    -- 3 0 21 1 2 1
    ++ (51 ∷ 32 ∷ 48 ∷ 32 ∷ 50 ∷ 49 ∷ 32 ∷ 49 ∷ 32 ∷ 50 ∷ 32 ∷ 49 ∷ 10 ∷ [])

pub listing_of_T : listing table_t 1024 2048 2048 1024 1024 ≡ text_of_t
unfolding linked reaches together is_inside some_within rows_of step_of table_fault translate_fault numeral each field optional line row_lines lines head table_listing listing
listing_of_T = refl

abbrev pub text_of_missing : List ℕ
text_of_missing =
    -- 1 2 0
    (49 ∷ 32 ∷ 50 ∷ 32 ∷ 48 ∷ 10 ∷ [])
    -- 0 0 - 0 0 1
    ++ (48 ∷ 32 ∷ 48 ∷ 32 ∷ 45 ∷ 32 ∷ 48 ∷ 32 ∷ 48 ∷ 32 ∷ 49 ∷ 10 ∷ [])
    -- 0 0 - 1 - -
    ++ (48 ∷ 32 ∷ 48 ∷ 32 ∷ 45 ∷ 32 ∷ 49 ∷ 32 ∷ 45 ∷ 32 ∷ 45 ∷ 10 ∷ [])

pub listing_of_missing : listing one_missing 1024 2048 2048 1024 1024 ≡ text_of_missing
unfolding linked reaches together is_inside some_within rows_of step_of table_fault translate_fault numeral each field optional line row_lines lines head table_listing listing
listing_of_missing = refl

-- refused 7
abbrev pub text_of_short : List ℕ
text_of_short = 114 ∷ 101 ∷ 102 ∷ 117 ∷ 115 ∷ 101 ∷ 100 ∷ 32 ∷ 55 ∷ 10 ∷ []

pub listing_of_short : listing table_t 1024 2047 2048 1024 1024 ≡ text_of_short
unfolding linked reaches together is_inside some_within rows_of step_of table_fault translate_fault numeral field refusal_line listing
listing_of_short = refl
