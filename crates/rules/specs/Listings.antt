-- The listing of a translation: the text that the listing program prints (RULES, "Listing"), byte for byte. A text is a list of bytes.
--     field n end                     text: a number and the byte that ends its field
--     optional none n end             text: the same, a dash for the number where there is none
--     line i q r a t p                text: the line of row i with source state q and record number r, and of letter a with target t and
--                                     priority p; an empty record, and target and priority of a missing transition, are dashes
--     line_at m ts ps i q r a         text: the line of row i and letter a, its target and its priority read from ts and ps
--     row_lines m ts ps i q r         text: the lines of row i, m letters rising
--     lines_at m ts ps ss es i        text: the lines of row i, its source state and its record number read from ss and es
--     lines n m ts ps ss es           text: the lines of rows 0 to n - 1
--     head n m k                      text: the first line: rows, letters and pairs
--     refusal_line f                  text: the line of the refusal f
--     table_listing bs c              text: the head and the lines of the table that the bytes say, translated with the capacity c
--     listing bs c a b d e            text: the whole, where the four lent arrays have the lengths a, b, d and e
--     rows_listed bs c a b d e        number: the rows listed, 0 on a refusal
--     listing_bound c m               number: the most bytes of a listing with the capacity c and m letters, 10 for the head and 26 for each line;
--                                     no more letters are listed than a table may have
--     ListingSays bs c x x' o o' r    claim: listing leaves in the four arrays what the translator leaves, x', and in o the text as far as it
--                                     fits; r is the length of the whole text, which the bound holds
use Rattle.std.specs.Prelude.{◌≡◌, Bool, List, [], ◌∷◌, ◌++◌, ℕ, ◌+◌, ◌*◌, ◌≤◌, min, eqb, length, get_or}
use Rattle.rules.specs.Basics.{pick}
use Rattle.rules.specs.Limits.{max_letters, no_row}
use Rattle.rules.specs.Systems.{cell}
use Rattle.rules.specs.Tables.{table_of}
use Rattle.rules.specs.Claims.{table_rows, row_targets, row_priorities, source_states, record_numbers}
use Rattle.rules.specs.Says.{translate_fault, RowArrays, TranslateSays}
use Rattle.rules.specs.Texts.{blank, line_feed, dash, numeral, each, put}

-- fields
unfoldable pub field : ℕ → ℕ → List ℕ
field n end = numeral n ++ (end ∷ [])

unfoldable pub optional : Bool → ℕ → ℕ → List ℕ
optional none n end = pick none (dash ∷ []) (numeral n) ++ (end ∷ [])

-- lines
unfoldable pub line : ℕ → ℕ → ℕ → ℕ → ℕ → ℕ → List ℕ
line i q r a t p =
    field i blank ++ (field q blank ++ (optional (eqb r 0) r blank ++ (field a blank ++ (optional (eqb t no_row) t blank ++ optional (eqb t no_row) p line_feed))))

abbrev pub line_at : ℕ → List ℕ → List ℕ → ℕ → ℕ → ℕ → ℕ → List ℕ
line_at m ts ps i q r a = line i q r a (get_or ts (cell m i a) 0) (get_or ps (cell m i a) 0)

unfoldable pub row_lines : ℕ → List ℕ → List ℕ → ℕ → ℕ → ℕ → List ℕ
row_lines m ts ps i q r = each m 0 (line_at m ts ps i q r)

abbrev pub lines_at : ℕ → List ℕ → List ℕ → List ℕ → List ℕ → ℕ → List ℕ
lines_at m ts ps ss es i = row_lines m ts ps i (get_or ss i 0) (get_or es i 0)

unfoldable pub lines : ℕ → ℕ → List ℕ → List ℕ → List ℕ → List ℕ → List ℕ
lines n m ts ps ss es = each n 0 (lines_at m ts ps ss es)

unfoldable pub head : ℕ → ℕ → ℕ → List ℕ
head n m k = field n blank ++ (field m blank ++ field k line_feed)

unfoldable pub refusal_line : ℕ → List ℕ
refusal_line f = (114 ∷ 101 ∷ 102 ∷ 117 ∷ 115 ∷ 101 ∷ 100 ∷ blank ∷ []) ++ field f line_feed

-- the whole text
unfoldable pub table_listing : List ℕ → ℕ → List ℕ
table_listing bs c =
    let n = length (table_rows bs c) in
    let m = (table_of bs).letters in
    head n m (table_of bs).pairs ++ lines n m (row_targets bs c) (row_priorities bs c) (source_states bs c) (record_numbers bs c)

unfoldable pub listing : List ℕ → ℕ → ℕ → ℕ → ℕ → ℕ → List ℕ
listing bs c a b d e = pick (eqb (translate_fault bs c a b d e) 0) (table_listing bs c) (refusal_line (translate_fault bs c a b d e))

abbrev pub rows_listed : List ℕ → ℕ → ℕ → ℕ → ℕ → ℕ → ℕ
rows_listed bs c a b d e = pick (eqb (translate_fault bs c a b d e) 0) (length (table_rows bs c)) 0

abbrev pub listing_bound : ℕ → ℕ → ℕ
listing_bound c m = 10 + 26 * (c * min m max_letters)

pub record ListingSays (bs : List ℕ) (c : ℕ) (x x' : RowArrays) (o o' : List ℕ) (r : ℕ) : Type 0 where
  pub arrays : TranslateSays bs c x x' (translate_fault bs c (length x.targets) (length x.priorities) (length x.sources) (length x.records)) (rows_listed bs c (length x.targets) (length x.priorities) (length x.sources) (length x.records))
  pub text : o' ≡ put 0 (listing bs c (length x.targets) (length x.priorities) (length x.sources) (length x.records)) o
  pub size : r ≡ length (listing bs c (length x.targets) (length x.priorities) (length x.sources) (length x.records))
  pub bound : r ≤ listing_bound c (table_of bs).letters
