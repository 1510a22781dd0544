-- The numbers that the rules fix (RULES, "Layout", "Parity tables" and "Looped words").
--     max_states, max_letters, max_pairs    the largest sizes of a Rabin table
--     max_rows                              the largest capacity, and the most rows of a parity table
--     max_piece                             the most letters of a lead-in or of a loop that a judge takes
--     header_size                           the bytes before the first target
--     no_state                              the target byte that means no transition
--     no_row                                the target number of a parity table that means no transition
use Rattle.std.specs.Prelude.{ℕ}

abbrev pub max_states : ℕ
max_states = 64

abbrev pub max_letters : ℕ
max_letters = 16

abbrev pub max_pairs : ℕ
max_pairs = 6

abbrev pub max_rows : ℕ
max_rows = 4096

abbrev pub max_piece : ℕ
max_piece = 65535

abbrev pub header_size : ℕ
header_size = 4

abbrev pub no_state : ℕ
no_state = 255

abbrev pub no_row : ℕ
no_row = 65535
