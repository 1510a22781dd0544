-- Keys, and the codes of cells. A key is a row as one number, span times its state plus its memory. A code says what a cell of a table does.
--     span                                  one more than the largest memory
--     key_of q w, source_in, memory_in v    the key of the state q with the memory w; the parts of a key
--     crossing_kind, inside_kind            what is added for the kind of a transition that is there; a missing one has a code below both
--     crossing_code v                       the code of a crossing that enters at the key v
--     inside_code x marks                   the code of an inside transition to the state x
--     entered_in, target_in, marks_in w     numbers: the parts of the code w
--     state_in w                            the state to which the code w leads
--     strays n w                            test: the transition of w is there and leads to no state below n
--     step_in w e                           step of a cell with the code w and the effect e of its marks: the memory after it and the priority
use Rattle.std.specs.Prelude.{Bool, true, false, ◌&&◌, ℕ, ◌+◌, ◌*◌, ◌/◌, ◌%◌, ltb, leb}
use Rattle.rules.specs.Basics.{pick}
use Rattle.rules.specs.Rows.{Step, missing_priority, crossing_priority}

abbrev pub span : ℕ
span = 262144

abbrev pub key_of : ℕ → ℕ → ℕ
key_of q w = q * span + w

abbrev pub source_in : ℕ → ℕ
source_in v = v / span

abbrev pub memory_in : ℕ → ℕ
memory_in v = v % span

abbrev pub crossing_kind : ℕ
crossing_kind = 268435456

abbrev pub inside_kind : ℕ
inside_kind = 536870912

abbrev pub crossing_code : ℕ → ℕ
crossing_code v = crossing_kind + v

abbrev pub inside_code : ℕ → ℕ → ℕ
inside_code x marks = inside_kind + (65536 * x + marks)

abbrev pub entered_in : ℕ → ℕ
entered_in w = w % crossing_kind

abbrev pub target_in : ℕ → ℕ
target_in w = w / 65536 % 1024

abbrev pub marks_in : ℕ → ℕ
marks_in w = w % 65536

abbrev pub state_in : ℕ → ℕ
state_in w = pick (ltb w inside_kind) (source_in (entered_in w)) (target_in w)

abbrev pub strays : ℕ → ℕ → Bool
strays n w = leb crossing_kind w && leb n (state_in w)

unfoldable pub step_in : ℕ → ℕ → Step ℕ
step_in w e =
    pick (ltb w crossing_kind) (record { there = false; to = 0; prio = missing_priority })
    (pick (ltb w inside_kind) (record { there = true; to = entered_in w; prio = crossing_priority })
    (record { there = true; to = key_of (target_in w) (e % span); prio = e / span }))
