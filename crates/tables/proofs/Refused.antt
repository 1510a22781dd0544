-- The refusals of a table in their order: each is given where its test is the first that holds.
--     targets_part, marks_part        the parts of the bytes that the cells are
--     header_short .. cells_judged    one law for each test, from what the tests before it left; cells_judged for what both tests of the cells find
use mathlib.Core.Path.{◌≡◌}
use mathlib.Core.Bool.{Bool, true, false}
use mathlib.Core.List.{List}
use Prim.Native.Nat.{ℕ, ◌+◌, ◌-◌, ◌*◌}
use native.Mathlib.Omega.{arith}
use lib.Dec.{ltb, leb}
use lib.ListN.{length, take, drop}
use Rattle.rules.specs.Basics.{first_of, when}
use Rattle.rules.specs.Limits.{header_size, no_state}
use Rattle.rules.specs.Refusals as Refusal
use Rattle.rules.specs.Tables.{Table, table_of, table_fault, bad_sizes, table_length, bad_targets, bad_marks}
use Rattle.rules.specs.Says.{CheckSays}

module _ (bs : List ℕ) where
  abbrev t : Table
  t = table_of bs

  abbrev cells : ℕ
  cells = t.states * t.letters

  abbrev size : ℕ
  size = table_length t.states t.letters

  -- the parts of the bytes that the cells are
  pub targets_part : take (header_size + cells - header_size) (drop header_size bs) ≡ t.targets
  targets_part = let e : header_size + cells - header_size ≡ cells = omega arith in rw e

  pub marks_part : take (size - (header_size + cells)) (drop (header_size + cells) bs) ≡ t.marks
  marks_part = let e : size - (header_size + cells) ≡ 2 * cells = omega arith in rw e

  -- the refusals in their order
  pub header_short : ltb (length bs) header_size ≡ true → CheckSays bs Refusal.short
  unfolding table_fault
  header_short a = rw a

  module _ (whole : ltb (length bs) header_size ≡ false) where
    pub sizes_bad : bad_sizes t.states t.letters t.pairs ≡ true → CheckSays bs Refusal.sizes
    unfolding table_fault
    sizes_bad a = rw (whole, a)

    module _ (sizes : bad_sizes t.states t.letters t.pairs ≡ false) where
      pub cells_short : ltb (length bs) size ≡ true → CheckSays bs Refusal.short
      unfolding table_fault
      cells_short a = rw (whole, sizes, a)

      module _ (enough : ltb (length bs) size ≡ false) where
        pub cells_long : ltb size (length bs) ≡ true → CheckSays bs Refusal.long
        unfolding table_fault
        cells_long a = rw (whole, sizes, enough, a)

        module _ (exact : ltb size (length bs) ≡ false) where
          pub start_bad : leb t.states t.start ≡ true → CheckSays bs Refusal.start
          unfolding table_fault
          start_bad a = rw (whole, sizes, enough, exact, a)

          pub cells_judged : (wrong_target wrong_marks : Bool) → leb t.states t.start ≡ false
              → wrong_target ≡ bad_targets t.states no_state (take (header_size + cells - header_size) (drop header_size bs))
              → wrong_marks ≡ bad_marks t.pairs (take (header_size + cells - header_size) (drop header_size bs)) (take (size - (header_size + cells)) (drop (header_size + cells) bs))
              → CheckSays bs (first_of (when wrong_target Refusal.target) (when wrong_marks Refusal.marks))
          unfolding table_fault
          cells_judged wrong_target wrong_marks a e f = rw (e, f, targets_part, marks_part, whole, sizes, enough, exact, a)
