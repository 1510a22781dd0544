-- The cards that the program cites.
--     numbered       the card of a number is a card of the list
--     not_refused    in arrays with room for the most rows and letters a table that is translated is not refused
use mathlib.Core.Path.{◌≡◌, ◌∙◌}
use mathlib.Core.Bool.{true}
use mathlib.Core.List.{List}
use Prim.Native.Nat.{ℕ, ◌*◌, ◌≤◌}
use lib.Dec.{ltb}
use lib.ListN.{length, get_or}
use borrow.Author.Tests.{ltb-true}
use Rattle.rules.specs.Limits.{max_letters, max_rows}
use Rattle.rules.specs.Claims.{translated}
use Rattle.rules.specs.Says.{RowArrays, row_arrays, TranslateSays}
use Rattle.rules.specs.Cards.{Card, cards, IsCard}
use Rattle.rules.proofs.Refusals.{translated_none}

pub numbered : (i : ℕ) {c : Card} → ltb i (length cards) ≡ true → get_or cards i c ≡ c → IsCard c
numbered i within same = record { number = i; within = ltb-true i (length cards) within; same = same }

pub not_refused : {bs ts ps ss es : List ℕ} {o : RowArrays} {number rows : ℕ} → TranslateSays bs max_rows (row_arrays ts ps ss es) o number rows → translated bs max_rows ≡ true
    → max_rows * max_letters ≤ length ts → max_rows * max_letters ≤ length ps → max_rows ≤ length ss → max_rows ≤ length es → number ≡ 0
not_refused {bs} {ts} {ps} {ss} {es} says is lt lp ls le = says.refusal ∙ translated_none bs max_rows (length ts) (length ps) (length ss) (length es) is lt lp ls le
