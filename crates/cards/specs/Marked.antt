-- What the functions for cards with a star ask and give.
--     pairs_of set              list: the pairs of a set, rising
--     HasCard bs                claim: a card of the list says what the table's translation is
--     TranslatedAs bs o rows    claim: such a card, and the arrays begin with what it says
use Rattle.std.specs.Prelude.{List, ℕ, ◌-◌}
use Rattle.rules.specs.Basics.{keep, tabulate}
use Rattle.rules.specs.Says.{RowArrays}
use Rattle.rules.specs.Cards.{translates, IsCard, Begins}
use Rattle.records.specs.Packed.{base, is_marked}

abbrev pub pairs_of : ℕ → List ℕ
pairs_of set = keep (is_marked set) (tabulate (base - 1) 1 (λ i. i))

pub record HasCard (bs : List ℕ) : Type 0 where
  pub arrays : RowArrays
  pub card : IsCard (translates bs arrays)

pub record TranslatedAs (bs : List ℕ) (o : RowArrays) (rows : ℕ) : Type 0 where
  pub arrays : RowArrays
  pub card : IsCard (translates bs arrays)
  pub begins : Begins arrays o rows
