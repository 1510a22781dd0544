-- The lent arrays stay the same arrays.
--     same_then    from one call to the next
use mathlib.Core.Path.{◌∙◌}
use Rattle.explore.specs.declared.rows.Rows.{Rows}
use Rattle.explore.specs.Lending.{SameLent}

pub same_then : {r r' r'' : Rows} → SameLent r r' → SameLent r' r'' → SameLent r r''
same_then x y =
    record {
      capacity = y.capacity ∙ x.capacity;
      keys = y.keys ∙ x.keys;
      targets = y.targets ∙ x.targets;
      priorities = y.priorities ∙ x.priorities;
    }
