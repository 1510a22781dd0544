-- Records as codes: an ordering of pairs with three bits for each place.
--     limit              the most pairs that a record holds
--     base               one more than the largest number that a place can hold
--     is_pair i          test: i is the number of a pair
--     is_marked set i    test: pair i is in the set: bit i - 1 is set; 0 is no pair
--     marks_by p r       the marks whose prohibited pairs are the set p and whose required pairs are the set r
--     packed o           number: the code whose places hold o, the first pair lowest
--     places_of n w      list: the first n places of a code
--     places w           list: the places of a record's code
--     pairs_in w         list: the ordering that a record's code holds: its places that are used
use Rattle.std.specs.Prelude.{Bool, not, ◌&&◌, List, [], ◌∷◌, ℕ, zero, suc, ◌+◌, ◌-◌, ◌*◌, ◌/◌, ◌%◌, eqb}
use Rattle.rules.specs.Basics.{keep, bit}
use Rattle.rules.specs.Limits.{max_pairs}
use Rattle.rules.specs.Records.{Marks}

abbrev pub limit : ℕ
limit = max_pairs

abbrev pub base : ℕ
base = 8

abbrev pub is_pair : ℕ → Bool
is_pair i = not (eqb i 0)

abbrev pub is_marked : ℕ → ℕ → Bool
is_marked set i = is_pair i && bit (i - 1) set

abbrev pub marks_by : ℕ → ℕ → Marks
marks_by p r = record { prohibited = is_marked p; required = is_marked r }

abbrev pub packed : List ℕ → ℕ
packed [] = 0
packed (i ∷ o) = i + base * packed o

abbrev pub places_of : ℕ → ℕ → List ℕ
places_of zero w = []
places_of (suc n) w = w % base ∷ places_of n (w / base)

abbrev pub places : ℕ → List ℕ
places w = places_of limit w

abbrev pub pairs_in : ℕ → List ℕ
pairs_in w = keep is_pair (places w)
