-- Text: lists of bytes in ASCII. Nothing here knows automata.
--     blank, line_feed, dash    numbers: the bytes that are no digits
--     digit d                   number: the byte of a digit below 10
--     numeral_within f n        text: n in decimal, where f is no less than n
--     numeral n                 text: n in decimal, in the fewest digits: `0` for 0
--     each f i g                text: the texts g i, g (i + 1) .., f of them, one after the other
--     put at t o                list: o with the text t written from place `at` on; what falls past the end of o is dropped
use Rattle.std.specs.Prelude.{List, [], ◌∷◌, ◌++◌, ℕ, zero, suc, ◌+◌, ◌/◌, ◌%◌, ltb}
use Rattle.std.proofs.lemmas.List.Edits.{sets}
use Rattle.rules.specs.Basics.{pick, tabulate, joined}

abbrev pub blank : ℕ
blank = 32

abbrev pub line_feed : ℕ
line_feed = 10

abbrev pub dash : ℕ
dash = 45

abbrev pub digit : ℕ → ℕ
digit d = 48 + d

abbrev pub numeral_within : ℕ → ℕ → List ℕ
numeral_within zero n = digit n ∷ []
numeral_within (suc f) n = pick (ltb n 10) (digit n ∷ []) (numeral_within f (n / 10) ++ (digit (n % 10) ∷ []))

unfoldable pub numeral : ℕ → List ℕ
numeral n = numeral_within n n

unfoldable pub each : ℕ → ℕ → (ℕ → List ℕ) → List ℕ
each f i g = joined (λ t. t) (tabulate f i g)

abbrev pub put : ℕ → List ℕ → List ℕ → List ℕ
put at t o = sets o at t
