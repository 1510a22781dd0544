-- Writing a text into an array of bytes from some place on.
--     farthest                 number: the last place at which a text may end, so that no place is beyond a number of 64 bits
--     InReach at t             claim: the text t, written from place `at` on, ends there at the latest
--     Wrote at t o o' r        claim: the array o has become o' by writing t from place `at` on, and r is the place that follows it
--     Writes w t w'            claim: the writer w has become w', over the same array, by writing t, where t is in reach of its place
--     optional_field n end     text: a number and the byte that ends its field, a dash for the number where there is none
--     Shown n m ts ps ss es    claim: there is room in these arrays for n rows of m letters, both within their ranges
use Rattle.std.specs.Prelude.{◌≡◌, List, [], ◌∷◌, ℕ, ◌+◌, ◌*◌, ◌≤◌, length, Option, None, Some}
use Rattle.rules.specs.Limits.{max_letters, max_rows}
use Rattle.rules.specs.Texts.{dash, put}
use Rattle.rules.specs.Listings.{field}
use Rattle.listing_text.specs.declared.text.Writer.{Writer}

abbrev pub farthest : ℕ
farthest = 4294967295

pub record InReach (at : ℕ) (t : List ℕ) : Type 0 where
  pub ends : at + length t ≤ farthest

pub record Wrote (at : ℕ) (t o o' : List ℕ) (r : ℕ) : Type 0 where
  pub contents : o' ≡ put at t o
  pub next : r ≡ at + length t

pub record Writes (w : Writer) (t : List ℕ) (w' : Writer) : Type 0 where
  pub array : w'.out.ghost_name ≡ w.out.ghost_name
  pub written : InReach w.at t → Wrote w.at t w.out.now w'.out.now w'.at

abbrev pub optional_field : Option ℕ → ℕ → List ℕ
optional_field None end = dash ∷ end ∷ []
optional_field (Some n) end = field n end

pub record Shown (n m : ℕ) (ts ps ss es : List ℕ) : Type 0 where
  pub most_rows : n ≤ max_rows
  pub most_letters : m ≤ max_letters
  pub target_cells : n * m ≤ length ts
  pub priority_cells : n * m ≤ length ps
  pub states : n ≤ length ss
  pub records : n ≤ length es
