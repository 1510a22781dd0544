-- Orderings numbered by their Lehmer code, below the factorial of their length and different for different orderings, for any length.
--     SameOccurs o l    claim: o is an ordering of l: it holds what l holds, as often
--     rank l o          number: the Lehmer code of an ordering o of l: the place in l of its first, then the number of the others
--     same_length       an ordering of l is as long as l
--     rank_below        its number is below the factorial of that length
--     rank_apart        orderings with the same number are the same
use mathlib.Core.Path.{◌≡◌, refl, sym, ap, ap₂, ◌∙◌}
use mathlib.Core.List.{List, [], ◌∷◌}
use Prim.Native.Nat.{ℕ, suc, ◌≤◌, ◌<◌}
use native.Mathlib.Omega.{arith}
use lib.Dec.{eqb}
use lib.ListN.{length, get_or}
use borrow.Author.Tests.{eqb-true, eq-eqb}
use Rattle.rules.specs.Basics.{pick, occurs}
use Rattle.rules.specs.Systems.{cell}
use Rattle.rules.specs.Rows.{place_of}
use Rattle.rules.specs.Forecasts.{factorial}
use Rattle.rules.proofs.Bools.{by}
use Rattle.rules.proofs.Exploration.{place_found}
use Rattle.rules.proofs.Arrays.{cell_within, cell_same}

abbrev pub SameOccurs : List ℕ → List ℕ → Type 0
SameOccurs o l = (i : ℕ) → occurs i o ≡ occurs i l

-- l without its first x
abbrev removed : ℕ → List ℕ → List ℕ
removed x [] = []
removed x (y ∷ l) = pick (eqb x y) l (y ∷ removed x l)

abbrev pub rank : List ℕ → List ℕ → ℕ
rank l [] = 0
rank l (x ∷ o) = cell (factorial (length (removed x l))) (place_of (eqb x) l) (rank (removed x l) o)

-- ---- one element
occurs_head : (x : ℕ) (o : List ℕ) → occurs x (x ∷ o) ≡ suc (occurs x o)
occurs_head x o = rw (eq-eqb x x refl)

place_below : (x : ℕ) (l : List ℕ) → 1 ≤ occurs x l → place_of (eqb x) l < length l
place_below x [] h = absurd (omega arith)
place_below x (y ∷ l) h = by (eqb x y) (λ e. rw (e, place_of) (omega arith)) (λ e. rw (e, place_of) (omega (arith, place_below x l (rw e at h))))

place_apart : (x y : ℕ) (l : List ℕ) → 1 ≤ occurs x l → 1 ≤ occurs y l → place_of (eqb x) l ≡ place_of (eqb y) l → x ≡ y
place_apart x y l h k e =
    eqb-true x _ (place_found (eqb x) 0 l (place_below x l h)) ∙ ap (λ (n : ℕ). get_or l n 0) e
    ∙ sym (eqb-true y _ (place_found (eqb y) 0 l (place_below y l k)))

removed_length : (x : ℕ) (l : List ℕ) → 1 ≤ occurs x l → suc (length (removed x l)) ≡ length l
removed_length x [] h = absurd (omega arith)
removed_length x (y ∷ l) h = by (eqb x y) (λ e. rw e) (λ e. rw e (ap suc (removed_length x l (rw e at h))))

occurs_swap : (i x y : ℕ) (l : List ℕ) → occurs i (x ∷ y ∷ l) ≡ occurs i (y ∷ x ∷ l)
occurs_swap i x y l =
    by (eqb i x) (λ e. by (eqb i y) (λ f. rw (e, f)) (λ f. rw (e, f))) (λ e. by (eqb i y) (λ f. rw (e, f)) (λ f. rw (e, f)))

removed_occurs : (x i : ℕ) (l : List ℕ) → 1 ≤ occurs x l → occurs i (x ∷ removed x l) ≡ occurs i l
removed_occurs x i [] h = absurd (omega arith)
removed_occurs x i (y ∷ l) h =
    by
    (eqb x y)
    (λ e. rw (e, eqb-true x y e))
    (λ e. rw e (occurs_swap i x y (removed x l) ∙ ap (λ (n : ℕ). pick (eqb i y) (suc n) n) (removed_occurs x i l (rw e at h))))

-- ---- the first element of an ordering, and the others
module _ (x : ℕ) (o l : List ℕ) (h : SameOccurs (x ∷ o) l) where
  head_there : 1 ≤ occurs x l
  head_there = omega (arith, h x, occurs_head x o)

  others_same : SameOccurs o (removed x l)
  others_same i =
      let e = h i ∙ sym (removed_occurs x i l head_there) in
      by (eqb i x) (λ f. omega (arith, rw f at e)) (λ f. rw f at e)

pub same_length : (o l : List ℕ) → SameOccurs o l → length o ≡ length l
same_length [] [] h = refl
same_length [] (y ∷ l) h = absurd (omega (arith, h y, occurs_head y l))
same_length (x ∷ o) l h = ap suc (same_length o (removed x l) (others_same x o l h)) ∙ removed_length x l (head_there x o l h)

pub rank_below : (o l : List ℕ) → SameOccurs o l → rank l o < factorial (length l)
rank_below [] l h = rw (← same_length [] l h) (omega arith)
rank_below (x ∷ o) l h =
    let there = head_there x o l h in
    let n = removed_length x l there in
    rw (← n) (cell_within (suc (length (removed x l))) _ _ _ (rw n (place_below x l there)) (rank_below o (removed x l) (others_same x o l h)))

pub rank_apart : (a b l : List ℕ) → SameOccurs a l → SameOccurs b l → rank l a ≡ rank l b → a ≡ b
rank_apart [] [] l h k e = refl
rank_apart [] (y ∷ b) l h k e = absurd (omega (arith, same_length [] l h, same_length (y ∷ b) l k))
rank_apart (x ∷ a) [] l h k e = absurd (omega (arith, same_length (x ∷ a) l h, same_length [] l k))
rank_apart (x ∷ a) (y ∷ b) l h k e =
    let u = head_there x a l h in
    let v = head_there y b l k in
    let n : length (removed y l) ≡ length (removed x l) = omega (arith, removed_length x l u, removed_length y l v) in
    let below = rank_below b (removed y l) (others_same y b l k) in
    let parts = cell_same (factorial (length (removed x l))) _ _ _ _ (rank_below a (removed x l) (others_same x a l h)) (rw n at below) (rw n at e) in
    let z : y ≡ x = sym (place_apart x y l u v parts.0) in
    ap₂ (λ (i : ℕ) (o : List ℕ). i ∷ o) (sym z)
    (rank_apart a b (removed x l) (others_same x a l h) (rw z at (others_same y b l k)) (rw z at parts.1))
