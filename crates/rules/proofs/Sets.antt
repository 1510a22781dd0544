-- Lists as sets of what passes a test, numbers below a bound, the largest of a set.
--     any_append, any_map                          tests over a joined and a mapped list
--     any_fails                                    a test that nothing passes
--     none_at, fails_at                            a test that no place of a list passes
--     any_turn, any_end                            a test over a list that is gone through from the front
--     any_find, any_intro, any_none                a test over a list of numbers, by its elements
--     below_find, below_intro, below_same          a test over the numbers below a bound
--     apart                                        a test that distinguishes two numbers
--     least_passes, least_least                    the first number that passes a test
--     largest_over, largest_under, largest_same    the largest of a set, from both sides; it depends on the set alone
--     largest_is                                   the number that is above n exactly if some member of the set is
use mathlib.Core.Path.{◌≡◌, refl, sym, ap, ◌∙◌}
use mathlib.Core.Bool.{Bool, true, false, ◌||◌, or_assoc, or-false, false≢true}
use mathlib.Core.List.{List, [], ◌∷◌, ◌++◌, map}
use Prim.Native.Nat.{ℕ, zero, suc, ◌+◌, ◌≤◌, ◌<◌}
use native.Mathlib.Nat.{le_antisymm, lt_irrefl, not-suc-le-zero}
use native.Mathlib.Numerals.{add-one}
use native.Mathlib.Omega.{arith}
use lib.Dec.{eqb, ltb}
use lib.ListN.{length, get_or, drop, drop_of_length-le}
use lib.Seq.{drop-cons}
use borrow.Author.Tests.{eqb-true, eqb-false, eq-eqb, ltb-true, ltb-false, lt-ltb, le-ltb}
use Rattle.rules.specs.Basics.{any, SameSet, any_below, is_in, least, largest}
use Rattle.rules.proofs.Bools.{by, clash, or_cases, or_left, or_right, or_none}

pub any_append : {A : Type 0} (b : A → Bool) (xs ys : List A) → any b (xs ++ ys) ≡ any b xs || any b ys
any_append b [] ys = refl
any_append b (x ∷ xs) ys = rw (any_append b xs ys) (sym (or_assoc (b x) (any b xs) (any b ys)))

pub any_map : {A B : Type 0} (b : B → Bool) (f : A → B) (xs : List A) → any b (map f xs) ≡ any (λ x. b (f x)) xs
any_map b f [] = refl
any_map b f (x ∷ xs) = ap (λ (c : Bool). b (f x) || c) (any_map b f xs)

-- a test that nothing passes
pub any_fails : {A : Type 0} (b : A → Bool) (xs : List A) → ((x : A) → b x ≡ false) → any b xs ≡ false
any_fails b [] h = refl
any_fails b (x ∷ xs) h = rw (h x, any_fails b xs h)

-- by the places of a list
pub none_at : (b : ℕ → Bool) (xs : List ℕ) (i : ℕ) → any b xs ≡ false → i < length xs → b (get_or xs i 0) ≡ false
none_at b [] i h l = absurd (omega arith)
none_at b (x ∷ xs) zero h l = (or_none (b x) (any b xs) h).0
none_at b (x ∷ xs) (suc i) h l = none_at b xs i (or_none (b x) (any b xs) h).1 (omega arith)

pub fails_at : (b : ℕ → Bool) (xs : List ℕ) → ((i : ℕ) → i < length xs → b (get_or xs i 0) ≡ false) → any b xs ≡ false
fails_at b [] h = refl
fails_at b (x ∷ xs) h = rw (h 0 (omega arith), fails_at b xs (λ i l. h (suc i) (omega arith)))

-- every element of a list: what was found so far, or is still to be found
module _ (b : ℕ → Bool) (found : Bool) (xs : List ℕ) (c : ℕ) where
  pub any_turn : c < length xs → (found || b (get_or xs c 0)) || any b (drop (c + 1) xs) ≡ found || any b (drop c xs)
  any_turn l = rw (add-one c, drop-cons xs c 0 l) (or_assoc found _ _)

  pub any_end : length xs ≤ c → found || any b (drop c xs) ≡ any b xs → found ≡ any b xs
  any_end l h = sym (or-false found) ∙ (rw (drop_of_length-le xs l) at h)

-- lists of numbers, by their elements
pub any_find : (b : ℕ → Bool) (xs : List ℕ) → any b xs ≡ true → (x : ℕ) × (is_in x xs ≡ true) × (b x ≡ true)
any_find b [] h = absurd (false≢true h)
any_find b (y ∷ ys) h =
    or_cases (b y) (any b ys) h (λ e. (y, or_left (eqb y y) (is_in y ys) (eq-eqb y y refl), e))
    (λ e. let r = any_find b ys e in (r.0, or_right (eqb r.0 y) (is_in r.0 ys) r.1, r.2))

pub any_intro : (b : ℕ → Bool) (xs : List ℕ) (x : ℕ) → is_in x xs ≡ true → b x ≡ true → any b xs ≡ true
any_intro b [] x i h = absurd (false≢true i)
any_intro b (y ∷ ys) x i h =
    or_cases (eqb x y) (is_in x ys) i (λ e. or_left (b y) (any b ys) (rw (eqb-true x y e) at h))
    (λ e. or_right (b y) (any b ys) (any_intro b ys x e h))

pub any_none : (b : ℕ → Bool) (xs : List ℕ) (x : ℕ) → any b xs ≡ false → is_in x xs ≡ true → b x ≡ false
any_none b xs x h i = by (b x) (λ e. clash (any_intro b xs x i e) h) (λ e. e)

-- numbers below a bound
pub below_find : (n : ℕ) (b : ℕ → Bool) → any_below n b ≡ true → (i : ℕ) × (i < n) × (b i ≡ true)
below_find zero b h = absurd (false≢true h)
below_find (suc n) b h =
    or_cases (b n) (any_below n b) h (λ e. (n, omega arith, e)) (λ e. let r = below_find n b e in (r.0, omega arith, r.2))

pub below_intro : (n : ℕ) (b : ℕ → Bool) (i : ℕ) → i < n → b i ≡ true → any_below n b ≡ true
below_intro zero b i l h = absurd (not-suc-le-zero l)
below_intro (suc n) b i l h =
    by
    (eqb i n)
    (λ e. or_left (b n) (any_below n b) (rw (eqb-true i n e) at h))
    (λ e. or_right (b n) (any_below n b) (below_intro n b i (omega (arith, eqb-false i n e)) h))

pub below_same : (n : ℕ) (b c : ℕ → Bool) → ((i : ℕ) → i < n → b i ≡ c i) → any_below n b ≡ any_below n c
below_same zero b c h = refl
below_same (suc n) b c h = rw (h n (omega arith), below_same n b c (λ i l. h i (omega arith)))

-- the first number from i on that passes, where one does within f
least_hit : (f i : ℕ) (b : ℕ → Bool) → b i ≡ true → least (suc f) i b ≡ i
least_hit f i b e = rw (e, least)

least_miss : (f i : ℕ) (b : ℕ → Bool) → b i ≡ false → least (suc f) i b ≡ least f (suc i) b
least_miss f i b e = rw (e, least)

-- what distinguishes two numbers
pub apart : (b : ℕ → Bool) {i j : ℕ} → b i ≡ false → b j ≡ true → i ≡ j → ⊥
apart b p q e = clash q (rw e at p)

pub least_passes : (f i : ℕ) (b : ℕ → Bool) (j : ℕ) → i ≤ j → j < i + f → b j ≡ true → b (least f i b) ≡ true
least_passes zero i b j l u h = absurd (omega arith)
least_passes (suc f) i b j l u h =
    by
    (b i)
    (λ e. rw (least_hit f i b e) e)
    (λ e. let d = apart b e h in rw (least_miss f i b e) (least_passes f (suc i) b j (omega arith) (omega arith) h))

pub least_least : (f i : ℕ) (b : ℕ → Bool) (k : ℕ) → i ≤ k → b k ≡ true → least f i b ≤ k
least_least zero i b k l h = l
least_least (suc f) i b k l h =
    by
    (b i)
    (λ e. rw (least_hit f i b e) l)
    (λ e. let d = apart b e h in rw (least_miss f i b e) (least_least f (suc i) b k (omega arith) h))

-- the largest of a set
pub largest_over : {A : Type 0} (g : A → ℕ) (xs : List A) (n : ℕ) → any (λ x. ltb n (g x)) xs ≡ true → n < largest g xs
largest_over g [] n h = absurd (false≢true h)
largest_over g (x ∷ xs) n h =
    or_cases (ltb n (g x)) (any (λ y. ltb n (g y)) xs) h (λ e. omega (arith, ltb-true n (g x) e))
    (λ e. omega (arith, largest_over g xs n e))

pub largest_under : {A : Type 0} (g : A → ℕ) (xs : List A) (n : ℕ) → any (λ x. ltb n (g x)) xs ≡ false → largest g xs ≤ n
largest_under g [] n h = omega arith
largest_under g (x ∷ xs) n h =
    let r = or_none (ltb n (g x)) (any (λ y. ltb n (g y)) xs) h in omega (arith, ltb-false n (g x) r.0, largest_under g xs n r.1)

pub largest_same : {A : Type 0} (g : A → ℕ) (xs ys : List A) → SameSet xs ys → largest g xs ≡ largest g ys
largest_same {A} g xs ys e =
    le_antisymm (largest_under g xs (largest g ys) (e (λ x. ltb (largest g ys) (g x)) ∙ none ys))
    (largest_under g ys (largest g xs) (sym (e (λ x. ltb (largest g xs) (g x))) ∙ none xs))
  where
    none : (zs : List A) → any (λ x. ltb (largest g zs) (g x)) zs ≡ false
    none zs =
        by (any (λ x. ltb (largest g zs) (g x)) zs) (λ h. absurd (lt_irrefl (largest g zs) (largest_over g zs (largest g zs) h))) (λ h. h)

pub largest_is : {A : Type 0} (g : A → ℕ) (xs : List A) (v : ℕ) → ((n : ℕ) → ltb n v ≡ any (λ x. ltb n (g x)) xs) → largest g xs ≡ v
largest_is g xs v h = le_antisymm (largest_under g xs v (sym (h v) ∙ le-ltb v v (omega arith))) (over v h)
  where
    over : (u : ℕ) → ((n : ℕ) → ltb n u ≡ any (λ x. ltb n (g x)) xs) → u ≤ largest g xs
    over zero k = omega arith
    over (suc u) k = largest_over g xs u (sym (k u) ∙ lt-ltb u (suc u) (omega arith))
