-- Choices, tests over lists and numbers, tabulated lists. Nothing here knows automata.
--     pick b x y        x where b holds, else y
--     first_of a b      number: the first of the two that is not 0: refusals in their order
--     when b n          number: n where b holds, else 0
--     any b xs          test: some element of xs passes the test b
--     SameSet xs ys     claim: xs and ys hold the same elements: every test passes in both or in neither
--     any_below n b     test: some number below n passes the test b
--     sum_below n f     number: the sum of f i over the numbers i below n
--     most_below n f    number: the largest f i over the numbers i below n, 0 if there is none
--     is_in x xs        test: x is in xs
--     occurs x xs       number: how often x is in xs
--     keep b xs         list: the elements that pass the test b, in their order
--     least f i b       number: the first of i, i + 1 .. that passes b, looked for f times
--     tabulate f i g    list: g i, g (i + 1) .., f of them
--     joined g xs       list: the lists g x for each x of xs, one after the other
--     repeated n xs     list: xs, n times over
--     iter f n p        number: f applied n times to p
--     largest g xs      number: the largest g x, 0 if there is none
--     is_even n         test: n is even
--     bit i v           test: bit i of v is set, counted from 0
--     as_bits k b       number: its bits are the numbers below k that pass the test b
use Rattle.std.specs.Prelude.{◌≡◌, Bool, true, false, ◌||◌, List, [], ◌∷◌, ◌++◌, ℕ, zero, suc, ◌+◌, ◌/◌, ◌%◌, ◌^◌, max, eqb}

abbrev pub pick : {A : Type 0} → Bool → A → A → A
pick true x y = x
pick false x y = y

abbrev pub first_of : ℕ → ℕ → ℕ
first_of zero b = b
first_of (suc a) b = suc a

abbrev pub when : Bool → ℕ → ℕ
when true n = n
when false n = 0

abbrev pub any : {A : Type 0} → (A → Bool) → List A → Bool
any b [] = false
any b (x ∷ xs) = b x || any b xs

abbrev pub SameSet : {A : Type 0} → List A → List A → Type 0
SameSet {A} xs ys = (b : A → Bool) → any b xs ≡ any b ys

abbrev pub any_below : ℕ → (ℕ → Bool) → Bool
any_below zero b = false
any_below (suc n) b = b n || any_below n b

abbrev pub sum_below : ℕ → (ℕ → ℕ) → ℕ
sum_below zero f = 0
sum_below (suc n) f = f n + sum_below n f

abbrev pub most_below : ℕ → (ℕ → ℕ) → ℕ
most_below zero f = 0
most_below (suc n) f = max (f n) (most_below n f)

abbrev pub is_in : ℕ → List ℕ → Bool
is_in x xs = any (λ y. eqb x y) xs

abbrev pub occurs : ℕ → List ℕ → ℕ
occurs x [] = 0
occurs x (y ∷ ys) = pick (eqb x y) (suc (occurs x ys)) (occurs x ys)

abbrev pub keep : (ℕ → Bool) → List ℕ → List ℕ
keep b [] = []
keep b (x ∷ xs) = pick (b x) (x ∷ keep b xs) (keep b xs)

abbrev pub least : ℕ → ℕ → (ℕ → Bool) → ℕ
least zero i b = i
least (suc f) i b = elim (b i) [ true ↦ i | false ↦ least f (suc i) b ]

abbrev pub tabulate : {A : Type 0} → ℕ → ℕ → (ℕ → A) → List A
tabulate zero i g = []
tabulate (suc f) i g = g i ∷ tabulate f (suc i) g

abbrev pub joined : {A B : Type 0} → (A → List B) → List A → List B
joined g [] = []
joined g (x ∷ xs) = g x ++ joined g xs

abbrev pub repeated : {A : Type 0} → ℕ → List A → List A
repeated zero xs = []
repeated (suc n) xs = xs ++ repeated n xs

abbrev pub iter : (ℕ → ℕ) → ℕ → ℕ → ℕ
iter f zero p = p
iter f (suc n) p = f (iter f n p)

abbrev pub largest : {A : Type 0} → (A → ℕ) → List A → ℕ
largest g [] = 0
largest g (x ∷ xs) = max (g x) (largest g xs)

abbrev pub is_even : ℕ → Bool
is_even n = eqb (n % 2) 0

abbrev pub bit : ℕ → ℕ → Bool
bit i v = eqb (v / 2 ^ i % 2) 1

abbrev pub as_bits : ℕ → (ℕ → Bool) → ℕ
as_bits zero b = 0
as_bits (suc k) b = when (b k) (2 ^ k) + as_bits k b
