-- Rows and their discovery, and the arrays of a table of rows; over any kind of row.
--     Step                                          record: what a row does by a letter: whether the transition is there, the row it leads to, its priority
--     Plan                                          record: what is explored: the letters, the first row, the step, and when two rows are the same
--     SameIsEqual g                                 claim: sameness of rows is equality
--     place_of b xs                                 number: the place of the first element that passes b, past the end for none
--     number_of g r rs                              number: that of the first row of rs that is the same as r, past the end for absent
--     rows_with g rs r a                            list: rs after the row r is read by the letter a: its target added at the end, if it is there and absent
--     found_by f a g r rs                           list: rs after r is read by the letters a, a + 1 .., f of them
--     found_from f i g c rs                         list: rs after the rows i, i + 1 .. are read, f of them at most, as long as there are such and no more than
--                                                   c
--     rows_of g c                                   list: the reachable rows in order of discovery, rows read by number and letters rising within each; no
--                                                   further row is read once there are more than c
--     is_full g c                                   test: more than c rows were found
--     row_at g rs i                                 row number i
--     Reached g r                                   claim: some letters lead from the first row to r
--     Distinct g rs                                 claim: no row is twice in rs
--     Earlier j b i a                               claim: row j is read by the letter b before row i is by a: rows by number, letters rising within each
--     Discovered g rs k                             claim: row k is what a transition of an earlier row leads to, and every transition that is read earlier
--                                                   leads to a row numbered below k
--     MoreThan g c                                  claim: more than c different rows are reachable
--     RowsAre g c                                   claim: the rows found are exactly the reachable ones, each once, in order of discovery, unless there are
--                                                   more than c, which is full
--     target_number g none rs r a                   number: that of the row to which r leads by a, `none` where the transition is missing
--     all_targets g none rs, all_priorities g rs    lists: those of each row, joined
--     CellsRead g none rs p ts ps                   claim: the cells below p are read: ts has the number of the row to which each leads among rs, `none` where
--                                                   the transition is missing, and ps its priority
--     Row                                           record: a source state with a memory (a state of the parity automaton)
--     row q m                                       the row of state q and memory m
--     sources rs                                    list: the source state of each row
--     Keeper                                        record: a kind of memory: what it is where a component is entered, how it moves along an inside transition,
--                                                   the priority of that transition, and when two memories are the same
--     missing_priority, crossing_priority           the priorities of a missing and of a crossing transition
--     missing_step, inside_step, crossing_step      the steps of the three kinds of transition; a crossing enters its component anew
--     step_of s k r a                               the step of a row of a system with a keeper: one of these three
--     same_row k r r'                               test: the two have the same state and the same memory
--     plan_of s q k                                 the plan of a system with a keeper, from state q
use Rattle.std.specs.Prelude.{◌≡◌, ◌↔◌, ◌⊎◌, Bool, true, false, ◌&&◌, List, [], ◌∷◌, ◌++◌, map, ℕ, zero, suc, ◌<◌, eqb, ltb, leb, length, get_or}
use Rattle.rules.specs.Basics.{pick, tabulate, joined}
use Rattle.rules.specs.Systems.{System, cell, is_inside}

pub record Step (A : Type 0) : Type 0 where
  pub there : Bool
  pub to : A
  pub prio : ℕ

pub record Plan (A : Type 0) : Type 0 where
  pub letters : ℕ
  pub first : A
  pub step : A → ℕ → Step A
  pub same : A → A → Bool

pub record SameIsEqual {A : Type 0} (g : Plan A) : Type 0 where
  pub equal : (x y : A) → g.same x y ≡ true → x ≡ y
  pub self : (x : A) → g.same x x ≡ true

abbrev pub place_of : {A : Type 0} → (A → Bool) → List A → ℕ
place_of b [] = 0
place_of b (x ∷ xs) = elim (b x) [ true ↦ 0 | false ↦ suc (place_of b xs) ]

abbrev pub number_of : {A : Type 0} → Plan A → A → List A → ℕ
number_of g r rs = place_of (g.same r) rs

abbrev pub rows_with : {A : Type 0} → Plan A → List A → A → ℕ → List A
rows_with g rs r a = pick ((g.step r a).there && leb (length rs) (number_of g (g.step r a).to rs)) (rs ++ ((g.step r a).to ∷ [])) rs

abbrev pub found_by : {A : Type 0} → ℕ → ℕ → Plan A → A → List A → List A
found_by zero a g r rs = rs
found_by (suc f) a g r rs = found_by f (suc a) g r (rows_with g rs r a)

abbrev pub found_from : {A : Type 0} → ℕ → ℕ → Plan A → ℕ → List A → List A
found_from zero i g c rs = rs
found_from (suc f) i g c rs = elim (ltb i (length rs) && leb (length rs) c) [ true ↦ found_from f (suc i) g c (found_by g.letters 0 g (get_or rs i g.first) rs) | false ↦ rs ]

unfoldable pub rows_of : {A : Type 0} → Plan A → ℕ → List A
rows_of g c = found_from (suc c) 0 g c (g.first ∷ [])

abbrev pub is_full : {A : Type 0} → Plan A → ℕ → Bool
is_full g c = ltb c (length (rows_of g c))

-- what the rows found stand for, as in RULES, "Discovery"
abbrev pub row_at : {A : Type 0} → Plan A → List A → ℕ → A
row_at g rs i = get_or rs i g.first

pub data Reached {A : Type 0} (g : Plan A) : A → Type 0 where
  first_row : Reached g g.first
  next_row : {r : A} {a : ℕ} → Reached g r → a < g.letters → (g.step r a).there ≡ true → Reached g (g.step r a).to

abbrev pub Distinct : {A : Type 0} → Plan A → List A → Type 0
Distinct g rs = (i j : ℕ) → i < j → j < length rs → row_at g rs i ≡ row_at g rs j → ⊥

abbrev pub Earlier : ℕ → ℕ → ℕ → ℕ → Type 0
Earlier j b i a = (j < i) ⊎ ((j ≡ i) × (b < a))

pub record Discovered {A : Type 0} (g : Plan A) (rs : List A) (k : ℕ) : Type 0 where
  pub by_row : ℕ
  pub by_letter : ℕ
  pub from_before : by_row < k
  pub is_letter : by_letter < g.letters
  pub there : (g.step (row_at g rs by_row) by_letter).there ≡ true
  pub found : (g.step (row_at g rs by_row) by_letter).to ≡ row_at g rs k
  pub nothing_new : (j b : ℕ) → Earlier j b by_row by_letter → b < g.letters → (g.step (row_at g rs j) b).there ≡ true
      → number_of g (g.step (row_at g rs j) b).to rs < k

pub record MoreThan {A : Type 0} (g : Plan A) (c : ℕ) : Type 0 where
  pub many : List A
  pub more : c < length many
  pub distinct : Distinct g many
  pub reached : (k : ℕ) → k < length many → Reached g (row_at g many k)

pub record RowsAre {A : Type 0} (g : Plan A) (c : ℕ) : Type 0 where
  pub some : 0 < length (rows_of g c)
  pub first : row_at g (rows_of g c) 0 ≡ g.first
  -- each row is there once, and is the one of its number
  pub once : (k : ℕ) → k < length (rows_of g c) → number_of g (row_at g (rows_of g c) k) (rows_of g c) ≡ k
  pub numbered : (r : A) → number_of g r (rows_of g c) < length (rows_of g c) → row_at g (rows_of g c) (number_of g r (rows_of g c)) ≡ r
  -- in order of discovery
  pub discovered : (k : ℕ) → 0 < k → k < length (rows_of g c) → Discovered g (rows_of g c) k
  -- the reachable rows, and all of them unless there are too many
  pub reached : (k : ℕ) → k < length (rows_of g c) → Reached g (row_at g (rows_of g c) k)
  pub complete : is_full g c ≡ false → (r : A) → Reached g r → number_of g r (rows_of g c) < length (rows_of g c)
  pub full : (is_full g c ≡ true) ↔ MoreThan g c

-- the arrays
abbrev pub target_number : {A : Type 0} → Plan A → ℕ → List A → A → ℕ → ℕ
target_number g none rs r a = pick (g.step r a).there (number_of g (g.step r a).to rs) none

abbrev pub all_targets : {A : Type 0} → Plan A → ℕ → List A → List ℕ
all_targets g none rs = joined (λ r. tabulate g.letters 0 (target_number g none rs r)) rs

abbrev pub all_priorities : {A : Type 0} → Plan A → List A → List ℕ
all_priorities g rs = joined (λ r. tabulate g.letters 0 (λ a. (g.step r a).prio)) rs

pub record CellsRead {A : Type 0} (g : Plan A) (none : ℕ) (rs : List A) (p : ℕ) (ts ps : List ℕ) : Type 0 where
  pub targets : (j a : ℕ) → a < g.letters → cell g.letters j a < p → get_or ts (cell g.letters j a) 0 ≡ target_number g none rs (row_at g rs j) a
  pub priorities : (j a : ℕ) → a < g.letters → cell g.letters j a < p → get_or ps (cell g.letters j a) 0 ≡ (g.step (row_at g rs j) a).prio
  -- what is read leads to rows that are known
  pub closed : (j a : ℕ) → a < g.letters → cell g.letters j a < p → (g.step (row_at g rs j) a).there ≡ true
      → number_of g (g.step (row_at g rs j) a).to rs < length rs

-- rows of a transition system
pub record Row (M : Type 0) : Type 0 where
  pub source : ℕ
  pub memory : M

abbrev pub row : {M : Type 0} → ℕ → M → Row M
row q m = record { source = q; memory = m }

abbrev pub sources : {M : Type 0} → List (Row M) → List ℕ
sources rs = map (λ r. r.source) rs

pub record Keeper (M : Type 0) : Type 0 where
  pub enter : ℕ → M
  pub move : ℕ → ℕ → M → M
  pub prio : ℕ → ℕ → M → ℕ
  pub same : M → M → Bool

abbrev pub missing_priority : ℕ
missing_priority = 0

abbrev pub crossing_priority : ℕ
crossing_priority = 1

abbrev pub missing_step : {M : Type 0} → Row M → Step (Row M)
missing_step r = record { there = false; to = r; prio = missing_priority }

abbrev pub inside_step : {M : Type 0} → System → Keeper M → Row M → ℕ → Step (Row M)
inside_step s k r a = record { there = true; to = row (s.go r.source a) (k.move r.source a r.memory); prio = k.prio r.source a r.memory }

abbrev pub crossing_step : {M : Type 0} → System → Keeper M → Row M → ℕ → Step (Row M)
crossing_step s k r a = record { there = true; to = row (s.go r.source a) (k.enter (s.go r.source a)); prio = crossing_priority }

unfoldable pub step_of : {M : Type 0} → System → Keeper M → Row M → ℕ → Step (Row M)
step_of s k r a = pick (leb s.states (s.go r.source a)) (missing_step r) (pick (is_inside s r.source a) (inside_step s k r a) (crossing_step s k r a))

abbrev pub same_row : {M : Type 0} → Keeper M → Row M → Row M → Bool
same_row k r r' = eqb r.source r'.source && k.same r.memory r'.memory

abbrev pub plan_of : {M : Type 0} → System → ℕ → Keeper M → Plan (Row M)
plan_of s start k = record { letters = s.letters; first = row start (k.enter start); step = step_of s k; same = same_row k }
