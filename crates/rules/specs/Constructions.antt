-- What a construction has to show, stated once for every kind of memory, and what follows from it: demand 3 (proofs/Demand3).
--     memory_after s k q m w              memory: m carried from q along the letters of w
--     largest_along s k q m w             number: the largest priority on that way
--     Lawful s k good Fits                claim: a keeper k over the system s decides `good`, a condition on sets of transitions; Fits q m says that m
--                                         can be the memory at q
--     Faithful s start good n ts ps ss    claim: n rows with these targets, priorities and source states agree with the system and the
--                                         condition: on looped words of any length, in the judges' answers, and on closed walks
use Rattle.std.specs.Prelude.{◌≡◌, Bool, true, false, List, [], ◌∷◌, ℕ, ◌<◌, max, length}
use Rattle.rules.specs.Basics.{SameSet, is_even}
use Rattle.rules.specs.Systems.{System, is_inside, Path}
use Rattle.rules.specs.Runs.{Taken, pass_from, stray_letter, is_closed_walk, projected}
use Rattle.rules.specs.Rows.{Keeper}
use Rattle.rules.specs.Answers.{judged_by, unless_refused}
use Rattle.rules.specs.Judges.{parity_system, parity_good, parity_judge, word_fault}

abbrev pub memory_after : {M : Type 0} → System → Keeper M → ℕ → M → List ℕ → M
memory_after s k q m [] = m
memory_after s k q m (a ∷ w) = memory_after s k (s.go q a) (k.move q a m) w

abbrev pub largest_along : {M : Type 0} → System → Keeper M → ℕ → M → List ℕ → ℕ
largest_along s k q m [] = 0
largest_along s k q m (a ∷ w) = max (k.prio q a m) (largest_along s k (s.go q a) (k.move q a m) w)

pub record Lawful {M : Type 0} (s : System) (k : Keeper M) (good : List Taken → Bool) (Fits : ℕ → M → Type 0) : Type 0 where
  -- sameness is equality
  pub same_equal : (m m' : M) → k.same m m' ≡ true → m ≡ m'
  pub same_refl : (m : M) → k.same m m ≡ true
  -- every memory that is reached fits its state
  pub fits_enter : (q : ℕ) → q < s.states → Fits q (k.enter q)
  pub fits_move : (q a : ℕ) (m : M) → q < s.states → a < s.letters → is_inside s q a ≡ true → Fits q m → Fits (s.go q a) (k.move q a m)
  -- the condition looks at which transitions there are, and not at how often or in what order
  pub set_only : (xs ys : List Taken) → SameSet xs ys → good xs ≡ good ys
  -- a closed walk that carries the memory back to itself has an even largest priority exactly if it satisfies the condition
  pub loop : (q : ℕ) (m : M) (a : ℕ) (w : List ℕ) → Path s q (a ∷ w) q → Fits q m → memory_after s k q m (a ∷ w) ≡ m
      → is_even (largest_along s k q m (a ∷ w)) ≡ good (pass_from s q (a ∷ w))

pub record Faithful (s : System) (start : ℕ) (good : List Taken → Bool) (n : ℕ) (ts ps ss : List ℕ) : Type 0 where
  pub words : (lead l : List ℕ) → 0 < length l → stray_letter s.letters lead ≡ false → stray_letter s.letters l ≡ false
      → judged_by (parity_system n s.letters ts) 0 lead l (parity_good s.letters ps) ≡ judged_by s start lead l good
  pub judges : (lead l : List ℕ)
      → parity_judge n s.letters ts ps lead l ≡ unless_refused (word_fault s.letters lead l) (judged_by s start lead l good)
  pub walks : (xs : List Taken) → is_closed_walk (parity_system n s.letters ts) xs ≡ true
      → parity_good s.letters ps xs ≡ good (projected ss xs)
