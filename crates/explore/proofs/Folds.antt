-- Folds over tests, which have no early exit.
--     fold_any    some element passes
--     fold_all    all elements pass
use mathlib.Core.Path.{◌≡◌, sym, ◌∙◌}
use mathlib.Core.Bool.{Bool, true, ◌&&◌, ◌||◌, or-false, or_assoc}
use mathlib.Core.List.{List, [], ◌∷◌}
use Prim.Native.Nat.{ℕ, zero, suc, ◌<◌}
use native.Mathlib.Omega.{arith}
use lib.ListN.{length, get_or}
use Rattle.std.specs.List.{fold}
use Rattle.rules.specs.Basics.{any}
use Rattle.rules.proofs.Bools.{and_parts}

module _ (b : ℕ → Bool) where
  pub fold_any : (found : Bool) (xs : List ℕ) → fold (λ f x. f || b x) found xs ≡ found || any b xs
  fold_any found [] = sym (or-false found)
  fold_any found (x ∷ xs) = fold_any (found || b x) xs ∙ or_assoc found (b x) (any b xs)

  pub fold_all : (same : Bool) (xs : List ℕ) → fold (λ s x. s && b x) same xs ≡ true → (same ≡ true) × ((i : ℕ) → i < length xs → b (get_or xs i 0) ≡ true)
  fold_all same [] h = (h, λ i l. absurd (omega arith))
  fold_all same (x ∷ xs) h =
      let r = fold_all (same && b x) xs h in
      let p = and_parts same (b x) r.0 in
      (p.0, each p.1 r.1)
    where
      each : b x ≡ true → ((i : ℕ) → i < length xs → b (get_or xs i 0) ≡ true) → (i : ℕ) → i < suc (length xs) → b (get_or (x ∷ xs) i 0) ≡ true
      each here rest zero l = here
      each here rest (suc i) l = rest i (omega arith)
