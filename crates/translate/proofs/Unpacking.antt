-- Rows that are unpacked.
--     unpacked_more     one row more
--     unpacked_front    the first rows of an array, lent as a part of it
use mathlib.Core.Path.{◌≡◌, sym, ap, ◌∙◌}
use mathlib.Core.List.{List, ◌++◌}
use Prim.Native.Nat.{ℕ, ◌+◌, ◌<◌, ◌≤◌}
use native.Mathlib.Omega.{arith}
use lib.Dec.{eqb}
use lib.ListN.{length, get_or, set, take, drop, get_or-append}
use lib.Seq.{get_or-set_same, get_or-set_other, get_or-take, length-take-le}
use borrow.Author.Tests.{eqb-true, eqb-false}
use Rattle.rules.proofs.Bools.{by}
use Rattle.explore.specs.Cells.{source_in}
use Rattle.rules.proofs.Filling.{beyond_set, beyond_then, beyond_wider, over_beyond}
use Rattle.translate.specs.Keys.{number_in}
use Rattle.translate.specs.Rows.{Unpacked}

-- a place more of an array, where the others before it are written
noted_more : (n x : ℕ) (xs : List ℕ) (f : ℕ → ℕ) → n < length xs → x ≡ f n → ((i : ℕ) → i < n → get_or xs i 0 ≡ f i) → (i : ℕ) → i < n + 1 → get_or (set xs n x) i 0 ≡ f i
noted_more n x xs f room here before i l =
    by
    (eqb i n)
    (λ e. rw (eqb-true i n e) (get_or-set_same xs n x 0 room ∙ here))
    (λ e. let d = eqb-false i n e in get_or-set_other xs n i x 0 d ∙ before i (omega arith))

module _ (n : ℕ) (keys keys' ss ss' : List ℕ) (f : Unpacked n keys keys' ss ss') (lk : n < length keys) (ls : n < length ss) where
  pub unpacked_more : (x y : ℕ) → x ≡ source_in (get_or keys' n 0) → y ≡ number_in (get_or keys' n 0) → Unpacked (n + 1) keys (set keys' n y) ss (set ss' n x)
  unpacked_more x y hx hy =
      let same = f.key_rest.same n (omega arith) in
      record {
        states = noted_more n x ss' (λ i. source_in (get_or keys i 0)) (omega (arith, f.state_rest.size)) (rw same at hx) f.states;
        numbers = noted_more n y keys' (λ i. number_in (get_or keys i 0)) (omega (arith, f.key_rest.size)) (rw same at hy) f.numbers;
        state_rest = beyond_then (beyond_wider (omega arith) f.state_rest) (beyond_set (n + 1) ss' n x (omega arith));
        key_rest = beyond_then (beyond_wider (omega arith) f.key_rest) (beyond_set (n + 1) keys' n y (omega arith));
      }

pub unpacked_front : {n : ℕ} {es ks ss ss' : List ℕ} → n ≤ length es → Unpacked (length (take n es)) (take n es) ks ss ss' → Unpacked n es (ks ++ drop n es) ss ss'
unpacked_front {n} {es} {ks} room f =
    let all = length-take-le n es room in
    let size = f.key_rest.size ∙ all in
    record {
      states = λ i l. f.states i (rw all l) ∙ ap source_in (get_or-take n es i 0 l);
      numbers = λ i l. get_or-append ks (drop n es) 0 i (rw size l) ∙ f.numbers i (rw all l) ∙ ap number_in (get_or-take n es i 0 l);
      state_rest = rw all at f.state_rest;
      key_rest = over_beyond ks (ap (λ k. ks ++ drop k es) (sym size)) (omega (arith, size)) room;
    }
