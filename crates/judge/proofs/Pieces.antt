-- Reading a piece of a word letter by letter, over any transition system.
--     letter_below              the letters of a piece without stray bytes
--     piece_more                one letter more that leads on
--     read_misses               one letter more that meets a missing transition
--     sums_letter               the sum with one letter more
--     step_leads                a letter's transition that is there: path and sum with it
--     misses_within             a missing transition is met before the end of the piece
--     column_long, column_at    the part of some cells from a letter on: how long it is, and its entries
use mathlib.Core.Path.{◌≡◌, sym, ap, ◌∙◌}
use mathlib.Core.Bool.{Bool, false}
use mathlib.Core.List.{List, [], ◌∷◌, ◌++◌}
use Prim.Native.Nat.{ℕ, zero, suc, ◌+◌, ◌-◌, ◌<◌, ◌≤◌}
use native.Mathlib.Nat.{not-suc-le-zero}
use native.Mathlib.Numerals.{add-one}
use native.Mathlib.Omega.{arith}
use lib.Dec.{leb}
use lib.ListN.{length, get_or, take, drop, take-append-drop, length-take, length-drop, length-append}
use lib.Seq.{take-suc, drop-cons, length-take-le, get_or-take, get_or-drop}
use borrow.Author.Tests.{leb-false}
use Rattle.rules.specs.Systems.{System, Path, here, step}
use Rattle.rules.specs.Runs.{stray_letter, Taken, taken, pass_from}
use Rattle.rules.proofs.Bools.{or_none}
use Rattle.rules.proofs.Reach.{path_append}
use Rattle.rules.proofs.Runs.{path_end, pass_append}
use Rattle.judge.specs.declared.automaton.Reached.{Reached}
use Rattle.judge.specs.Passes.{SumsUp, Joins, MissesAfter, TransitionIs}
use Rattle.judge.specs.Sums.{sums_more}

pub letter_below : (m : ℕ) (w : List ℕ) → stray_letter m w ≡ false → (i : ℕ) → i < length w → get_or w i 0 < m
letter_below m [] h i l = absurd (not-suc-le-zero l)
letter_below m (a ∷ w) h zero l = leb-false m a (or_none (leb m a) (stray_letter m w) h).0
letter_below m (a ∷ w) h (suc i) l = letter_below m w (or_none (leb m a) (stray_letter m w) h).1 i (omega arith)

module _ (s : System) (p : ℕ) (w : List ℕ) (i q : ℕ) (a : Path s p (take i w) q) (l : i < length w) where
  pub piece_more : get_or w i 0 < s.letters → s.go q (get_or w i 0) < s.states → Path s p (take (i + 1) w) (s.go q (get_or w i 0))
  piece_more b t = rw (add-one i, take-suc w i 0 l) (path_append s a (step b t here))

  pub read_misses : get_or w i 0 < s.letters → s.states ≤ s.go q (get_or w i 0) → MissesAfter s p w i
  read_misses b t =
      record {
        stop =
            record {
              before = take i w;
              next = get_or w i 0;
              later = drop (suc i) w;
              place = q;
              piece = ap (λ (z : List ℕ). take i w ++ z) (sym (drop-cons w i 0 l)) ∙ take-append-drop i w;
              path = a;
              letter = b;
              absent = t;
            };
        count = length-take i w ∙ omega arith;
      }

  module _ (t : ℕ → ℕ → Bool) (g : Taken → ℕ) (j : ℕ → ℕ → ℕ) (joins : Joins t j) where
    pub sums_letter : (u : ℕ) → SumsUp t g (pass_from s p (take i w)) u → SumsUp t g (pass_from s p (take (i + 1) w)) (j u (g (taken q (get_or w i 0))))
    sums_letter u h =
        rw (add-one i, take-suc w i 0 l, pass_append s (take i w) (get_or w i 0 ∷ []) p, path_end s a)
        (sums_more t g j joins (pass_from s p (take i w)) (taken q (get_or w i 0)) u h)

-- a letter's transition that is there
pub step_leads : {M : Type 0} (f : M → ℕ) (s : System) (t : ℕ → ℕ → Bool) (g : Taken → ℕ) (j : ℕ → ℕ → ℕ) → Joins t j → (p : ℕ) (w : List ℕ) → stray_letter s.letters w ≡ false
    → (i q u : ℕ) → i < length w → Path s p (take i w) q → SumsUp t g (pass_from s p (take i w)) u
    → (a : ℕ) → a ≡ get_or w i 0 → (x : Reached M) → TransitionIs f s g q a x → (v : ℕ) → v ≡ j u (f x.mark)
    → (x.place < s.states) × Path s p (take (i + 1) w) x.place × SumsUp t g (pass_from s p (take (i + 1) w)) v
step_leads _ s t g j joins p w ok i q u l path sums a e x on v f =
    let there : x.place ≡ s.go q (get_or w i 0) = on.place ∙ ap (s.go q) e in
    let mark : v ≡ j u (g (taken q (get_or w i 0))) = f ∙ ap (j u) (on.mark ∙ ap (λ (b : ℕ). g (taken q b)) e) in
    (on.below, rw there (piece_more s p w i q path l (letter_below s.letters w ok i l) (rw there at on.below)), rw mark (sums_letter s p w i q path l t g j joins u sums))

pub misses_within : (s : System) (p : ℕ) (w : List ℕ) (n : ℕ) → MissesAfter s p w n → n < length w
misses_within s p w n m =
    let x = m.stop in
    let e = ap length x.piece in
    omega (arith, m.count, sym (length-append x.before (x.next ∷ x.later)) ∙ e)

-- ---- a letter's column: the part of a table's cells from the letter on
pub column_long : (xs : List ℕ) (a : ℕ) → a ≤ length xs → length (take (length xs - a) (drop a xs)) ≡ length xs - a
column_long xs a l = length-take-le (length xs - a) (drop a xs) (omega (arith, length-drop a xs))

pub column_at : (xs : List ℕ) (a j : ℕ) → j + a < length xs → get_or (take (length xs - a) (drop a xs)) j 0 ≡ get_or xs (j + a) 0
column_at xs a j l =
    get_or-take (length xs - a) (drop a xs) j 0 (omega arith) ∙ get_or-drop a xs j 0 ∙ ap (λ (k : ℕ). get_or xs k 0) (omega arith)
