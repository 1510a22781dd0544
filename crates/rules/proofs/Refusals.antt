-- What follows where nothing is refused.
--     first_none, first_zero, when_none    a chain of refusals that gives none
--     in_range                             a size from 1 to the most, and what is tested after it
--     size_facts                           what holds of sizes within their ranges
--     table_facts                          what holds of a table that is well formed
--     word_facts                           what holds of a word with nothing to refuse
--     parity_facts                         what holds of a parity table with nothing to refuse
--     parity_none                          a parity table with nothing to refuse
--     array_facts                          what holds of a capacity in range and of lent arrays that are long enough, and arrays_enough the other way
--     translation_facts                    what holds of a table and of lent arrays that are translated
--     translated_none                      a table that is translated, with room in the arrays for any letters: nothing to refuse
--     fault_below, translation_below       the refusals of a table are those up to the marks', of a translation those up to full
use mathlib.Core.Path.{◌≡◌, refl}
use mathlib.Core.Bool.{Bool, true, false, not, ◌&&◌, ◌||◌}
use mathlib.Core.List.{List}
use Prim.Native.Nat.{ℕ, zero, suc, ◌*◌, ◌≤◌, ◌<◌}
use native.Mathlib.Nat.{le_antisymm, le_trans, mul-le-mul, mul-le-mul_left}
use native.Mathlib.Omega.{arith}
use lib.Dec.{eqb, ltb, leb}
use lib.ListN.{length, take}
use borrow.Author.Tests.{eqb-true, eqb-false, ne_eqb, ltb-false, le-ltb, leb-true, leb-false, not-true}
use Rattle.rules.specs.Basics.{first_of, when}
use Rattle.rules.specs.Limits.{max_states, max_letters, max_pairs, max_rows, max_piece, header_size, no_state, no_row}
use Rattle.rules.specs.Refusals as Refusal
use Rattle.rules.specs.Runs.{stray_letter}
use Rattle.rules.specs.Tables.{table_of, table_fault, bad_sizes, table_length, bad_targets, bad_marks}
use Rattle.rules.specs.Judges.{word_fault, parity_fault}
use Rattle.rules.specs.Claims.{table_rows, exceeds, translated}
use Rattle.rules.specs.Says.{are_short, arrays_fault, translate_fault}
use Rattle.rules.proofs.Bools.{or_none, and_parts}

-- ---- chains of refusals
-- no refusal: this one is not met, nor any after it
pub first_none : (b : Bool) (n r : ℕ) → first_of (when b (suc n)) r ≡ 0 → (b ≡ false) × (r ≡ 0)
first_none true n r h = absurd (omega arith)
first_none false n r h = (refl, h)

pub when_none : (b : Bool) (n : ℕ) → when b (suc n) ≡ 0 → b ≡ false
when_none true n h = absurd (omega arith)
when_none false n h = refl

pub first_zero : (x r : ℕ) → first_of x r ≡ 0 → (x ≡ 0) × (r ≡ 0)
first_zero zero r h = (refl, h)
first_zero (suc x) r h = absurd (omega arith)

-- ---- sizes within their ranges
pub in_range : (most n : ℕ) (later : Bool) → eqb n 0 || (ltb most n || later) ≡ false → (1 ≤ n) × (n ≤ most) × (later ≡ false)
in_range most n later h =
    let a = or_none (eqb n 0) (ltb most n || later) h in
    let b = or_none (ltb most n) later a.1 in
    let n0 = eqb-false n 0 a.0 in
    (omega arith, ltb-false most n b.0, b.1)

pub record SizeFacts (n m k : ℕ) : Type 0 where
  pub some_states : 1 ≤ n
  pub most_states : n ≤ max_states
  pub some_letters : 1 ≤ m
  pub most_letters : m ≤ max_letters
  pub most_pairs : k ≤ max_pairs
  pub most_cells : n * m ≤ max_states * max_letters

pub size_facts : (n m k : ℕ) → bad_sizes n m k ≡ false → SizeFacts n m k
size_facts n m k h =
    let a = in_range max_states n (eqb m 0 || (ltb max_letters m || ltb max_pairs k)) h in
    let b = in_range max_letters m (ltb max_pairs k) a.2 in
    record {
      some_states = a.0;
      most_states = a.1;
      some_letters = b.0;
      most_letters = b.1;
      most_pairs = ltb-false max_pairs k b.2;
      most_cells = mul-le-mul a.1 b.1;
    }

-- ---- a capacity in range and lent arrays that are long enough
pub record ArrayFacts (c m a b d e : ℕ) : Type 0 where
  pub some_rows : 1 ≤ c
  pub most_rows : c ≤ max_rows
  pub target_room : c * m ≤ a
  pub priority_room : c * m ≤ b
  pub state_room : c ≤ d
  pub record_room : c ≤ e

pub array_facts : (c m a b d e : ℕ) → are_short c m a b d e ≡ false → ArrayFacts c m a b d e
array_facts c m a b d e h =
    let rows = ltb d c || ltb e c in
    let p = in_range max_rows c (ltb a (c * m) || (ltb b (c * m) || rows)) h in
    let q = or_none (ltb a (c * m)) (ltb b (c * m) || rows) p.2 in
    let r = or_none (ltb b (c * m)) rows q.1 in
    let s = or_none (ltb d c) (ltb e c) r.1 in
    record {
      some_rows = p.0;
      most_rows = p.1;
      target_room = ltb-false a (c * m) q.0;
      priority_room = ltb-false b (c * m) r.0;
      state_room = ltb-false d c s.0;
      record_room = ltb-false e c s.1;
    }

pub arrays_enough : {c m a b d e : ℕ} → ArrayFacts c m a b d e → are_short c m a b d e ≡ false
arrays_enough {c} {m} {a} {b} {d} {e} t =
    rw
    (ne_eqb c 0 (λ z. omega (arith, t.some_rows)), le-ltb max_rows c t.most_rows, le-ltb a (c * m) t.target_room, le-ltb b (c * m) t.priority_room, le-ltb d c t.state_room, le-ltb e c t.record_room)

-- ---- a table that is well formed
pub record TableFacts (bs : List ℕ) : Type 0 where
  pub sizes : SizeFacts (table_of bs).states (table_of bs).letters (table_of bs).pairs
  pub exact : length bs ≡ table_length (table_of bs).states (table_of bs).letters
  pub start_state : (table_of bs).start < (table_of bs).states
  pub targets_good : bad_targets (table_of bs).states no_state (table_of bs).targets ≡ false
  pub marks_good : bad_marks (table_of bs).pairs (table_of bs).targets (table_of bs).marks ≡ false

pub table_facts : (bs : List ℕ) → table_fault bs ≡ 0 → TableFacts bs
unfolding table_fault
table_facts bs h =
    let t = table_of bs in
    let n = t.states in
    let m = t.letters in
    let l = table_length n m in
    let marks = when (bad_marks t.pairs t.targets t.marks) Refusal.marks in
    let targets = first_of (when (bad_targets n no_state t.targets) Refusal.target) marks in
    let start = first_of (when (leb n t.start) Refusal.start) targets in
    let long = first_of (when (ltb l (length bs)) Refusal.long) start in
    let short = first_of (when (ltb (length bs) l) Refusal.short) long in
    let sizes = first_of (when (bad_sizes n m t.pairs) Refusal.sizes) short in
    let a = first_none (ltb (length bs) 4) 0 sizes h in
    let b = first_none (bad_sizes n m t.pairs) 1 short a.1 in
    let c = first_none (ltb (length bs) l) 0 long b.1 in
    let d = first_none (ltb l (length bs)) 2 start c.1 in
    let e = first_none (leb n t.start) 3 targets d.1 in
    let f = first_none (bad_targets n no_state t.targets) 4 marks e.1 in
    let g = when_none (bad_marks t.pairs t.targets t.marks) 5 f.1 in
    record {
      sizes = size_facts n m t.pairs b.0;
      exact = le_antisymm (ltb-false l (length bs) d.0) (ltb-false (length bs) l c.0);
      start_state = leb-false n t.start e.0;
      targets_good = f.0;
      marks_good = g;
    }

-- ---- a word with nothing to refuse
pub record WordFacts (m : ℕ) (lead l : List ℕ) : Type 0 where
  pub some_loop : 0 < length l
  pub most_lead : length lead ≤ max_piece
  pub most_loop : length l ≤ max_piece
  pub lead_letters : stray_letter m lead ≡ false
  pub loop_letters : stray_letter m l ≡ false

pub word_facts : (m : ℕ) (lead l : List ℕ) → word_fault m lead l ≡ 0 → WordFacts m lead l
word_facts m lead l h =
    let a = first_none (eqb (length l) 0 || (ltb max_piece (length lead) || ltb max_piece (length l))) 9 (when (stray_letter m lead || stray_letter m l) Refusal.letter) h in
    let b = or_none (eqb (length l) 0) (ltb max_piece (length lead) || ltb max_piece (length l)) a.0 in
    let d = or_none (ltb max_piece (length lead)) (ltb max_piece (length l)) b.1 in
    let c = or_none (stray_letter m lead) (stray_letter m l) (when_none (stray_letter m lead || stray_letter m l) 8 a.1) in
    let l0 = eqb-false (length l) 0 b.0 in
    record {
      some_loop = omega arith;
      most_lead = ltb-false max_piece (length lead) d.0;
      most_loop = ltb-false max_piece (length l) d.1;
      lead_letters = c.0;
      loop_letters = c.1;
    }

-- ---- a parity table with nothing to refuse
pub record ParityFacts (n m : ℕ) (ts ps : List ℕ) : Type 0 where
  pub some_rows : 1 ≤ n
  pub most_rows : n ≤ max_rows
  pub some_letters : 1 ≤ m
  pub most_letters : m ≤ max_letters
  pub target_cells : n * m ≤ length ts
  pub priority_cells : n * m ≤ length ps
  pub most_cells : n * m ≤ max_rows * max_letters

pub parity_facts : (n m : ℕ) (ts ps : List ℕ) → parity_fault n m ts ps ≡ 0 → ParityFacts n m ts ps
parity_facts n m ts ps h =
    let targets = bad_targets n no_row (take (n * m) ts) in
    let arrays = ltb (length ts) (n * m) || (ltb (length ps) (n * m) || targets) in
    let a = in_range max_rows n (eqb m 0 || (ltb max_letters m || arrays)) (when_none _ 10 h) in
    let b = in_range max_letters m arrays a.2 in
    let c = or_none (ltb (length ts) (n * m)) (ltb (length ps) (n * m) || targets) b.2 in
    let d = or_none (ltb (length ps) (n * m)) targets c.1 in
    record {
      some_rows = a.0;
      most_rows = a.1;
      some_letters = b.0;
      most_letters = b.1;
      target_cells = ltb-false (length ts) (n * m) c.0;
      priority_cells = ltb-false (length ps) (n * m) d.0;
      most_cells = mul-le-mul a.1 b.1;
    }

pub parity_none : (n m : ℕ) (ts ps : List ℕ) → 1 ≤ n → n ≤ max_rows → 1 ≤ m → m ≤ max_letters → n * m ≤ length ts → n * m ≤ length ps
    → bad_targets n no_row (take (n * m) ts) ≡ false → parity_fault n m ts ps ≡ 0
parity_none n m ts ps n1 nm m1 mm lt lp h =
    rw
    (ne_eqb n 0 (λ e. omega arith), le-ltb max_rows n nm, ne_eqb m 0 (λ e. omega arith), le-ltb max_letters m mm, le-ltb (length ts) (n * m) lt, le-ltb (length ps) (n * m) lp, h)

-- ---- the largest refusal of a table
when_below : {k : ℕ} (b : Bool) (n : ℕ) → n ≤ k → when b n ≤ k
when_below true n l = l
when_below false n l = omega arith

first_below : {k r : ℕ} (b : Bool) (n : ℕ) → n ≤ k → r ≤ k → first_of (when b n) r ≤ k
first_below true zero l h = h
first_below true (suc n) l h = l
first_below false n l h = h

pub fault_below : (bs : List ℕ) → table_fault bs ≤ Refusal.marks
unfolding table_fault
fault_below bs =
    let t = table_of bs in
    first_below (ltb (length bs) header_size) Refusal.short (omega arith)
    (first_below (bad_sizes t.states t.letters t.pairs) Refusal.sizes (omega arith)
    (first_below (ltb (length bs) (table_length t.states t.letters)) Refusal.short (omega arith)
    (first_below (ltb (table_length t.states t.letters) (length bs)) Refusal.long (omega arith)
    (first_below (leb t.states t.start) Refusal.start (omega arith)
    (first_below (bad_targets t.states no_state t.targets) Refusal.target (omega arith)
    (when_below (bad_marks t.pairs t.targets t.marks) Refusal.marks (omega arith)))))))

-- ---- a translation
pub record TranslationFacts (bs : List ℕ) (c a b d e : ℕ) : Type 0 where
  pub fault : table_fault bs ≡ 0
  pub table : TableFacts bs
  pub arrays : ArrayFacts c (table_of bs).letters a b d e
  pub not_full : exceeds bs c ≡ false
  pub rows_fit : length (table_rows bs c) ≤ c

pub translation_facts : (bs : List ℕ) (c a b d e : ℕ) → translate_fault bs c a b d e ≡ 0 → TranslationFacts bs c a b d e
unfolding translate_fault
translation_facts bs c a b d e z =
    let m = (table_of bs).letters in
    let full = exceeds bs c in
    let r = first_zero (table_fault bs) (first_of (arrays_fault c m a b d e) (when full Refusal.full)) z in
    let u = first_none (are_short c m a b d e) 6 (when full Refusal.full) r.1 in
    let f = when_none full 7 u.1 in
    record { fault = r.0; table = table_facts bs r.0; arrays = array_facts c m a b d e u.0; not_full = f; rows_fit = ltb-false c _ f }

pub translated_none : (bs : List ℕ) (c a b d e : ℕ) → translated bs c ≡ true → c * max_letters ≤ a → c * max_letters ≤ b → c ≤ d → c ≤ e → translate_fault bs c a b d e ≡ 0
unfolding translate_fault
translated_none bs c a b d e h la lb ld le =
    let full = exceeds bs c in
    let r = and_parts (eqb (table_fault bs) 0) (leb 1 c && (leb c max_rows && not full)) h in
    let u = and_parts (leb 1 c) (leb c max_rows && not full) r.1 in
    let v = and_parts (leb c max_rows) (not full) u.1 in
    let z = eqb-true (table_fault bs) 0 r.0 in
    let cells : c * (table_of bs).letters ≤ c * max_letters = mul-le-mul_left c (table_facts bs z).sizes.most_letters in
    let room : ArrayFacts c (table_of bs).letters a b d e = record { some_rows = leb-true 1 c u.0; most_rows = leb-true c max_rows v.0; target_room = le_trans cells la; priority_room = le_trans cells lb; state_room = ld; record_room = le } in
    rw (z, arrays_enough room, not-true full v.1)

chain_below : {k r : ℕ} (x : ℕ) → x ≤ k → r ≤ k → first_of x r ≤ k
chain_below zero l h = h
chain_below (suc x) l h = l

pub translation_below : (bs : List ℕ) (c a b d e : ℕ) → translate_fault bs c a b d e ≤ Refusal.full
unfolding translate_fault
translation_below bs c a b d e =
    chain_below (table_fault bs) (omega (arith, fault_below bs))
    (first_below (are_short c (table_of bs).letters a b d e) Refusal.arrays (omega arith) (when_below (exceeds bs c) Refusal.full (omega arith)))
