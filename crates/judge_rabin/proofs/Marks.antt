-- A well-formed Rabin table: where its cells are, and when transitions satisfy it.
--     cell_facts         a cell is among the targets, and so are its two marks among the marks
--     mask_sums          what sums up the masks of transitions has in its two bytes what sums up the pairs prohibited and those required
--     union_satisfies    transitions satisfy the table unless each pair that one of them requires is prohibited by one of them
use mathlib.Core.Path.{◌≡◌, refl, sym, ap, ◌∙◌}
use mathlib.Core.Bool.{Bool, true, false, not, ◌&&◌}
use mathlib.Core.List.{List, [], ◌∷◌}
use Prim.Native.Nat.{ℕ, suc, ◌+◌, ◌-◌, ◌*◌, ◌/◌, ◌%◌, ◌^◌, ◌<◌}
use native.Mathlib.Nat.{lt_of_lt_of_le, le_trans, mod-lt}
use native.Mathlib.Omega.{arith}
use lib.Bits.{bit_and, and_le_l}
use lib.Dec.{eqb, ltb, lit≤}
use lib.ListN.{length}
use lib.Pow.{pow_mono, pow_pos, high, low, shr-shr, mod-pow-add, mod-mod-pow}
use borrow.Author.Tests.{eq-eqb, ne_eqb, ltb-true, ltb-false, not-true}
use Rattle.rules.specs.Basics.{any, bit}
use Rattle.rules.specs.Judges.{satisfies_pair, satisfies}
use Rattle.rules.specs.Limits.{max_states, max_letters}
use Rattle.rules.specs.Runs as Runs
use Rattle.rules.specs.Systems.{cell}
use Rattle.rules.specs.Tables.{Table, table_of}
use Rattle.rules.proofs.Bits.{bit_and_lem, bit_over, bits_determine}
use Rattle.rules.proofs.Bools.{by, clash, and_parts}
use Rattle.rules.proofs.Refusals.{table_facts}
use Rattle.rules.proofs.Sets.{any_fails, apart, below_find, below_intro}
use Rattle.tables.specs.Parts.{WellFormed}
use Rattle.rules.proofs.Arrays.{cell_within}
use Rattle.tables.proofs.Cells.{target_count, mark_count, marks_small}
use Rattle.judge.specs.Passes.{SumsUp}
use Rattle.judge_rabin.specs.Marks.{prohibited_marks, required_marks, mask_at}

pub record CellFacts (bs : List ℕ) (q a : ℕ) : Type 0 where
  pub few : cell (table_of bs).letters q a < max_states * max_letters
  pub target : cell (table_of bs).letters q a < length (table_of bs).targets
  pub marks : 2 * cell (table_of bs).letters q a + 1 < length (table_of bs).marks

pub cell_facts : (bs : List ℕ) (q a : ℕ) → WellFormed bs → (q < (table_of bs).states) × (a < (table_of bs).letters) → CellFacts bs q a
cell_facts bs q a sound l =
    let within = cell_within _ _ q a l.0 l.1 in
    record {
      few = omega (arith, within, (table_facts bs sound).sizes.most_cells);
      target = omega (arith, within, target_count bs sound);
      marks = omega (arith, within, mark_count bs sound);
    }

-- ---- the bits of the two parts of a number
-- bit i, from what is left below bit i + 1
digit : (v i : ℕ) → v % 2 ^ (1 + i) / 2 ^ i ≡ v / 2 ^ i % 2
digit v i = ap (λ (x : ℕ). x / 2 ^ i) (mod-pow-add v 1 i) ∙ high (v / 2 ^ i % 2) i (mod-lt v (pow_pos i))

bit_low : (v j i : ℕ) → i < j → bit i (v % 2 ^ j) ≡ bit i v
bit_low v j i l =
    let e : (j - (1 + i)) + (1 + i) ≡ j = omega arith in
    let same : v % 2 ^ j % 2 ^ (1 + i) ≡ v % 2 ^ (1 + i) = rw e at (mod-mod-pow v (j - (1 + i)) (1 + i)) in
    ap (λ (x : ℕ). eqb x 1) (sym (digit (v % 2 ^ j) i) ∙ ap (λ (x : ℕ). x / 2 ^ i) same ∙ digit v i)

bit_high : (v j i : ℕ) → bit i (v / 2 ^ j) ≡ bit (j + i) v
bit_high v j i = ap (λ (x : ℕ). eqb (x % 2) 1) (shr-shr v j i)

any_alike : {A : Type 0} (b d : A → Bool) (xs : List A) → ((x : A) → b x ≡ d x) → any b xs ≡ any d xs
any_alike b d [] h = refl
any_alike b d (x ∷ xs) h = rw (h x, any_alike b d xs h)

module _ (bs : List ℕ) (sound : WellFormed bs) where
  abbrev t : Table
  t = table_of bs

  -- a transition's pairs prohibited and required are a byte each
  bytes : (x : Runs.Taken) → (prohibited_marks t x < 2 ^ 8) × (required_marks t x < 2 ^ 8)
  bytes x =
      let small = marks_small bs sound (cell t.letters x.from x.by) in
      let most = pow_mono {j = 8} (le_trans (table_facts bs sound).sizes.most_pairs (lit≤ tt)) in
      (lt_of_lt_of_le small.0 most, lt_of_lt_of_le small.1 most)

  pub mask_sums : (xs : List Runs.Taken) (v : ℕ) → v < 2 ^ 16 → SumsUp bit (mask_at t) xs v
      → SumsUp bit (prohibited_marks t) xs (v % 2 ^ 8) × SumsUp bit (required_marks t) xs (v / 2 ^ 8)
  mask_sums xs v l h = (low_byte, high_byte)
    where
      low_byte : SumsUp bit (prohibited_marks t) xs (v % 2 ^ 8)
      low_byte i =
          by
          (ltb i 8)
          (λ e. let within = ltb-true i 8 e in
          bit_low v 8 i within ∙ h i
          ∙ any_alike (λ x. bit i (mask_at t x)) (λ x. bit i (prohibited_marks t x)) xs
          (λ x. sym (bit_low (mask_at t x) 8 i within) ∙ ap (bit i) (low (required_marks t x) 8 (bytes x).0)))
          (λ e. let beyond = pow_mono (ltb-false i 8 e) in
          bit_over i (v % 2 ^ 8) (lt_of_lt_of_le (mod-lt v (pow_pos 8)) beyond)
          ∙ sym (any_fails (λ x. bit i (prohibited_marks t x)) xs (λ x. bit_over i (prohibited_marks t x) (lt_of_lt_of_le (bytes x).0 beyond))))

      high_byte : SumsUp bit (required_marks t) xs (v / 2 ^ 8)
      high_byte i =
          bit_high v 8 i ∙ h (8 + i)
          ∙ any_alike (λ x. bit (8 + i) (mask_at t x)) (λ x. bit i (required_marks t x)) xs
          (λ x. sym (bit_high (mask_at t x) 8 i) ∙ ap (bit i) (high (required_marks t x) 8 (bytes x).0))

  module _ (xs : List Runs.Taken) (p r : ℕ) (l : r < 256) (barred : SumsUp bit (prohibited_marks t) xs p) (met : SumsUp bit (required_marks t) xs r) where
    pair_satisfied : (i : ℕ) → satisfies_pair t (suc i) xs ≡ not (bit i p) && bit i r
    pair_satisfied i = let e : suc i - 1 ≡ i = omega arith in rw (e, barred i, met i)

    -- no pair above pair k is required
    required_below : (i : ℕ) → bit i r ≡ true → i < t.pairs
    required_below i h =
        by
        (ltb i t.pairs)
        (λ e. ltb-true i t.pairs e)
        (λ e. let wide = pow_mono (ltb-false i t.pairs e) in
        clash h (met i ∙ any_fails (λ x. bit i (required_marks t x)) xs (λ x. bit_over i (required_marks t x) (lt_of_lt_of_le (marks_small bs sound (cell t.letters x.from x.by)).1 wide))))

    pub union_satisfies : satisfies t xs ≡ not (eqb (bit_and r p) r)
    union_satisfies = by (satisfies t xs) (λ e. rw (e, ne_eqb (bit_and r p) r (some e))) (λ e. rw (e, eq-eqb (bit_and r p) r (none e)))
      where
        some : satisfies t xs ≡ true → bit_and r p ≡ r → ⊥
        some e =
            let f = below_find t.pairs (λ i. satisfies_pair t (suc i) xs) e in
            let i = f.0 in
            let both = and_parts (not (bit i p)) (bit i r) (rw (pair_satisfied i) at f.2) in
            apart (bit i) (bit_and_lem i r p ∙ rw (both.1, not-true (bit i p) both.0)) both.1

        none : satisfies t xs ≡ false → bit_and r p ≡ r
        none e = bits_determine 8 (bit_and r p) r (omega (arith, and_le_l r p)) l (λ i h. bit_and_lem i r p ∙ same i)
          where
            same : (i : ℕ) → bit i r && bit i p ≡ bit i r
            same i =
                by
                (bit i r)
                (λ u. by
                (bit i p)
                (λ v. rw (u, v))
                (λ v. clash (below_intro t.pairs (λ j. satisfies_pair t (suc j) xs) i (required_below i u) (pair_satisfied i ∙ rw (u, v))) e))
                (λ u. rw u)
