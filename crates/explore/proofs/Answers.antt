-- From what the exploration found to what it promises.
--     has_room                                  what holds where no array is too short
--     fit_sizes                                 what a task that is not unfit has
--     rows_done                                 all rows are read, or more than the capacity were found
--     many_after                                rows read with a large index after those read with a small one
--     answer_unfit, answer_full, answer_rows    the three answers
--     answer_explored                           the answer by what was explored
use mathlib.Core.Path.{◌≡◌, refl, sym, ap, ◌∙◌}
use mathlib.Core.Bool.{true, false, ◌||◌}
use mathlib.Core.List.{List}
use Prim.Native.Nat.{ℕ, suc, ◌*◌, ◌<◌, ◌≤◌}
use native.Mathlib.Nat.{mul-le-mul}
use native.Mathlib.Omega.{arith}
use lib.Dec.{eqb, ltb, leb}
use lib.ListN.{length}
use lib.Seq.{length-take-le}
use borrow.Author.Tests.{eqb-false, ltb-true, ltb-false, lt-ltb, le-ltb, leb-false}
use Rattle.rules.specs.Basics.{any}
use Rattle.rules.specs.Limits.{max_letters, no_row}
use Rattle.rules.specs.Rows.{Plan, rows_of, target_number}
use Rattle.rules.specs.Says.{are_short}
use Rattle.rules.proofs.Bools.{by, or_none}
use Rattle.rules.proofs.Refusals.{array_facts}
use Rattle.rules.proofs.Sets.{none_at}
use Rattle.explore.specs.declared.Task.{Task}
use Rattle.std.specs.Prelude.{Option, Some, None, Ok, Err}
use Rattle.std.specs.Option.{ok_or}
use Rattle.explore.specs.declared.Unexplored.TheVariants.{Full, Unfit}
use Rattle.explore.specs.Cells.{source_in, strays}
use Rattle.explore.specs.Effects.{key_plan}
use Rattle.explore.specs.Exploring.{states_in, is_unfit, Closed, RowRoom, RowsPart, ExploresAll, AllRead, ExploreSays, lent}
use Rattle.rules.proofs.Filling.{beyond_then, beyond_wider, cells_over, front_over}
use Rattle.explore.proofs.Rounds.{all_read, all_over}

-- ---- what can be explored
pub has_room : (m c : ℕ) (ts ps keys : List ℕ) → are_short c m (length ts) (length ps) (length keys) (length keys) ≡ false → RowRoom m c ts ps keys
has_room m c ts ps keys h =
    let r = array_facts c m (length ts) (length ps) (length keys) (length keys) h in
    record { some_rows = r.some_rows; most_rows = r.most_rows; target_room = r.target_room; priority_room = r.priority_room; key_room = r.record_room }

module _ (t : Task) (cells : List ℕ) (c : ℕ) (keys ts ps : List ℕ) where
  abbrev m : ℕ
  m = t.letters

  abbrev n : ℕ
  n = states_in m cells

  pub fit_sizes : is_unfit t cells c (length keys) (length ts) (length ps) ≡ false → Closed t cells × RowRoom m c ts ps keys
  unfolding is_unfit
  fit_sizes h =
      let short = are_short c m (length ts) (length ps) (length keys) (length keys) in
      let outside = leb n (source_in t.start) || any (strays n) cells in
      let p = or_none (eqb m 0) (ltb max_letters m || (outside || short)) h in
      let q = or_none (ltb max_letters m) (outside || short) p.1 in
      let r = or_none outside short q.1 in
      let s = or_none (leb n (source_in t.start)) (any (strays n) cells) r.0 in
      (record { some_letters = omega (arith, eqb-false m 0 p.0); most_letters = ltb-false max_letters m q.0; start = leb-false n (source_in t.start) s.0; leads = λ i l. none_at (strays n) cells i s.1 l }, has_room m c ts ps keys r.1)

-- ---- the rows that were found
module _ (rule : ℕ → ℕ → ℕ) (t : Task) (cells : List ℕ) where
  abbrev g : Plan ℕ
  g = key_plan rule t cells

  module _ (c i : ℕ) (keys keys' ts ts' ps ps' : List ℕ) (r : ℕ) (part : RowsPart rule t cells c i (lent keys ts ps) (lent keys' ts' ps') r) where
    pub rows_done : (i < r → r ≤ c → ⊥) → ExploresAll rule t cells c (lent keys ts ps) (lent keys' ts' ps') r
    rows_done ended =
        by
        (ltb c r)
        (λ e. all_over rule t cells c keys ts ps i r keys' ts' ps' (ltb-true c r e) part)
        (λ e. let few = ltb-false c r e in
        let z : i ≡ r = by (ltb i r) (λ b. absurd (ended (ltb-true i r b) few)) (λ b. omega (arith, ltb-false i r b, (part.stage few).within)) in
        let p = rw z at part in
        all_read rule t cells c keys ts ps r keys' ts' ps' few (p.stage few) (p.new_rest few) p.target_rest p.priority_rest)

    pub many_after : r ≤ c → (keys'' ts'' ps'' : List ℕ) (r' : ℕ) → r ≤ r' → ExploresAll rule t cells c (lent keys' ts' ps') (lent keys'' ts'' ps'') r'
        → ExploresAll rule t cells c (lent keys ts ps) (lent keys'' ts'' ps'') r'
    many_after h keys'' ts'' ps'' r' more x =
        let within = (part.stage h).within in
        let rest = part.new_rest h in
        record {
          full = x.full;
          rows = x.rows;
          read = x.read;
          key_rest = beyond_then (beyond_wider h rest) x.key_rest;
          target_rest = beyond_then (beyond_wider (mul-le-mul (omega (arith, within)) (omega arith)) part.target_rest) x.target_rest;
          priority_rest = beyond_then (beyond_wider (mul-le-mul (omega (arith, within)) (omega arith)) part.priority_rest) x.priority_rest;
          new_keys = λ b. beyond_then (beyond_wider more rest) (x.new_keys b);
          new_targets = λ b. beyond_then (beyond_wider (mul-le-mul (omega (arith, within)) (omega arith)) part.target_rest) (x.new_targets b);
          new_priorities = λ b. beyond_then (beyond_wider (mul-le-mul (omega (arith, within)) (omega arith)) part.priority_rest) (x.new_priorities b);
        }

-- ---- the answers
module _ (rule : ℕ → ℕ → ℕ) (t : Task) (cells : List ℕ) (c : ℕ) (keys ts ps : List ℕ) where
  pub answer_unfit : is_unfit t cells c (length keys) (length ts) (length ps) ≡ true → ExploreSays rule t cells c (lent keys ts ps) (lent keys ts ps) (Err Unfit)
  answer_unfit h = record { answer = rw h; arrays = (refl, refl, refl) }

  module _ (fit : is_unfit t cells c (length keys) (length ts) (length ps) ≡ false) (keys' ts' ps' : List ℕ) (r : ℕ) (x : ExploresAll rule t cells c (lent keys ts ps) (lent keys' ts' ps') r) where
    pub answer_full : c < r → ExploreSays rule t cells c (lent keys ts ps) (lent keys' ts' ps') (Err Full)
    answer_full more =
        record { answer = rw (fit, sym x.full ∙ lt-ltb c r more); arrays = (x.key_rest, x.target_rest, x.priority_rest) }

    pub answer_rows : r ≤ c → ExploreSays rule t cells c (lent keys ts ps) (lent keys' ts' ps') (Ok r)
    answer_rows few =
        let s = fit_sizes t cells c keys ts ps fit in
        let k = s.1.key_room in
        let wide : r * t.letters ≤ c * t.letters = mul-le-mul few (omega arith) in
        let rs = rows_of (key_plan rule t cells) c in
        let count : r ≡ length rs = sym (ap length (sym (x.rows few)) ∙ length-take-le r keys' (omega (arith, x.key_rest.size))) in
        record {
          answer = rw (fit, sym x.full ∙ le-ltb c r few, ← count);
          arrays = (front_over r keys keys' rs (omega arith) (x.rows few) (x.new_keys few), cells_over rs t.start (target_number (key_plan rule t cells) no_row rs) count s.0.some_letters (omega (arith, s.1.target_room)) (x.new_targets few) (x.read few).targets, cells_over rs t.start (λ v a. ((key_plan rule t cells).step v a).prio) count s.0.some_letters (omega (arith, s.1.priority_room)) (x.new_priorities few) (x.read few).priorities);
        }

  -- by what was explored, in arrays that have their names still
  pub answer_explored : is_unfit t cells c (length keys) (length ts) (length ps) ≡ false → (keys' ts' ps' keys'' ts'' ps'' : List ℕ) (y : Option ℕ) → keys'' ≡ keys' → ts'' ≡ ts' → ps'' ≡ ps'
      → AllRead rule t cells c (lent keys ts ps) (lent keys' ts' ps') y → ExploreSays rule t cells c (lent keys ts ps) (lent keys'' ts'' ps'') (ok_or y Full)
  answer_explored fit keys' ts' ps' keys'' ts'' ps'' (Some r) a b d x = rw (a, b, d) (answer_rows fit keys' ts' ps' r x.0 x.1)
  answer_explored fit keys' ts' ps' keys'' ts'' ps'' None a b d x = rw (a, b, d) (answer_full fit keys' ts' ps' (suc c) x (omega arith))
