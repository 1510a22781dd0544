-- A row is read by a letter.
--     keyed_same                                                             sameness of keys is equality
--     key_row_lem                                                            the row of a number is the key of that number
--     step_here                                                              the step of a cell, by its code and the effect of its marks
--     row_size, row_effect, row_step                                         a row's codes: how many, the effect of each, and its step
--     row_fits, cell_fits                                                    the cells of a key that fits
--     code_fits, step_fits                                                   a code and a step lead to keys that fit
--     read_there                                                             a cell has been read whose transition is there and its key is filed
--     step_count, step_most, step_rest, step_rows, step_front, step_known    how many rows there are then, at most one more, what stays past them,
--                                                                            which they are, that those known before stay, and what is known
use mathlib.Core.Path.{◌≡◌, refl, sym, ap, ◌∙◌}
use mathlib.Core.Bool.{Bool, true, false}
use mathlib.Core.List.{List, [], ◌∷◌, ◌++◌}
use Prim.Native.Nat.{ℕ, suc, ◌+◌, ◌-◌, ◌*◌, ◌%◌, ◌<◌, ◌≤◌}
use native.Mathlib.Nat.{suc-mul, mul-le-mul_right, div-mul-le_self}
use native.Mathlib.Omega.{arith}
use lib.Dec.{eqb, ltb, leb}
use lib.ListN.{length, get_or, set, take, drop, length-set, length-append, length-drop}
use lib.Seq.{get_or-set_same, get_or-set_other, get_or-take, get_or-drop, length-take-le, take-suc-set}
use borrow.Author.Tests.{eqb-true, eq-eqb, ltb-true, ltb-false, leb-false, le-leb}
use Rattle.rules.specs.Basics.{pick}
use Rattle.rules.specs.Limits.{no_row}
use Rattle.rules.specs.Systems.{cell}
use Rattle.rules.specs.Rows.{Step, Plan, SameIsEqual, row_at, rows_with, target_number, CellsRead}
use Rattle.rules.proofs.Bools.{by, clash, and_both}
use Rattle.rules.proofs.Arrays.{get_d_any, row_ends}
use Rattle.explore.specs.declared.Task.{Task}
use Rattle.rules.specs.Arrays.{Beyond}
use Rattle.explore.specs.Index.{number_among}
use Rattle.explore.specs.Cells.{span, key_of, source_in, memory_in, crossing_kind, inside_kind, target_in, marks_in, state_in, strays, step_in}
use Rattle.explore.specs.Effects.{IsEffect, EffectsOn, keyed, key_step, key_plan}
use Rattle.explore.specs.Exploring.{states_in, Fits, Closed, StepRead, Known, lent}
use Rattle.explore.specs.Filing.{rows_after, Files}
use Rattle.rules.proofs.Filling.{beyond_none, beyond_set}
use Rattle.rules.proofs.Reading.{with_missing, with_there, target_there, step_found, cell_read}

pub keyed_same : (m first : ℕ) (step : ℕ → ℕ → Step ℕ) → SameIsEqual (keyed m first step)
keyed_same m first step = record { equal = λ x y e. eqb-true x y e; self = λ x. eq-eqb x x refl }

pub key_row_lem : (g : Plan ℕ) (n : ℕ) (keys : List ℕ) (i : ℕ) → i < n → n ≤ length keys → row_at g (take n keys) i ≡ get_or keys i 0
key_row_lem g n keys i l room = get_or-take n keys i g.first l ∙ get_d_any keys i g.first 0 (omega arith)

pub row_fits : (m : ℕ) (cells : List ℕ) (v : ℕ) → Fits m cells v → source_in v * m + m ≤ length cells
row_fits m cells v fits =
    let l : suc (source_in v) * m ≤ states_in m cells * m = mul-le-mul_right m fits in
    omega (arith, suc-mul (source_in v) m, div-mul-le_self (length cells) m)

pub cell_fits : (m : ℕ) (cells : List ℕ) (v a : ℕ) → Fits m cells v → a < m → cell m (source_in v) a < length cells
cell_fits m cells v a fits l = omega (arith, row_fits m cells v fits)

pub step_here : (rule : ℕ → ℕ → ℕ) (t : Task) (cells : List ℕ) (v v' a first e : ℕ) → v' ≡ v → first ≡ source_in v * t.letters → e ≡ rule (memory_in v) (marks_in (get_or cells (first + a) 0))
    → step_in (get_or cells (first + a) 0) e ≡ key_step rule t cells v' a
step_here rule t cells v v' a first e z f h = rw (z, h, f)

-- a row's codes, and their effects
module _ (rule : ℕ → ℕ → ℕ) (t : Task) (cells : List ℕ) (v : ℕ) (fits : Fits t.letters cells v) where
  abbrev first : ℕ
  first = source_in v * t.letters

  abbrev codes : List ℕ
  codes = take (first + t.letters - first) (drop first cells)

  few : first + t.letters - first ≡ t.letters
  few = omega arith

  pub row_size : length codes ≡ t.letters
  row_size = rw few (length-take-le t.letters (drop first cells) (omega (arith, length-drop first cells, row_fits t.letters cells v fits)))

  code_at : (a : ℕ) → a < t.letters → get_or codes a 0 ≡ get_or cells (cell t.letters (source_in v) a) 0
  code_at a l = get_or-take (first + t.letters - first) (drop first cells) a 0 (omega arith) ∙ get_or-drop first cells a 0

  module _ (a r : ℕ) (effects : List ℕ) (l : a < length codes) (x : EffectsOn rule (memory_in v) (length codes) r codes effects) where
    pub row_effect : IsEffect rule (memory_in v) (marks_in (get_or codes a 0)) (get_or effects (a * r) 0)
    row_effect = x.each a l

    pub row_step : (v' : ℕ) → v' ≡ v → step_in (get_or codes a 0) (get_or effects (a * r) 0) ≡ key_step rule t cells v' a
    row_step v' z =
        let same = code_at a (rw row_size at l) in
        rw same (step_here rule t cells v v' a first (get_or effects (a * r) 0) z refl (rw (← same) row_effect.is))

module _ (m : ℕ) (cells : List ℕ) (w e : ℕ) (leads : strays (states_in m cells) w ≡ false) where
  -- a code that is there leads to one of the states
  state_fits : crossing_kind ≤ w → state_in w < states_in m cells
  state_fits l =
      by
      (leb (states_in m cells) (state_in w))
      (λ f. clash (and_both (leb crossing_kind w) (leb (states_in m cells) (state_in w)) (le-leb crossing_kind w l) f) leads)
      (λ f. leb-false (states_in m cells) (state_in w) f)

  moved_source : source_in (key_of (target_in w) (e % span)) ≡ target_in w
  moved_source = omega arith

  pub code_fits : (step_in w e).there ≡ true → Fits m cells (step_in w e).to
  unfolding step_in
  code_fits t =
      by
      (ltb w crossing_kind)
      (λ f. clash t (rw f))
      (λ f. let s = state_fits (ltb-false w crossing_kind f) in by (ltb w inside_kind) (λ h. rw (f, h) (rw h at s)) (λ h. rw (f, h) (rw moved_source (rw h at s))))

module _ (rule : ℕ → ℕ → ℕ) (t : Task) (cells : List ℕ) (closed : Closed t cells) where
  abbrev g : Plan ℕ
  g = key_plan rule t cells

  abbrev m : ℕ
  m = t.letters

  law : SameIsEqual g
  law = keyed_same m t.start (key_step rule t cells)

  pub step_fits : (v a : ℕ) → Fits m cells v → a < m → (g.step v a).there ≡ true → Fits m cells (g.step v a).to
  step_fits v a fits l =
      let w = get_or cells (cell m (source_in v) a) 0 in
      code_fits m cells w (rule (memory_in v) (marks_in w)) (closed.leads (cell m (source_in v) a) (cell_fits m cells v a fits l))

  module _ (c n i a : ℕ) (keys ts ps : List ℕ) (li : i < n) (la : a < m) (k : Known rule t cells c n (cell m i a) (lent keys ts ps)) where
    abbrev v : ℕ
    v = get_or keys i 0

    abbrev x : Step ℕ
    x = g.step v a

    abbrev p : ℕ
    p = cell m i a

    abbrev rs : List ℕ
    rs = take n keys

    abbrev more : List ℕ
    more = rows_with g rs v a

    abbrev number : ℕ
    number = number_among x.to n keys

    room : n ≤ length keys
    room = omega (arith, k.filed.few, k.filed.key_room)

    rows_many : length rs ≡ n
    rows_many = length-take-le n keys room

    row_is : row_at g rs i ≡ v
    row_is = key_row_lem g n keys i li room

    within : p < c * m
    within = omega (arith, row_ends c m i (omega (arith, k.filed.few)))

    with_is : more ≡ pick x.there (pick (eqb number n) (rs ++ (x.to ∷ [])) rs) rs
    with_is = by x.there (λ e. with_there g law rs v a number e refl ∙ rw (e, rows_many)) (λ e. with_missing g law rs v a e ∙ rw e)

    target_is : pick x.there number no_row ≡ target_number g no_row more v a
    target_is = by x.there (λ e. ap (λ (b : Bool). pick b number no_row) e ∙ sym (step_found g law rs v a e).0 ∙ sym (target_there g no_row more v a e)) (λ e. rw e)

    module _ (keys' ts' ps' : List ℕ) (r : ℕ) (s : StepRead x c n p (lent keys ts ps) (lent keys' ts' ps') r) where
      by_outcome : {C : Type 0} → (x.there ≡ true → r ≡ suc n → (r ≤ c → keys' ≡ set keys n x.to) → more ≡ rs ++ (x.to ∷ []) → C)
          → (r ≡ n → (r ≤ c → keys' ≡ keys) → more ≡ rs → C) → C
      by_outcome f h =
          by
          x.there
          (λ e. by (eqb number n) (λ d. f e (s.count ∙ rw (e, d)) (λ q. s.key_array q ∙ rw (e, d)) (with_is ∙ rw (e, d))) (λ d. h (s.count ∙ rw (e, d)) (λ q. s.key_array q ∙ rw (e, d)) (with_is ∙ rw (e, d))))
          (λ e. h (s.count ∙ rw e) (λ q. s.key_array q ∙ rw e) (with_is ∙ rw e))

      pub step_count : r ≡ length more
      step_count =
          by_outcome (λ e z ks mo. z ∙ sym (rw mo (simp length-append (omega (arith, rows_many))))) (λ z ks mo. z ∙ sym (rw mo rows_many))

      pub step_most : r ≤ suc n
      step_most = by_outcome (λ e z ks mo. omega arith) (λ z ks mo. omega arith)

      pub step_rest : r ≤ c → Beyond r keys keys'
      step_rest q =
          by_outcome
          (λ e z ks mo. rw (ks q, z) (beyond_set (suc n) keys n x.to (omega arith)))
          (λ z ks mo. rw (ks q) (beyond_none r keys))

      pub step_rows : r ≤ c → take r keys' ≡ more
      step_rows q =
          by_outcome
          (λ e z ks mo. rw (ks q, z, mo) (take-suc-set keys n x.to (omega (arith, k.filed.key_room))))
          (λ z ks mo. rw (ks q, z, mo))

      pub step_front : r ≤ c → (j : ℕ) → j < n → get_or keys' j 0 ≡ get_or keys j 0
      step_front q j l =
          by_outcome
          (λ e z ks mo. rw (ks q) (get_or-set_other keys n j x.to 0 (λ d. omega arith)))
          (λ z ks mo. rw (ks q))

      fits_after : r ≤ c → (j : ℕ) → j < r → Fits m cells (get_or keys' j 0)
      fits_after q j l =
          by
          (ltb j n)
          (λ b. let lj = ltb-true j n b in rw (step_front q j lj) (k.fits j lj))
          (λ b. let ge = ltb-false j n b in by_outcome (λ e z ks mo. let d : j ≡ n = omega arith in rw (ks q, d, get_or-set_same keys n x.to 0 (omega (arith, k.filed.key_room))) (step_fits v a (k.fits i li) la e)) (λ z ks mo. absurd (omega arith)))

      cells_read : CellsRead g no_row more (suc p) ts' ps'
      cells_read =
          rw
          (s.target_array, s.priority_array)
          (rw row_is at (cell_read g law no_row rs i a p ts ps k.read refl (omega (arith, rows_many)) la (pick x.there number no_row) x.prio (omega (arith, within, k.target_room)) (omega (arith, within, k.priority_room)) (rw row_is target_is) (rw row_is)))

      pub step_known : r ≤ c → Known rule t cells c r (suc p) (lent keys' ts' ps')
      step_known q =
          record {
            filed = s.filed q;
            fits = fits_after q;
            read = rw (step_rows q) cells_read;
            target_room = rw s.target_array (simp length-set k.target_room);
            priority_room = rw s.priority_array (simp length-set k.priority_room);
          }

-- ---- what a function that reads a cell has done
module _ (x : Step ℕ) (c n p : ℕ) (keys ts ps : List ℕ) where
  pub read_there : (key prio number r : ℕ) (keys' : List ℕ) → x.there ≡ true → key ≡ x.to → prio ≡ x.prio → Files c key n keys keys' number → r ≡ rows_after n number
      → StepRead x c n p (lent keys ts ps) (lent keys' (set ts p number) (set ps p prio)) r
  read_there key prio number r keys' t k q s z =
      let same : number ≡ number_among x.to n keys = s.number ∙ ap (λ (y : ℕ). number_among y n keys) k in
      record {
        count = z ∙ ap (rows_after n) same ∙ rw t;
        filed = λ h. rw z (s.filed (rw z at h));
        key_array = λ h. s.key_array (rw z at h) ∙ ap (λ (y : ℕ). pick (eqb y n) (set keys n key) keys) same ∙ ap (λ (y : ℕ). pick (eqb (number_among x.to n keys) n) (set keys n y) keys) k ∙ rw t;
        target_array = ap (set ts p) same ∙ rw t;
        priority_array = ap (set ps p) q;
        key_rest = s.key_rest;
      }
