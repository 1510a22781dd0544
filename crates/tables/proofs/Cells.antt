-- Where the cells of a well-formed table are among its bytes.
--     target_at, target_within, target_byte    the place of the byte that says where q goes by a, and that byte
--     prohibited_at, prohibited_byte_lem       the place of the byte of that transition's prohibited marks, and that byte
--     required_at, required_byte_lem           the same of its required marks
--     target_count, mark_count                 one target and two marks for each cell
--     marks_small                              no marks have a bit above pair k, whatever the cell
use mathlib.Core.Path.{◌≡◌, ◌∙◌}
use mathlib.Core.Bool.{false, not, ◌&&◌}
use mathlib.Core.List.{List, [], ◌∷◌}
use Prim.Native.Nat.{ℕ, zero, suc, ◌+◌, ◌*◌, ◌^◌, ◌<◌, ◌≤◌}
use native.Mathlib.Omega.{arith}
use lib.Dec.{eqb, ltb}
use lib.ListN.{length, get_or, drop, length-take, length-drop, get_or-eq_default}
use lib.Pow.{pow_pos}
use lib.Seq.{get_or-take, get_or-drop}
use borrow.Author.Tests.{ltb-true, not-false}
use Rattle.rules.specs.Limits.{header_size, no_state}
use Rattle.rules.specs.Systems.{cell}
use Rattle.rules.specs.Tables.{Table, table_of, target_of, prohibited_byte, required_byte, bad_mark, bad_marks}
use Rattle.rules.proofs.Arrays.{get_d_any, cell_within}
use Rattle.rules.proofs.Bools.{or_none, and_parts}
use Rattle.rules.proofs.Refusals.{table_facts}
use Rattle.tables.specs.Parts.{WellFormed}

-- marks that pass the check have no bit above pair k; past the last cell there are none
marks_below : (k : ℕ) (ts ms : List ℕ) (c : ℕ) → bad_marks k ts ms ≡ false → length ms ≤ 2 * length ts
    → (get_or ms (2 * c) 0 < 2 ^ k) × (get_or ms (suc (2 * c)) 0 < 2 ^ k)
marks_below k [] ms c h l =
    let past : (i : ℕ) → get_or ms i 0 < 2 ^ k = λ i. rw (get_or-eq_default ms 0 {n = i} (omega arith)) (pow_pos k) in
    (past (2 * c), past (suc (2 * c)))
marks_below k (x ∷ ts) ms zero h l =
    let a = or_none (bad_mark k x (get_or ms 0 0) (get_or ms 1 0)) (bad_marks k ts (drop 2 ms)) h in
    let b = or_none (not (ltb (get_or ms 0 0) (2 ^ k) && ltb (get_or ms 1 0) (2 ^ k))) (eqb x no_state && not (eqb (get_or ms 0 0) 0 && eqb (get_or ms 1 0) 0)) a.0 in
    let d = and_parts (ltb (get_or ms 0 0) (2 ^ k)) (ltb (get_or ms 1 0) (2 ^ k)) (not-false _ b.0) in
    (ltb-true (get_or ms 0 0) (2 ^ k) d.0, ltb-true (get_or ms 1 0) (2 ^ k) d.1)
marks_below k (x ∷ ts) ms (suc c) h l =
    let a = or_none (bad_mark k x (get_or ms 0 0) (get_or ms 1 0)) (bad_marks k ts (drop 2 ms)) h in
    let e : 2 + 2 * c ≡ 2 * suc c = omega arith in
    let f : 2 + suc (2 * c) ≡ suc (2 * suc c) = omega arith in
    let both = marks_below k ts (drop 2 ms) c a.1 (omega (arith, length-drop 2 ms)) in
    (rw (get_or-drop 2 ms (2 * c) 0, e) at both.0, rw (get_or-drop 2 ms (suc (2 * c)) 0, f) at both.1)

module _ (bs : List ℕ) where
  abbrev t : Table
  t = table_of bs

  abbrev cells : ℕ
  cells = t.states * t.letters

  -- the places of the target and of the marks of the transition of q by a
  abbrev pub target_at : ℕ → ℕ → ℕ
  target_at q a = header_size + q * t.letters + a

  abbrev pub prohibited_at : ℕ → ℕ → ℕ
  prohibited_at q a = header_size + cells + 2 * (q * t.letters) + 2 * a

  abbrev pub required_at : ℕ → ℕ → ℕ
  required_at q a = header_size + cells + 2 * (q * t.letters) + (2 * a + 1)

  mark_byte : (c at : ℕ) → c < 2 * cells → header_size + cells + c ≡ at → get_or t.marks c 0 ≡ get_or bs at 0
  mark_byte c at l e =
      get_or-take (2 * cells) (drop (header_size + cells) bs) c 0 l ∙ get_or-drop (header_size + cells) bs c 0 ∙ rw e

  pub target_count : WellFormed bs → length t.targets ≡ cells
  target_count formed = simp (length-take, length-drop) (omega (arith, (table_facts bs formed).exact))

  pub mark_count : WellFormed bs → length t.marks ≡ 2 * cells
  mark_count formed = simp (length-take, length-drop) (omega (arith, (table_facts bs formed).exact))

  pub marks_small : WellFormed bs → (c : ℕ) → (get_or t.marks (2 * c) 0 < 2 ^ t.pairs) × (get_or t.marks (suc (2 * c)) 0 < 2 ^ t.pairs)
  marks_small formed c =
      let size : length t.marks ≤ 2 * length t.targets = simp (length-take, length-drop) (omega (arith, (table_facts bs formed).exact)) in
      marks_below t.pairs t.targets t.marks c (table_facts bs formed).marks_good size

  module _ (formed : WellFormed bs) (q a : ℕ) (l : q < t.states) (r : a < t.letters) where
    within : cell t.letters q a < cells
    within = cell_within t.states t.letters q a l r

    pub target_within : target_at q a < length bs
    target_within = omega (arith, within, (table_facts bs formed).exact)

    pub target_byte : target_of t q a ≡ get_or bs (target_at q a) 0
    target_byte =
        let c = cell t.letters q a in
        let e : header_size + c ≡ target_at q a = omega arith in
        get_or-take cells (drop header_size bs) c t.states within ∙ get_or-drop header_size bs c t.states
        ∙ rw e (get_d_any bs (target_at q a) t.states 0 target_within)

    pub prohibited_byte_lem : prohibited_byte t q a ≡ get_or bs (prohibited_at q a) 0
    prohibited_byte_lem = mark_byte (2 * cell t.letters q a) (prohibited_at q a) (omega (arith, within)) (omega arith)

    pub required_byte_lem : required_byte t q a ≡ get_or bs (required_at q a) 0
    required_byte_lem = mark_byte (suc (2 * cell t.letters q a)) (required_at q a) (omega (arith, within)) (omega arith)
