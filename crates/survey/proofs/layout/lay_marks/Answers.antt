-- `survey::layout::lay_marks` meets its contract.
use Rattle.std.proofs.Common.{◌≡◌, ◌<◌, ◌≤◌, suc, ◌+◌, ◌*◌, ◌++◌, ◌∙◌, refl, ap, sym, List, ℕ, length, get_or, take, drop, arith, length-take, length-drop, length-append}
use Rattle.std.proofs.lemmas.List.{get_or-take, get_or-drop, drop-drop}
use lib.Seq.{drop-append_seam}
use lib.ListN.{get_or-append}
use Rattle.rules.proofs.Filling.{filled_more, filled_over}
use Rattle.survey.proofs.layout.lay_marks.Goals as goal

-- the next two bytes of those that are left
module _ (bs rest left x : List ℕ) (n c : ℕ) (enough : 2 * n ≤ length bs) (is : rest ≡ drop (2 * c) (take (2 * n) bs)) (parts : rest ≡ x ++ left) (two : length x ≡ 2) where
  here : c < n
  here = omega (arith, ap length is, ap length parts, two, length-append x left, length-drop (2 * c) (take (2 * n) bs), length-take (2 * n) bs)

  byte : (i : ℕ) → i < 2 → get_or x i 0 ≡ get_or bs (2 * c + i) 0
  byte i l =
      sym (get_or-append x left 0 i (omega arith)) ∙ ap (λ (l : List ℕ). get_or l i 0) (sym parts ∙ is)
      ∙ get_or-drop (2 * c) (take (2 * n) bs) i 0 ∙ get_or-take (2 * n) bs (2 * c + i) 0 (omega (arith, here))

  mask : get_or x 1 0 * 256 + get_or x 0 0 ≡ get_or bs (suc (2 * c)) 0 * 256 + get_or bs (2 * c) 0
  mask =
      let low : 2 * c + 0 ≡ 2 * c = omega arith in
      let high : 2 * c + 1 ≡ suc (2 * c) = omega arith in
      rw (byte 0 (omega arith), byte 1 (omega arith), low, high) refl

  others : left ≡ drop (2 * (c + 1)) (take (2 * n) bs)
  others =
      let more : 2 * c + 2 ≡ 2 * (c + 1) = omega arith in
      sym (drop-append_seam x left) ∙ ap (λ (l : List ℕ). drop (length x) l) (sym parts ∙ is) ∙ ap (λ (k : ℕ). drop k (drop (2 * c) (take (2 * n) bs))) two
      ∙ drop-drop 2 (2 * c) (take (2 * n) bs) ∙ ap (λ (k : ℕ). drop k (take (2 * n) bs)) more

pub loop-c-preserved : goal.loop-c-preserved
loop-c-preserved c =
    let s = rw c.in-Some.is at c.next.ensures.steps in
    let v = c.loop-c.invariant in
    let k = c.loop-c.c-iterator.count in
    let bs = c.args.bytes.now in
    let n = c.args.cells in
    let two = s.0.1.1 ∙ v.2 in
    let below = here bs _ _ _ n k c.requires.0 v.1 s.0.1.0 two in
    let mark = mask bs _ _ _ n k c.requires.0 v.1 s.0.1.0 two in
    rw (s.2, s.1, c.mask_of.ensures) (
      filled_more _ _ _ k _ (omega (arith, below, c.requires.1)) mark v.0,
      others bs _ _ _ n k c.requires.0 v.1 s.0.1.0 two,
      s.0.0 ∙ v.2,
      omega (arith, below),
    )

pub returns : goal.returns
returns c =
    let s = rw c.in-None.is at c.next.ensures.steps in
    let v = c.loop-c.invariant in
    let bytes = take (2 * c.args.cells) c.args.bytes.now in
    let k = c.loop-c.c-iterator.count in
    let all : k ≡ c.args.cells = omega (arith, s.0.1.0, v.2, v.3, ap length v.1, length-drop (2 * k) bytes, length-take (2 * c.args.cells) c.args.bytes.now, c.requires.0) in
    filled_over _ _ _ _ c.requires.1 (rw all at v.0)
