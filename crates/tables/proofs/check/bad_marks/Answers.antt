-- `tables::check::bad_marks` meets its contract.
use Rattle.std.proofs.Common.{◌≡◌, ◌∙◌, not, eqb, get_or, ◌+◌, ◌*◌, ◌^◌, ◌%◌, ◌≤◌, ◌<◌, bit_and, ℕ, arith}
use lib.Pow.{pow_pos, pow_mono}
use Rattle.rules.specs.Limits.{max_pairs}
use Rattle.rules.specs.Tables.{bad_mark}
use Rattle.rules.proofs.Bits.{one_shifted}
use Rattle.tables.proofs.Checks.{mask_tested, marks_turn, marks_end}
use Rattle.tables.proofs.check.bad_marks.Goals as goal

-- the first bit above pair k
top : (k : ℕ) → k ≤ max_pairs → (1 * 2 ^ k % 2 ^ 16 ≡ 2 ^ k) × (0 < 2 ^ k) × (2 ^ k ≤ 256)
top k l = (one_shifted 16 k (omega arith), pow_pos k, pow_mono {j = 8} (omega arith))

pub loop-c-preserved : goal.loop-c-preserved
loop-c-preserved c =
    let i = c.loop-c in
    let k = c.args.k in
    let ts = c.args.targets.now in
    let ms = c.args.marks.now in
    let u = get_or ms (2 * i.c) 0 in
    let v = get_or ms (2 * i.c + 1) 0 in
    let cell = mask_tested k (get_or ts i.c 0) u v c.requires.1 (omega (arith, c.type_inv.marks (2 * i.c))) (omega (arith, c.type_inv.marks (2 * i.c + 1))) in
    let tested : not (eqb (bit_and c.mask_of-mask.result c.barred_bits.result) 0) ≡ bad_mark k (get_or ts i.c 0) u v = rw (c.mask_of-mask.ensures, c.barred_bits.ensures, (top k c.requires.1).0) cell in
    rw tested (marks_turn k i.bad ts ms i.c (omega arith)) ∙ i.invariant

pub returns : goal.returns
returns c = marks_end c.args.k c.loop-c.bad c.args.targets.now c.args.marks.now c.loop-c.c c.loop-c-test.false c.loop-c.invariant
