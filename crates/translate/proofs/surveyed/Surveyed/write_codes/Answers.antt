-- `translate::surveyed::Surveyed::write_codes` meets its contract.
use native.Mathlib.Nat.{mul-le-mul_right}
use native.Mathlib.Omega.{arith}
use Rattle.rules.proofs.Arrays.{cell_within}
use Rattle.translate.specs.Surveyed.{code_at}
use Rattle.translate.proofs.CellCodes.{written_more}
use Rattle.translate.proofs.surveyed.Surveyed.write_codes.Goals as goal

pub loop-a-preserved : goal.loop-a-preserved
loop-a-preserved c =
    let x = c.args.self in
    let within = cell_within x.states x.letters c.loop-q.q c.loop-a.a c.loop-q-test.true c.loop-a-test.true in
    written_more (code_at x) x.letters c.loop-q.q c.loop-a.a c.code.result c.loop-a.cells c.loop-a-test.true (omega (arith, within)) c.code.ensures c.loop-a.invariant

pub returns : goal.returns
returns c =
    let x = c.args.self in
    let all = mul-le-mul_right x.letters c.loop-q-test.false in
    (c.write_entries.ensures.entry _ c.requires.0, record { enough = omega arith; entry = λ q a l r. c.loop-q.invariant q a r (omega (arith, all, cell_within x.states x.letters q a l r)) })
