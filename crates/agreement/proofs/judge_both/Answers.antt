-- `agreement::judge_both` meets its contract, from the contracts of the calls alone: the translator's says that on a table that is
-- translated both judgements are the same, and each judge's that it gives its judgement; `letters_of` reads the table's letters for them.
use Rattle.std.proofs.Common.{rules, ◌≡◌}
use Rattle.translate.specs.Answers.{rows_in}
use Rattle.judge.proofs.Judgements.{answers_agree}
use Rattle.agreement.proofs.judge_both.Goals as goal

pub returns-clause-parity : goal.returns-clause-parity
returns-clause-parity c =
    let rows : rows_in c.translate_table-translation.result ≡ c.unwrap_or-rows.result = search rules in
    rw rows (rw (c.from-letters.ensures, c.letters_of.ensures) at c.judge_parity.ensures.says)

pub returns-clause-agree : goal.returns-clause-agree
returns-clause-agree c z =
    let agrees = c.translate_table-translation.ensures.agrees z in
    answers_agree _ _ _ _ _ c.args.lead.now c.args.looped.now _ _ agrees c.judge_rabin.ensures.says (returns-clause-parity c)
