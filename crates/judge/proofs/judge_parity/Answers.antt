-- `judge::judge_parity` meets its contract: what the answer means follows from what it is.
use Rattle.std.proofs.Common.{◌∙◌}
use Rattle.rules.proofs.Meanings.{parity_means}
use Rattle.judge.specs.Judgements.{answer_of}
use Rattle.judge.proofs.judge_parity.Goals as goal

pub returns-clause-means : goal.returns-clause-means
returns-clause-means c =
    parity_means c.args.rows c.args.letters c.args.targets.now c.args.priorities.now c.args.lead.now c.args.looped.now (answer_of c.from.result) (c.from.ensures ∙ c.answer_or_refusal.ensures)
