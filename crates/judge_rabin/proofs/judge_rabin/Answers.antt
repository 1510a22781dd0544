-- `judge_rabin::judge_rabin` meets its contract: what the answer means follows from what it is.
use Rattle.std.proofs.Common.{◌∙◌}
use Rattle.rules.proofs.Meanings.{rabin_means}
use Rattle.judge.specs.Judgements.{answer_of}
use Rattle.judge_rabin.proofs.judge_rabin.Goals as goal

pub returns-clause-means : goal.returns-clause-means
returns-clause-means c = rabin_means c.args.table.now c.args.lead.now c.args.looped.now (answer_of c.from.result) (c.from.ensures ∙ c.answer_or_refusal.ensures)
