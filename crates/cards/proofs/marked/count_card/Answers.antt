-- `cards::marked::count_card` meets its contract: the set surveyed for the state is that of its rising pairs, and the card says which these are.
use Rattle.std.proofs.Common.{ap, ◌∙◌}
use native.Mathlib.Omega.{arith}
use Rattle.rules.proofs.Cards.{card_holds}
use Rattle.records.specs.Packed.{packed}
use Rattle.cards.proofs.Counting.{counted_rising}
use Rattle.cards.proofs.marked.count_card.Goals as goal

pub returns : goal.returns
returns c =
    let lay = c.lay_table.auto in
    let survey = c.survey_cells.auto in
    let rising = counted_rising c.requires.1 (omega arith) (omega arith) (omega arith) (omega arith) lay.targets lay.marks survey.homes survey.counted c.in-Ok.ensures c.survey_cells.ensures c.args.state c.requires.2 in
    (rw c.from.ensures at c.rising.ensures) ∙ ap packed (rising ∙ card_holds _ c.requires.0)
