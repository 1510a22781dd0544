-- `cards::marked::move_card` meets its contract: a record without a gap moves as its pairs do, and the card says how.
use Rattle.std.proofs.Common.{ap, ◌∙◌}
use Rattle.rules.proofs.Cards.{card_holds}
use Rattle.records.specs.Packed.{pairs_in}
use Rattle.cards.proofs.Moves.{moved_pairs}
use Rattle.cards.proofs.marked.move_card.Goals as goal

pub returns : goal.returns
returns c =
    ap pairs_in c.moved.ensures ∙ moved_pairs c.args.before.code c.args.pairs c.requires.1 ∙ card_holds _ c.requires.0
