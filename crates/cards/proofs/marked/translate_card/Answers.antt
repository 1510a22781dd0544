-- `cards::marked::translate_card` meets its contract: there is room for any table, so nothing is refused, and the card says what the translator finds.
use Rattle.std.proofs.Common.{rules, ◌≡◌}
use Rattle.translate.specs.Answers.{rows_in}
use native.Mathlib.Omega.{arith}
use Rattle.rules.proofs.Cards.{card_holds, card_arrays}
use Rattle.cards.proofs.Cited.{not_refused}
use Rattle.cards.proofs.marked.translate_card.Goals as goal

pub returns : goal.returns
returns c =
    let says = c.translate.ensures in
    let rows : c.unwrap_or.result ≡ rows_in c.translate.result = search rules in
    let claim = card_holds _ c.requires.card in
    let none = not_refused says claim.is_translated (omega arith) (omega arith) (omega arith) (omega arith) in
    record { arrays = c.requires.arrays; card = c.requires.card; begins = rw rows (card_arrays says none claim) }
