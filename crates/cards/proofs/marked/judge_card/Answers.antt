-- `cards::marked::judge_card` meets its contract: the Rabin judge gives the card's answer, and so does the parity judge on what the translator leaves.
use Rattle.std.proofs.Common.{rules, ◌≡◌}
use Rattle.translate.specs.Answers.{rows_in}
use native.Mathlib.Omega.{arith}
use Rattle.rules.proofs.Cards.{card_holds, card_answers}
use Rattle.cards.proofs.Cited.{not_refused}
use Rattle.cards.proofs.marked.judge_card.Goals as goal

pub returns : goal.returns
returns c =
    let says = c.translate.ensures in
    let rows : c.unwrap_or-rows.result ≡ rows_in c.translate.result = search rules in
    let claim = card_holds _ c.requires in
    let parity = rw (rows, c.from.ensures, c.letters_of.ensures) at c.judge_parity.ensures.says in
    let none = not_refused says claim.is_translated (omega arith) (omega arith) (omega arith) (omega arith) in
    card_answers says none claim c.judge_rabin.ensures.says parity
