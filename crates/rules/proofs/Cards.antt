-- All cards with a star (RULES, "Cards") hold, by computation, and so does each that is cited.
--     cards_hold      every card of the list
--     card_holds      a card of the list
--     card_answers    a judged card: both judges give the card's answer, the second on what the translator leaves
--     card_arrays     a translation card of what the translator leaves: the arrays begin with the card's
use mathlib.Core.Path.{◌≡◌, refl, sym, ap, subst, ◌∙◌}
use mathlib.Core.List.{List, [], ◌∷◌}
use Prim.Native.Nat.{ℕ, zero, suc, ◌<◌}
use native.Mathlib.Omega.{arith}
use lib.ListN.{length, get_or, length-map}
use Rattle.rules.specs.Limits.{max_rows}
use Rattle.rules.specs.Systems.{linked, reaches, together, is_inside, some_within}
use Rattle.rules.specs.Rows.{rows_of, step_of}
use Rattle.rules.specs.Tables.{table_of, table_fault}
use Rattle.rules.specs.Answers.{Answer}
use Rattle.rules.specs.Claims.{table_rows, row_targets, row_priorities, source_states, record_numbers}
use Rattle.rules.specs.Says.{RowArrays, row_arrays, TranslateSays, RabinSays, ParitySays}
use Rattle.rules.specs.Cards.{Card, CardJudged, CardTranslated, Holds, AllHold, cards, CardsHold, IsCard, Begins}
use Rattle.rules.proofs.Demands.{success_front, says_judged}

pub cards_hold : CardsHold
unfolding linked reaches together is_inside some_within rows_of step_of table_fault
cards_hold = (
  record { is_translated = refl; rabin = refl; parity = refl },
  (
    record { is_translated = refl; rabin = refl; parity = refl },
    (
      record { is_translated = refl; rabin = refl; parity = refl },
      (
        record { is_translated = refl; rabin = refl; parity = refl },
        (
          record { is_translated = refl; rabin = refl; parity = refl },
          (
            record { is_translated = refl; target_list = refl; priority_list = refl; source_list = refl; record_list = refl },
            (
              refl,
              (
                refl,
                (
                  refl,
                  (
                    record { is_translated = refl; target_list = refl; priority_list = refl; source_list = refl; record_list = refl },
                    (
                      record { is_translated = refl; target_list = refl; priority_list = refl; source_list = refl; record_list = refl },
                      (
                        record { is_translated = refl; target_list = refl; priority_list = refl; source_list = refl; record_list = refl },
                        (
                          record { is_translated = refl; rabin = refl; parity = refl },
                          (
                            refl,
                            (
                              refl,
                              (
                                record { is_translated = refl; target_list = refl; priority_list = refl; source_list = refl; record_list = refl },
                                (
                                  record { is_translated = refl; rabin = refl; parity = refl },
                                  (record { is_translated = refl; rabin = refl; parity = refl }, tt),
                                ),
                              ),
                            ),
                          ),
                        ),
                      ),
                    ),
                  ),
                ),
              ),
            ),
          ),
        ),
      ),
    ),
  ),
)

all_at : (cs : List Card) → AllHold cs → (i : ℕ) (d : Card) → i < length cs → Holds (get_or cs i d)
all_at [] all i d l = absurd (omega arith)
all_at (c ∷ cs) all zero d l = all.0
all_at (c ∷ cs) all (suc i) d l = all_at cs all.1 i d (omega arith)

pub card_holds : (c : Card) → IsCard c → Holds c
card_holds c is = subst Holds is.same (all_at cards cards_hold is.number c is.within)

module _ {bs ts ts' ps ps' ss ss' es es' : List ℕ} {number rows : ℕ} (says : TranslateSays bs max_rows (row_arrays ts ps ss es) (row_arrays ts' ps' ss' es') number rows) (z : number ≡ 0) where
  pub card_answers : {lead l : List ℕ} {x y w : Answer} → CardJudged bs lead l x → RabinSays bs lead l y → ParitySays rows (table_of bs).letters ts' ps' lead l w → (y ≡ x) × (w ≡ x)
  card_answers {lead} {l} card rabin parity = (rabin ∙ card.rabin, parity ∙ says_judged bs max_rows ts ts' ps ps' ss ss' es es' number rows says z lead l ∙ card.parity)

  pub card_arrays : {x : RowArrays} → CardTranslated bs x → Begins x (row_arrays ts' ps' ss' es') rows
  card_arrays card =
      record {
        count = rw z at says.count ∙ sym (length-map (table_rows bs max_rows) (λ r. r.source)) ∙ ap length card.source_list;
        target_front = rw card.target_list at (success_front number _ (row_targets bs max_rows) ts ts' z says.target_array);
        priority_front = rw card.priority_list at (success_front number _ (row_priorities bs max_rows) ps ps' z says.priority_array);
        source_front = rw card.source_list at (success_front number _ (source_states bs max_rows) ss ss' z says.source_array);
        record_front = rw card.record_list at (success_front number _ (record_numbers bs max_rows) es es' z says.record_array);
      }
