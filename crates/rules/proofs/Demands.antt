-- Demand 3 for Rabin tables, and for the arrays that the translator leaves.
--     table_agrees     every table that is translated agrees with its translation, whatever the entries past the rows are
--     success_front    what the translator found is the front of an array
--     says_agrees      a translator that keeps its promise leaves arrays that agree with the table
--     says_judged      and are judged as the rows alone are
use mathlib.Core.Path.{◌≡◌, refl, sym, ◌∙◌}
use mathlib.Core.Bool.{false}
use mathlib.Core.List.{List, [], ◌++◌, append_assoc, append-nil}
use Prim.Native.Nat.{ℕ, ◌-◌, ◌*◌, ◌≤◌}
use lib.ListN.{length, take, drop, replicate}
use lib.Seq.{take_at}
use Rattle.rules.specs.Limits.{max_rows}
use Rattle.rules.specs.Tables.{table_of, table_fault, system_of, record_keeper, IsOrdering}
use Rattle.rules.specs.Judges.{satisfies, parity_judge}
use Rattle.rules.specs.Claims.{table_rows, row_targets, row_priorities, source_states, exceeds, Agrees}
use Rattle.rules.specs.Says.{afterwards, TranslateSays, TranslationAgrees, row_arrays}
use Rattle.rules.proofs.Refusals.{table_facts, translation_facts}
use Rattle.rules.proofs.Demand3.{demand_3}
use Rattle.rules.proofs.RabinTables.{rabin_lawful}

pub table_agrees : (bs : List ℕ) (c : ℕ) → table_fault bs ≡ 0 → c ≤ max_rows → exceeds bs c ≡ false → (ts ps ss : List ℕ)
    → Agrees bs (length (table_rows bs c)) (row_targets bs c ++ ts) (row_priorities bs c ++ ps) (source_states bs c ++ ss)
table_agrees bs c fault within fits ts ps ss =
    let t = table_of bs in
    let ok = table_facts bs fault in
    let g = demand_3 (system_of t) t.start (record_keeper t) (satisfies t) (IsOrdering t) (rabin_lawful t) ok.start_state c fits within ts ps ss ok.sizes.some_letters ok.sizes.most_letters in
    record {
      words = g.words;
      judges = λ lead l. g.judges lead l ∙ rw fault;
      walks = λ xs h. let e = g.walks xs h in (λ p. sym e ∙ p, λ p. e ∙ p);
    }

-- ---- the arrays that the translator leaves
-- the entries past the rows in an array that holds xs after success
behind : ℕ → List ℕ → List ℕ → List ℕ
behind k xs o = replicate (k - length xs) 0 ++ drop (length (xs ++ replicate (k - length xs) 0)) o

after_success : (number k : ℕ) (xs o o' : List ℕ) → number ≡ 0 → o' ≡ afterwards number k xs o → xs ++ behind k xs o ≡ o'
unfolding behind
after_success number k xs o o' z e =
    sym (append_assoc xs (replicate (k - length xs) 0) (drop (length (xs ++ replicate (k - length xs) 0)) o)) ∙ sym (rw z at e)

pub success_front : (number k : ℕ) (xs o o' : List ℕ) → number ≡ 0 → o' ≡ afterwards number k xs o → take (length xs) o' ≡ xs
success_front number k xs o o' z e = rw (← after_success number k xs o o' z e) (take_at xs (behind k xs o) (length xs) refl)

pub says_agrees : (bs : List ℕ) (c : ℕ) (ts ts' ps ps' ss ss' es es' : List ℕ) (number count : ℕ)
    → TranslateSays bs c (row_arrays ts ps ss es) (row_arrays ts' ps' ss' es') number count → TranslationAgrees bs ts' ps' ss' number count
says_agrees bs c ts ts' ps ps' ss ss' es es' number count says z =
    let k = c * (table_of bs).letters in
    let ok = translation_facts bs c (length ts) (length ps) (length ss) (length es) (sym says.refusal ∙ z) in
    let all = table_agrees bs c ok.fault ok.arrays.most_rows ok.not_full (behind k (row_targets bs c) ts) (behind k (row_priorities bs c) ps) (behind c (source_states bs c) ss) in
    let at-ts = after_success number k (row_targets bs c) ts ts' z says.target_array in
    let at_ps = after_success number k (row_priorities bs c) ps ps' z says.priority_array in
    let at-ss = after_success number c (source_states bs c) ss ss' z says.source_array in
    let some : length (table_rows bs c) ≡ count = sym (rw z at says.count) in
    rw (at-ts, at_ps, at-ss, some) at all

pub says_judged : (bs : List ℕ) (c : ℕ) (ts ts' ps ps' ss ss' es es' : List ℕ) (number count : ℕ)
    → TranslateSays bs c (row_arrays ts ps ss es) (row_arrays ts' ps' ss' es') number count → number ≡ 0 → (lead l : List ℕ)
    → parity_judge count (table_of bs).letters ts' ps' lead l ≡ parity_judge (length (table_rows bs c)) (table_of bs).letters (row_targets bs c) (row_priorities bs c) lead l
says_judged bs c ts ts' ps ps' ss ss' es es' number count says z lead l =
    let ok = translation_facts bs c (length ts) (length ps) (length ss) (length es) (sym says.refusal ∙ z) in
    let alone = (table_agrees bs c ok.fault ok.arrays.most_rows ok.not_full [] [] []).judges lead l in
    (says_agrees bs c ts ts' ps ps' ss ss' es es' number count says z).judges lead l ∙ sym (rw (append-nil (row_targets bs c), append-nil (row_priorities bs c)) at alone)
