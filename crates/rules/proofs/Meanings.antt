-- What the results of the public calls mean: the equalities of `Says` in terms of paths, reachable rows, orderings, missing and recurring transitions.
--     components_are, components_over, components_mean    the numbers of components, and an array that holds them
--     step_is                                             what a row of a Rabin table does by a letter, whole
--     translation_means                                   the rows, their steps, their records and fullness
--     judged_as                                           the answer to a looped word, for any system and any condition
--     rabin_means, parity_means                           the answers of both judges
use mathlib.Core.Path.{◌≡◌, refl, sym, ap, ◌∙◌}
use mathlib.Core.Logic.{◌↔◌}
use mathlib.Core.Bool.{Bool, true, false, false≢true, true≢false}
use mathlib.Core.List.{List}
use Prim.Native.Nat.{ℕ, zero, suc, ◌<◌, ◌≤◌}
use native.Mathlib.Omega.{arith}
use lib.ListN.{length, get_or}
use Rattle.rules.specs.Basics.{pick, first_of, when, tabulate}
use Rattle.rules.specs.Refusals as Refusal
use Rattle.rules.specs.Systems.{System, component_of, ComponentsAre}
use Rattle.rules.specs.Runs.{Taken, stray_letter, long_run, recurring, MeetsMissing}
use Rattle.rules.specs.Answers.{Answer, accepts, rejects, stops, judged_by, JudgedAs}
use Rattle.rules.specs.Rows.{Row}
use Rattle.rules.specs.Tables.{Table, table_of, table_fault, system_of, marks_of, record_keeper, table_plan, StepIs}
use Rattle.rules.specs.Judges.{satisfies, parity_system, parity_good}
use Rattle.rules.specs.Claims.{exceeds}
use Rattle.rules.specs.Says.{over, components_fault, are_short, translate_fault, ComponentsSay, ComponentsMean, TranslateSays, TranslationMeans, RowArrays, RabinSays, RabinMeans, ParitySays, ParityMeans}
use Rattle.rules.proofs.Bools.{by}
use Rattle.rules.proofs.Reach.{together_view, component_together, component_least, component_same}
use Rattle.rules.proofs.Reaching.{component_below}
use Rattle.rules.proofs.Runs.{stops_view, recurs_view}
use Rattle.rules.proofs.Steps.{step_missing, step_inside, step_crossing}
use Rattle.rules.proofs.Appearance.{priority_is}
use Rattle.rules.proofs.Numbers.{record_determined}
use Rattle.rules.proofs.RabinTables.{table_rows_lem, reached_ordering}
use Rattle.rules.proofs.Filling.{over_at}
use Rattle.rules.proofs.Refusals.{first_zero, when_none, fault_below, table_facts, word_facts, parity_facts}

-- ---- components
pub components_are : (s : System) → ComponentsAre s (component_of s)
components_are s =
    record {
      shared = λ p q lp lq. let c = component_same s p q lp lq in let v = together_view s p q in (λ e. v.0 (c.1 e), λ h. c.0 (v.1 h));
      member = λ q l. (component_below s q l, sym ((component_same s q (component_of s q) l (component_below s q l)).0 (component_together s q l)));
      smallest = λ p q lp lq e. component_least s q p ((component_same s q p lq lp).1 (sym e));
    }

-- the same numbers, given another way
components_alike : (s : System) (f g : ℕ → ℕ) → ((q : ℕ) → q < s.states → g q ≡ f q) → ComponentsAre s f → ComponentsAre s g
components_alike s f g same x =
    record {
      shared = λ p q lp lq. rw (same p lp, same q lq) (x.shared p q lp lq);
      member = λ q l. rw (same q l) ((x.member q l).0, same (f q) (x.member q l).0 ∙ (x.member q l).1);
      smallest = λ p q lp lq. rw (same p lp, same q lq) (x.smallest p q lp lq);
    }

-- an array that begins with the numbers of the components
pub components_over : (s : System) (o : List ℕ) → ComponentsAre s (λ q. get_or (over (tabulate s.states 0 (component_of s)) o) q 0)
components_over s o =
    components_alike s (component_of s) (λ q. get_or (over (tabulate s.states 0 (component_of s)) o) q 0)
    (λ q l. over_at (component_of s) s.states o q l) (components_are s)

pub components_mean : (bs o o' : List ℕ) (r : ℕ) → ComponentsSay bs o o' r → ComponentsMean bs o' r
components_mean bs o o' r says z =
    let none : components_fault bs (length o) ≡ 0 = sym says.number ∙ z in
    rw (says.array, none) (components_over (system_of (table_of bs)) o)

-- ---- translations
module _ (t : Table) (r : Row (List ℕ)) (a : ℕ) where
  pub step_is : StepIs t r a ((table_plan t).step r a)
  step_is =
      let k = record_keeper t in
      let s = system_of t in
      record {
        missing = λ h. rw (step_missing s k r a h) (refl, refl);
        crossing = λ h i. rw (step_crossing s k r a h i) (refl, refl, refl);
        inside = λ h i. rw (step_inside s k r a h i) (refl, refl, priority_is (marks_of t r.source a) r.memory);
      }

-- 8 is given for rows that are too many and for nothing else
last_fault : (x : ℕ) (short full : Bool) → x ≤ Refusal.marks → first_of x (first_of (when short Refusal.arrays) (when full Refusal.full)) ≡ Refusal.full → full ≡ true
last_fault (suc x) short full l h = absurd (omega arith)
last_fault zero true full l h = absurd (omega arith)
last_fault zero false true l h = refl
last_fault zero false false l h = absurd (omega arith)

no_fault : (x y : ℕ) (full : Bool) → first_of x (first_of y (when full Refusal.full)) ≡ 0 → full ≡ false
no_fault x y full h = when_none full 7 (first_zero y (when full Refusal.full) (first_zero x (first_of y (when full Refusal.full)) h).1).1

pub translation_means : (bs : List ℕ) (c : ℕ) (o o' : RowArrays) (number rows : ℕ) → TranslateSays bs c o o' number rows → TranslationMeans bs c number
unfolding translate_fault
translation_means bs c o o' number rows says =
    let t = table_of bs in
    let found = table_rows_lem t c in
    let short = are_short c t.letters (length o.targets) (length o.priorities) (length o.sources) (length o.records) in
    record {
      full = λ z. found.full.0 (last_fault (table_fault bs) short (exceeds bs c) (fault_below bs) (sym says.refusal ∙ z));
      whole = λ z m. true≢false (sym (found.full.1 m) ∙ no_fault (table_fault bs) (when short Refusal.arrays) (exceeds bs c) (sym says.refusal ∙ z));
      rows = found;
      steps = step_is t;
      orderings = λ f h. reached_ordering t (table_facts bs f).start_state h;
      numbers = λ f h g e. let k = table_facts bs f in record_determined t (omega (arith, k.sizes.most_pairs)) _ _ _ _ (reached_ordering t k.start_state h) (reached_ordering t k.start_state g) e;
    }

-- ---- answers
stop_is : (b good : Bool) (n i : ℕ) → (pick b (stops n) (pick good accepts rejects) ≡ stops i) ↔ ((b ≡ true) × (n ≡ i))
stop_is true good n i = (λ e. (refl, ap (λ (x : Answer). x.value) e), λ r. ap stops r.1)
stop_is false true n i = (λ e. absurd (omega (arith, ap (λ (x : Answer). x.kind) e)), λ r. absurd (false≢true r.0))
stop_is false false n i = (λ e. absurd (omega (arith, ap (λ (x : Answer). x.kind) e)), λ r. absurd (false≢true r.0))

module _ (s : System) (q : ℕ) (lead l : List ℕ) (good : List Taken → Bool) (is_state : q < s.states) (lead-ok : stray_letter s.letters lead ≡ false) (l-ok : stray_letter s.letters l ≡ false) where
  pub judged_as : JudgedAs s q lead l good (judged_by s q lead l good)
  judged_as =
      record {
        stop = λ i. let v = view i in let x = stop_is (long_run s q lead l).stopped (good (recurring s q lead l)) (long_run s q lead l).read i in (λ e. v.0 (x.0 e), λ m. x.1 (v.1 m));
        verdict = λ never. let e = going never in record { recurring = recurring s q lead l; recurs = recurs_view s q lead l is_state lead-ok l-ok e; decided = rw e };
      }
    where
      view : (i : ℕ) → (((long_run s q lead l).stopped ≡ true) × ((long_run s q lead l).read ≡ i)) ↔ MeetsMissing s q lead l i
      view = stops_view s q lead l is_state lead-ok l-ok

      going : ((i : ℕ) → MeetsMissing s q lead l i → ⊥) → (long_run s q lead l).stopped ≡ false
      going never = by (long_run s q lead l).stopped (λ e. absurd (never (long_run s q lead l).read ((view (long_run s q lead l).read).0 (e, refl)))) (λ e. e)

pub rabin_means : (bs lead l : List ℕ) (x : Answer) → RabinSays bs lead l x → RabinMeans bs lead l x
rabin_means bs lead l x says f w =
    let t = table_of bs in
    let k = word_facts t.letters lead l w in
    rw says (rw (f, w) (judged_as (system_of t) t.start lead l (satisfies t) (table_facts bs f).start_state k.lead_letters k.loop_letters))

pub parity_means : (n m : ℕ) (ts ps lead l : List ℕ) (x : Answer) → ParitySays n m ts ps lead l x → ParityMeans n m ts ps lead l x
parity_means n m ts ps lead l x says f w =
    let k = word_facts m lead l w in
    rw says (rw (f, w) (judged_as (parity_system n m ts) 0 lead l (parity_good m ps) (parity_facts n m ts ps f).some_rows k.lead_letters k.loop_letters))
