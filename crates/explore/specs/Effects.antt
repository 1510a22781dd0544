-- What marks do to a memory, by a rule, and what is explored. A rule is a function: of a memory and marks it gives their effect.
--     effect_by_pairs order marks                     number, the effect by pairs: the memory after the move, and span times the priority
--     IsEffect rule order marks e                     claim: e is the effect, and its priority is a byte
--     key_step, keyed, key_plan                       step and plans of a task's rows as keys: a cell's code and the effect of its marks on the memory
--     SameMarks m row                                 claim: the first m codes of a row have the same marks
--     EffectsTo rule order n row effects              claim: the effects of n codes on a memory, one by one
--     EffectsOn rule order m r row effects            claim: the effects of m codes on a memory, that of code a at place a · r
use Rattle.std.specs.Prelude.{◌≡◌, List, ℕ, ◌+◌, ◌*◌, ◌/◌, ◌%◌, ◌<◌, ◌≤◌, eqb, get_or}
use Rattle.rules.specs.Systems.{cell}
use Rattle.rules.specs.Records.{as_they_stood, moved, priority}
use Rattle.rules.specs.Rows.{Step, Plan}
use Rattle.records.specs.Packed.{is_marked, marks_by, packed, places}
use Rattle.explore.specs.declared.Task.{Task}
use Rattle.explore.specs.Cells.{span, source_in, memory_in, marks_in, step_in}

unfoldable pub effect_by_pairs : ℕ → ℕ → ℕ
effect_by_pairs order marks =
    span * priority (marks_by (marks % 256) (marks / 256)) (places order) + packed (moved as_they_stood (is_marked (marks % 256)) (places order))

pub record IsEffect (rule : ℕ → ℕ → ℕ) (order marks e : ℕ) : Type 0 where
  pub is : e ≡ rule order marks
  pub small : e < 256 * span

abbrev pub key_step : (ℕ → ℕ → ℕ) → Task → List ℕ → ℕ → ℕ → Step ℕ
key_step rule t cells v a =
    let w = get_or cells (cell t.letters (source_in v) a) 0 in
    step_in w (rule (memory_in v) (marks_in w))

abbrev pub keyed : ℕ → ℕ → (ℕ → ℕ → Step ℕ) → Plan ℕ
keyed m first step = record { letters = m; first = first; step = step; same = eqb }

abbrev pub key_plan : (ℕ → ℕ → ℕ) → Task → List ℕ → Plan ℕ
key_plan rule t cells = keyed t.letters t.start (key_step rule t cells)

abbrev pub SameMarks : ℕ → List ℕ → Type 0
SameMarks m row = (a : ℕ) → a < m → marks_in (get_or row a 0) ≡ marks_in (get_or row 0 0)

abbrev pub EffectsTo : (ℕ → ℕ → ℕ) → ℕ → ℕ → List ℕ → List ℕ → Type 0
EffectsTo rule order n row effects = (a : ℕ) → a < n → IsEffect rule order (marks_in (get_or row a 0)) (get_or effects a 0)

pub record EffectsOn (rule : ℕ → ℕ → ℕ) (order m r : ℕ) (row effects : List ℕ) : Type 0 where
  pub most : r ≤ 1
  pub each : (a : ℕ) → a < m → IsEffect rule order (marks_in (get_or row a 0)) (get_or effects (a * r) 0)
