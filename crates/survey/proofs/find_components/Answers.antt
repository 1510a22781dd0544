-- `survey::find_components` meets its contract: the homes are the table's components, and they fit in bytes.
use Rattle.std.proofs.Common.{List, ℕ, length, sym, ap, ◌∙◌, arith, length-take-le}
use Rattle.rules.specs.Says.{over}
use Rattle.rules.proofs.Meanings.{components_mean}
use Rattle.rules.proofs.Refusals.{table_facts}
use Rattle.rules.proofs.Reaching.{component_below}
use Rattle.tables.specs.Parts.{system_in}
use Rattle.tables.proofs.Cells.{target_count}
use Rattle.survey.proofs.Promises.{homes_found, front_few, front_at, front_is, components_found}
use Rattle.survey.proofs.find_components.Goals as goal

pub lay_targets-requires : goal.lay_targets-requires
lay_targets-requires c =
    let x = c.in_ok-table.table in
    omega (arith, ap length c.targets.ensures, target_count x.bytes.now x.well_formed, (table_facts x.bytes.now x.well_formed).sizes.most_cells)

pub slice_bounds-homes-end : goal.slice_bounds-homes-end
slice_bounds-homes-end c =
    let x = c.in_ok-table.table in
    omega (arith, c.find_components.auto.out, c.states-n.ensures, (table_facts x.bytes.now x.well_formed).sizes.most_states)

pub slice_bounds-narrow-end : goal.slice_bounds-narrow-end
slice_bounds-narrow-end c =
    let x = c.in_ok-table.table in
    sym (length-take-le _ _ (omega (arith, c.find_components.auto.out, c.states-n.ensures, (table_facts x.bytes.now x.well_formed).sizes.most_states)))

pub narrow-requires : goal.narrow-requires
narrow-requires c =
    let x = c.in_ok-table.table in
    let h = homes_found x.bytes.now x.well_formed _ c.states-n.ensures c.letters.ensures c.targets.ensures (omega (arith, c.lay_targets.auto.targets)) c.lay_targets.ensures (omega arith) (omega arith) c.find_components.auto.out c.find_components.ensures in
    let k = (table_facts x.bytes.now x.well_formed).sizes in
    rw c.states-n.ensures
    (omega (arith, front_few _ _ _ h, c.if-out-n.false, c.states-n.ensures), λ q l. rw (front_at _ _ _ h q l) (omega (arith, component_below (system_in x.bytes.now) q (omega (arith, front_few _ _ _ h)), k.most_states)))

pub returns : goal.returns
returns c =
    let x = c.in_ok-table.table in
    let h = homes_found x.bytes.now x.well_formed _ c.states-n.ensures c.letters.ensures c.targets.ensures (omega (arith, c.lay_targets.auto.targets)) c.lay_targets.ensures (omega arith) (omega arith) c.find_components.auto.out c.find_components.ensures in
    let written = rw c.states-n.ensures at c.narrow.ensures in
    let found = components_found x.bytes.now x.well_formed _ _ (omega (arith, c.states-n.ensures, c.if-out-n.false)) (written ∙ ap (λ (xs : List ℕ). over xs c.args.out.now) (front_is _ _ _ h)) in
    let says = rw c.in_ok-table.ensures.same at found in
    record { says = says; means = components_mean _ _ _ _ says }
