-- `forecast::figures_of` meets its contract: what is added up from the start are the table's figures.
use Rattle.std.proofs.Common.{◌*◌, ◌≤◌, refl, arith}
use Rattle.rules.specs.Tables.{table_of}
use Rattle.rules.proofs.Refusals.{table_facts}
use Rattle.forecast.specs.Figures.{FiguresAre}
use Rattle.forecast.proofs.Counting.{figures_taken}
use Rattle.forecast.proofs.figures_of.Goals as goal
use Rattle.forecast.proofs.figures_of.Goals.{After-search}

figures : (c : After-search) → FiguresAre (table_of c.args.table.bytes.now) c.search.new.taker.rows c.search.new.taker.pairs
    × (c.search.new.taker.rows ≤ 64 * 40320) × (c.search.new.taker.pairs ≤ 8)
figures c =
    let e = c.search.ensures in
    let start = c.start-start.ensures in
    figures_taken c.args.table.bytes.now c.args.table.well_formed _ _ c.of.ensures.system c.of.ensures.marks start (rw start refl) e.answer e.taken

pub overflow_add-start : goal.overflow_add-start
overflow_add-start c =
    let f = table_facts c.args.table.bytes.now c.args.table.well_formed in
    rw c.start-start.ensures (omega (arith, f.start_state, f.sizes.most_states))

pub overflow_cast-result : goal.overflow_cast-result
overflow_cast-result c = omega (arith, (figures (goal.at.overflow_cast-result c).After-search).1)

pub overflow_cast-result-2 : goal.overflow_cast-result-2
overflow_cast-result-2 c = omega (arith, (figures (goal.at.overflow_cast-result-2 c).After-search).2)

pub returns : goal.returns
returns c = (figures (goal.at.returns c).After-search).0
