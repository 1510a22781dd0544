-- `exported::duckbullion_rest_of` meets its contract: by the length of what `judge::rest_of` hands back.
use Rattle.exported.proofs.Rests.{rest_of_lead, rest_fits, rest_of_loop}
use Rattle.exported.proofs.duckbullion_rest_of.Goals as goal

pub returns-then-place-lead : goal.returns-then-place-lead
returns-then-place-lead c = rest_of_lead _ _ _ _ c.if-place-lead.true c.rest_of-part.ensures.says

pub overflow_sub-start : goal.overflow_sub-start
overflow_sub-start c = let a = c.args in rest_fits a.lead.now a.looped.now _ _ c.if-place-lead.false c.rest_of-part.ensures.says

pub returns : goal.returns
returns c = rest_of_loop _ _ _ _ c.if-place-lead.false c.rest_of-part.ensures.says
