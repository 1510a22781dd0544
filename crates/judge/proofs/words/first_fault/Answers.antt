-- `judge::words::first_fault` meets its contract: the table's refusal where there is one, else the word's.
use Rattle.judge.proofs.Checks.{first_given}
use Rattle.judge.proofs.words.first_fault.Goals as goal

pub returns-then-table-ne0 : goal.returns-then-table-ne0
returns-then-table-ne0 c = first_given _ _ c.if-table-ne0.true

pub returns-else-table-ne0 : goal.returns-else-table-ne0
returns-else-table-ne0 c = rw c.if-table-ne0.false
