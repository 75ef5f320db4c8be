use Rattle.beside.proofs.Laws.{entry_index, function_index}
use Rattle.beside.proofs.index_of.Goals as goal

pub returns-then-owner-eq-ENTRY : goal.returns-then-owner-eq-ENTRY
returns-then-owner-eq-ENTRY c = entry_index _ c.if-owner-eq-ENTRY.true

pub returns : goal.returns
returns c = function_index _ c.if-owner-eq-ENTRY.false
