-- `felica_write` meets its contract: what is told is told of what the writer gave.
-- Assumes nothing.
use Rattle.felica_c.proofs.Laws.{length_tells, refusal_tells}
use Rattle.felica_c_write.proofs.felica_write.Goals as goal

pub returns-in-Ok : goal.returns-in-Ok
returns-in-Ok c = length_tells _ _ _ _ c.write.ensures c.in-Ok.is

pub returns-in-Err : goal.returns-in-Err
returns-in-Err c = refusal_tells _ _ _ _ _ c.write.ensures c.in-Err.is c.unwritten.ensures
