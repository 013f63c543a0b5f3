-- `list_records` meets its contract: a record for each turn.
-- Assumes nothing.
use Rattle.std.proofs.Common.{◌-◌, ◌≤◌, ◌≡◌, length, drop}
use Rattle.felica_put.specs.Output.{held}
use Rattle.felica_log.specs.Listing.{records_left}
use Rattle.felica_log.specs.Step.{step_from, step}
use Rattle.felica_log.proofs.step.list_records.Given as goal

abbrev pub invariant-loop-size : goal.invariant-loop-size
invariant-loop-size l = record {
  used : l.used ≤ length l.piece;
  same_reference : l.out.room.ghost_name ≡ l.initial.out.room.ghost_name;
  left : step_from (records_left l.totals) (held l.out) l.totals l.used (drop l.used l.piece) ≡ step (held l.initial.out) l.initial.totals l.piece;
}

abbrev pub decreases-loop-size : goal.decreases-loop-size
decreases-loop-size l = length l.piece - l.used
