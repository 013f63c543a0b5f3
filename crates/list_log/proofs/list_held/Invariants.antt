-- `list_held` meets its contract: a step for each turn.
-- Assumes nothing.
use Rattle.std.proofs.Common.{◌-◌, ◌≤◌, length}
use Rattle.felica_put.specs.Output.{held}
use Rattle.list_log.specs.Held.{ListedUpTo}
use Rattle.list_log.proofs.list_held.Given as goal

abbrev pub invariant-loop-listing : goal.invariant-loop-listing
invariant-loop-listing g l = record {
  listed : ListedUpTo (g.W.Write.contents l.initial.writer) l.initial.listing.totals (held l.initial.listing.out) l.held (g.W.Write.contents l.writer) l.listing.totals (held l.listing.out) l.used;
  inside : l.used ≤ length l.held;
}

abbrev pub decreases-loop-listing : goal.decreases-loop-listing
decreases-loop-listing g l = length l.held - l.used
