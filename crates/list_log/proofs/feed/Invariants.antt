-- `feed` meets its contract: a read for each turn.
-- Assumes nothing.
use Rattle.std.proofs.Common.{◌≤◌, ◌<◌, length}
use Rattle.felica_put.specs.Output.{held}
use Rattle.felica_log.specs.Rules.{NoneLeft}
use Rattle.list_log.specs.Held.{ReadAndListed, bytes_in}
use Rattle.list_log.proofs.feed.Given as goal

abbrev pub invariant-loop : goal.invariant-loop
invariant-loop g l = record {
  read : (x : ReadAndListed (g.R.Read.remaining l.initial.reader) (g.R.Read.remaining l.reader) (g.W.Write.contents l.initial.writer) (g.W.Write.contents l.writer) l.listing.totals (held l.listing.out) (bytes_in l.input)) × (l.counter ≤ length x.log);
  short : l.input.held < 256;
  none_left : NoneLeft l.listing.totals (bytes_in l.input);
}
