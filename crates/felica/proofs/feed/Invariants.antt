-- `feed` reads on behind what is left.
-- Assumes nothing.
use Rattle.std.proofs.Common.{◌≤◌, ◌<◌, length}
use Rattle.felica_put.specs.Output.{held}
use Rattle.felica.specs.Room.{input_size}
use Rattle.felica.specs.Held.{ReadAndAnswered, NoEnd, bytes_in}
use Rattle.felica.proofs.feed.Given as goal

abbrev pub invariant-loop : goal.invariant-loop
invariant-loop g l = record {
  read : (x : ReadAndAnswered (g.R.Read.remaining l.initial.reader) (g.R.Read.remaining l.reader) (g.W.Write.contents l.initial.writer) (g.W.Write.contents l.writer) (held l.waiting.out) l.input.too_long (bytes_in l.input)) × (l.counter ≤ length x.input);
  none : NoEnd (bytes_in l.input);
  room : l.input.held < input_size;
}
