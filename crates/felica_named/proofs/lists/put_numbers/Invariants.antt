-- `felica_named::lists::put_numbers` meets its contract: number after number.
-- Assumes nothing.
use Rattle.std.proofs.Common.{◌≡◌, ◌<◌, ◌*◌, map, drop}
use Rattle.felica_put.specs.Put.{put}
use Rattle.felica_put.specs.Output.{held}
use Rattle.felica_named.specs.Values.{numbers_from}
use Rattle.felica_named.proofs.lists.put_numbers.Given as goal

abbrev pub invariant-loop-digit : goal.invariant-loop-digit
invariant-loop-digit g l = record {
  small : l.number < 16 * g.T.Number.KEPT;
  same_reference : l.numbers.room.ghost_name ≡ l.fn.numbers.room.ghost_name;
  held : put (held l.numbers) (map g.T.Number.number (numbers_from g.T.Number.KEPT l.number (drop l.digit-index l.value)))
      ≡ put (held l.fn.numbers) (map g.T.Number.number (numbers_from g.T.Number.KEPT 0 l.value));
}
