-- `felica_format::constants::bounds_at` meets its contract: the table is the plain layouts' bounds in order, which antt computes.
-- Assumes nothing.
use Rattle.std.proofs.Common.{arith}
use Rattle.std.proofs.Math.ListN.{get_or-map}
use Rattle.felica_format.specs.Layout.{plain_rows, bounds_at, bounds_of, ends, bare, ◌is◌}
use Rattle.felica_format.proofs.constants.bounds_at.Goals as goal

pub returns : goal.returns
unfolding bounds_at plain_rows
returns c =
    rw (c.unwrap_or.ensures, c.copied.ensures, c.get.ensures.lookup.4 (omega arith)) (
    get_or-map (λ row. bounds_of row.layout.first) plain_rows c.args.row (0 is ends bare))
