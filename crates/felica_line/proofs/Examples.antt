-- The table of specs/Examples.antt, computed.
-- Assumes nothing.
use Rattle.std.proofs.Common.{refl}
use Rattle.felica_line.specs.Examples.{AllMarked, marks}

pub all_marked : AllMarked marks
unfolding AllMarked marks
all_marked = refl
