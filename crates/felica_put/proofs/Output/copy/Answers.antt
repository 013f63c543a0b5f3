-- `Output::copy` meets its contract.
-- Assumes nothing.
use Rattle.std.proofs.Common.{refl, arith}
use Rattle.felica_put.proofs.Laws.{put_copied}
use Rattle.felica_put.proofs.Output.copy.Goals as goal

pub returns : goal.returns
returns g c = record { same_reference = refl; held = put_copied _ _ _ _ _ _ c.requires.fitting (omega arith) refl c.copy_over.ensures }
