-- `felica_text::put::put_parted` meets its contract: the first entry, then each behind its comma.
-- Assumes nothing.
use Rattle.std.proofs.Common.{take}
use Rattle.felica_text.specs.Text.{behind_commas}
use Rattle.felica_put.specs.Output.{Puts}
use Rattle.felica_text.proofs.put.put_parted.Given as goal

abbrev pub invariant-loop-entry : goal.invariant-loop-entry
invariant-loop-entry g l = Puts l.initial.out l.out (behind_commas g.entry (take l.entry-index l.rest))
