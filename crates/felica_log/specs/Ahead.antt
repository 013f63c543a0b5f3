-- What stands at the front of the rest of a piece: a record to be listed, by the size of its frame, or why the step stops there. This need not be believed:
-- `list_records` is proved equal to `step`, which does not speak of it.
-- Assumes nothing.
use Rattle.std.specs.Prelude.{ℕ, cond, List, [], ◌∷◌, ltb, leb, length, Result, Ok, Err}
use Rattle.felica_totals.specs.declared.Totals.{Totals}
use Rattle.felica_totals.specs.Count.{has_room}
use Rattle.felica_log.specs.declared.Stop.{Stop}
use Rattle.felica_log.specs.declared.Stop.TheVariants.{AtEnd, AtLimit, AtCut, NoRoom, TotalsFull}
use Rattle.felica_log.specs.Listing.{max_records}
use Rattle.felica_log.specs.Step.{line_room, max_blocks}

unfoldable pub ahead_of : List ℕ → ℕ → Totals → Result ℕ Stop
ahead_of [] room t = Err AtEnd
ahead_of (size ∷ s) room t =
    cond (leb max_records t.records) (Err AtLimit)
    (cond (ltb (length s) size) (Err AtCut)
    (cond (ltb room line_room) (Err NoRoom)
    (cond (has_room t max_blocks) (Ok size) (Err TotalsFull))))
