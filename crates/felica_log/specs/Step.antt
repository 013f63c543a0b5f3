-- A step over a piece of a log: it lists the whole records of the piece into a lent buffer, as far as it comes.
-- Assumes nothing.
use Rattle.std.specs.Prelude.{ℕ, zero, suc, ◌+◌, ◌-◌, Bool, true, false, cond, List, [], ◌++◌, leb, length}
use Rattle.felica_format.specs.Read.{read_frame}
use Rattle.felica_put.specs.Put.{Buffer, put}
use Rattle.felica_totals.specs.declared.Totals.{Totals}
use Rattle.felica_totals.specs.Count.{has_room}
use Rattle.felica_line.specs.Line.{record_line}
use Rattle.felica_log.specs.declared.Stop.{Stop}
use Rattle.felica_log.specs.declared.Stop.TheVariants.{AtEnd, AtLimit, AtCut, NoRoom, TotalsFull}
use Rattle.felica_log.specs.Listing.{front, at_front, cut_line, full_line, total_line, counted_as, records_left}

-- How far a step came: the buffer, the totals, how many bytes of the piece are listed, and why it stopped there.
pub record Reached : Type 0 where
  pub out : Buffer
  pub totals : Totals
  pub used : ℕ
  pub stop : Stop

abbrev pub reached : Buffer → Totals → ℕ → Stop → Reached
reached out totals used stop = record { out = out; totals = totals; used = used; stop = stop }

-- whether a step stopped for want of room in the buffer: then there is more to list
abbrev pub lacks_room : Stop → Bool
lacks_room AtEnd = false
lacks_room AtLimit = false
lacks_room AtCut = false
lacks_room NoRoom = true
lacks_room TotalsFull = false

-- the room that a step asks for before it lists a record: no line is longer
abbrev pub line_room : ℕ
line_room = 128

abbrev pub room_in : Buffer → ℕ
room_in b = length b.bytes - b.next

abbrev pub room_for_line : Buffer → Bool
room_for_line b = leb line_room (room_in b)

-- the blocks that totals need room for: no block count is greater
abbrev pub max_blocks : ℕ
max_blocks = 255

-- The step from where `used` bytes of the piece are listed and s is the rest of it, when n more records may be read. It stops exactly where nothing is left, n is 0,
-- the record is cut off, the buffer lacks the room, or the totals do.
unfoldable pub step_from : ℕ → Buffer → Totals → ℕ → List ℕ → Reached
step_from zero b t used s = reached b t used (at_front (front s) AtEnd (λ missing. AtLimit) (λ frame rest. AtLimit))
step_from (suc n) b t used s =
    at_front (front s)
    (reached b t used AtEnd)
    (λ missing. reached b t used AtCut)
    (λ frame rest.
    cond (room_for_line b)
    (cond (has_room t max_blocks)
    (step_from n (put b (record_line (t.records + 1) (read_frame frame))) (counted_as t (read_frame frame)) (used + suc (length frame)) rest)
    (reached b t used TotalsFull))
    (reached b t used NoRoom))

-- a step over a piece
abbrev pub step : Buffer → Totals → List ℕ → Reached
step b t piece = step_from (records_left t) b t 0 piece

-- What stands behind the lines of the records: CUT, FULL or nothing, and TOTAL. In front of a whole record that may still be read, nothing: it is for a step to list.
abbrev pub rest_line : ℕ → List ℕ → List ℕ
rest_line zero s = full_line s
rest_line (suc n) s = at_front (front s) [] cut_line (λ frame rest. [])

unfoldable pub end_text : Totals → List ℕ → List ℕ
end_text t rest = rest_line (records_left t) rest ++ total_line t
