-- The listing of a log: a list of bytes in, a list of bytes out.
-- Assumes nothing.
use Rattle.std.specs.Prelude.{ℕ, zero, suc, ◌+◌, ◌-◌, cond, List, [], ◌∷◌, ◌++◌, leb, length, take, drop}
use Rattle.felica_format.specs.Read.{Answer as Reading, read_frame}
use Rattle.felica_text.specs.Text.{text, decimal_text}
use Rattle.felica_totals.specs.declared.Totals.{Totals}
use Rattle.felica_totals.specs.Count.{no_totals, counted}
use Rattle.felica_line.specs.Line.{record_line, is_accepted, blocks_in}

-- "A log is records: one size byte, then that many frame bytes (0 is an empty frame)." What stands at the front of a log: nothing, a record that is cut
-- off, with the number of its missing bytes, or the frame of a whole record, with what follows it.
pub data Front : Type 0 where
  nothing : Front
  cut_by : ℕ → Front
  frame_then : List ℕ → List ℕ → Front

unfoldable pub front : List ℕ → Front
front [] = nothing
front (size ∷ s) = cond (leb size (length s)) (frame_then (take size s) (drop size s)) (cut_by (size - length s))

abbrev pub at_front : {A : Type 0} → Front → A → (ℕ → A) → (List ℕ → List ℕ → A) → A
at_front nothing none cut whole = none
at_front (cut_by missing) none cut whole = cut missing
at_front (frame_then frame rest) none cut whole = whole frame rest

-- a space and a number
abbrev pub number_field : ℕ → List ℕ
number_field n = text " " ++ decimal_text n

-- the line's end, whose code is 10
abbrev pub line_end : List ℕ
line_end = 10 ∷ []

-- "A cut record gives CUT and the missing byte count, and isn't a record."
abbrev pub cut_line : ℕ → List ℕ
cut_line missing = text "CUT" ++ (number_field missing ++ line_end)

-- "the line FULL if a byte follows"
abbrev pub full_line : List ℕ → List ℕ
full_line [] = []
full_line (byte ∷ s) = text "FULL" ++ line_end

-- "TOTAL, always the last line, gives records, accepted, refused, blocks in accepted frames"
unfoldable pub total_line : Totals → List ℕ
total_line t =
    text "TOTAL" ++ (number_field t.records ++ (number_field t.accepted ++ (number_field t.refused ++ (number_field t.blocks ++ line_end))))

-- "the listing's four running totals are brought up to date after each record"
abbrev pub counted_as : Totals → Reading → Totals
counted_as t reading = counted t (is_accepted reading) (blocks_in reading)

-- The listing of the rest s of a log: t are the totals of the records before it, and n more may be read.
unfoldable pub listing_from : ℕ → Totals → List ℕ → List ℕ
listing_from zero t s = full_line s ++ total_line t
listing_from (suc n) t s =
    at_front (front s)
    (total_line t)
    (λ missing. cut_line missing ++ total_line t)
    (λ frame rest. record_line (t.records + 1) (read_frame frame) ++ listing_from n (counted_as t (read_frame frame)) rest)

-- "After 1,000,000 records reading stops"
abbrev pub max_records : ℕ
max_records = 1000000

abbrev pub records_left : Totals → ℕ
records_left t = max_records - t.records

-- the listing of a log
unfoldable pub listing : List ℕ → List ℕ
listing log = listing_from (records_left no_totals) no_totals log
