-- What a line says as a call: a name, then fields, each behind one space. The bytes of a call go to a lent buffer.
-- Assumes nothing.
use Rattle.std.specs.Prelude.{ℕ, cond, List, length, drop, eqb, Result, Err}
use Rattle.std.specs.Io.BufRead.{strip_last}
use Rattle.felica_text.specs.Text.{text}
use Rattle.felica_calls.specs.Read.{Read, read, if_ok, read_in}
use Rattle.felica_calls.specs.Field.{field_of, behind_field, next_field, behind_next, is_name}
use Rattle.felica_calls.specs.Bytes.{read_bytes, read_last}
use Rattle.felica_calls.specs.Source.{read_source, behind_source}
use Rattle.felica_calls.specs.Sizes.{read_sizes}
use Rattle.felica_calls.specs.Write.{write_of}
use Rattle.felica_calls.specs.declared.fault.Fault.{Fault}
use Rattle.felica_calls.specs.declared.fault.Fault.TheVariants.{EmptyLine}
use Rattle.felica_calls.specs.declared.source.Source.{Source}
use Rattle.felica_calls.specs.declared.call.Call.{Call}
use Rattle.felica_calls.specs.declared.call.Call.TheVariants.{Parse, Long, List as ListCall, Write}

-- a call, and what the lent buffer holds
abbrev pub Called : Type 0
Called = Read Call

abbrev pub called : Result Call Fault → List ℕ → Called
called answer buffer = read answer buffer

-- a line without the CR at its end, if one stands there; 13 is its code
unfoldable pub without_cr : List ℕ → List ℕ
without_cr line = strip_last 13 line

-- a source, and its bytes as the last field
unfoldable pub read_asked : List ℕ → List ℕ → Read (Source × ℕ)
read_asked s buffer = if_ok (read_source s) buffer λ source. read_in (λ n. (source, n)) (read_last (behind_source source s) buffer)

-- of the list reader: a source and its bytes, and behind them the lengths of its buffers, which are looked at first
unfoldable pub read_list : List ℕ → List ℕ → Called
read_list s buffer =
    if_ok (read_source s) buffer λ source.
    if_ok (read_sizes (behind_next (behind_source source s))) buffer λ z.
    read_in (λ n. ListCall source n z) (read_bytes (next_field (behind_source source s)) buffer)

-- a line, and what the buffer for the bytes holds before
unfoldable pub read_call : List ℕ → List ℕ → Called
read_call line buffer =
    cond (eqb (length line) 0) (called (Err EmptyLine) buffer)
    (cond (is_name (text "L") (field_of line)) (read_list (drop 1 (behind_field line)) buffer)
    (cond (is_name (text "W") (field_of line)) (called (write_of (behind_field line)) buffer)
    (cond (is_name (text "LONG") (field_of line)) (read_in (λ p. Long p.0 p.1) (read_asked (drop 1 (behind_field line)) buffer))
    (read_in (λ p. Parse p.0 p.1) (read_asked line buffer)))))

-- the bytes of a call
abbrev pub count_of : Call → ℕ
count_of (Parse source n) = n
count_of (Long source n) = n
count_of (ListCall source n z) = n
count_of (Write size c) = 0
