-- The line that answers a call of the writer: `OK`, how many bytes were written and the bytes, or the refusal.
-- Assumes nothing.
use Rattle.std.specs.Prelude.{ℕ, List, ◌++◌, take}
use Rattle.felica_write.specs.Writing.{Answer, wrote, refused, Outcome}
use Rattle.felica_text.specs.Text.{text, bytes_text, decimal_text}
use Rattle.felica_fields.specs.Refused.{refused_text}

abbrev pub bytes_line : ℕ → List ℕ → List ℕ
bytes_line n bytes = text "OK " ++ (decimal_text n ++ (text " " ++ bytes_text bytes))

-- the line of what the writer answers, with the bytes at the front of its buffer
abbrev pub written_line : Outcome → List ℕ
written_line o = go o.answer
  where
    go : Answer → List ℕ
    go (wrote n) = bytes_line n (take n o.buffer)
    go (refused n code) = refused_text n code
