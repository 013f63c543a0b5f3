-- The line that tells how many elements were long: `OK longs=n`, or the refusal.
-- Assumes nothing.
use Rattle.std.specs.Prelude.{ℕ, List, ◌++◌}
use Rattle.felica_format.specs.Read.{Answer as Reading, gives, refused}
use Rattle.felica_text.specs.Text.{text, decimal_text}
use Rattle.felica_fields.specs.Refused.{refused_text}

abbrev pub long_text : ℕ → List ℕ
long_text long = text "OK longs=" ++ decimal_text long

-- the line of what the bytes of a call give
abbrev pub long_line : Reading → List ℕ
long_line (gives c long) = long_text long
long_line (refused n code) = refused_text n code
