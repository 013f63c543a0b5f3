-- What stands in front of a body of `size` bytes, and whether there is room for both and for a package behind them.
-- Assumes nothing.
use Rattle.std.specs.Prelude.{ℕ, ◌+◌, cond, List, [], ◌∷◌, ltb, Result, Ok, Err}
use Rattle.felica_format.specs.declared.error.Reason.{Reason}
use Rattle.felica_format.specs.declared.error.Reason.TheVariants.{BufferTooSmall, Unwritable}
use Rattle.felica_format.specs.declared.classes.Class.{Class}
use Rattle.felica_format.specs.declared.classes.Class.TheVariants.{Plain, Secure, Unknown}

-- the length byte and the code byte
abbrev pub head_bytes : Class → ℕ → ℕ → List ℕ
head_bytes Plain code size = (2 + size) ∷ code ∷ []
head_bytes Secure code size = []
head_bytes Unknown code size = []

-- enough of it, or why there is not
abbrev pub Room : Type 0
Room = Result (Unit {0}) Reason

abbrev pub frame_room : ℕ → ℕ → Room
frame_room size room = cond (ltb 255 (2 + size)) (Err Unwritable) (cond (ltb room (2 + size)) (Err BufferTooSmall) (Ok tt))

abbrev pub payload_room : ℕ → ℕ → ℕ → Room
payload_room size pack room = cond (ltb room (size + pack)) (Err BufferTooSmall) (Ok tt)

abbrev pub room_for : Class → ℕ → ℕ → ℕ → Room
room_for Plain size pack room = frame_room size room
room_for Secure size pack room = payload_room size pack room
room_for Unknown size pack room = Err Unwritable
