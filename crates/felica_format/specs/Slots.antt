-- Change request W-208 as statements: the values that the formula for the time slots takes, and the Polling frames that pass. Each is proved under its
-- name in proofs/Slots.antt.
-- Assumes nothing.
use Rattle.std.specs.Prelude.{ℕ, ◌≤◌, ◌≡◌, ◌↔◌, true, List, [], ◌∷◌}
use Rattle.felica_format.specs.Basic.{is_one_of, zeros, word_of}
use Rattle.felica_format.specs.Command.{Command, command_of, end_fields}
use Rattle.felica_format.specs.Read.{is_time_slots, gives, read_frame}

-- Document 01: "The time slot values of Polling are 00, 01, 03, 07, 0F". The list serves the statements alone: reading and writing go by the formula.
abbrev pub time_slot_values : List ℕ
time_slot_values = 0x00 ∷ 0x01 ∷ 0x03 ∷ 0x07 ∷ 0x0F ∷ []

-- of all numbers, the formula takes these five and nothing else
abbrev pub TimeSlotsAre : Type 0
TimeSlotsAre = (x : ℕ) → is_time_slots x ≡ is_one_of time_slot_values x

-- a Polling, as the layout of 00 reads it: system code with the high byte first, request code, time slots
abbrev pub polling_of : ℕ → ℕ → ℕ → ℕ → Command
polling_of high low request slots = command_of 0x00 (zeros 8) 0 [] [] [] [] (end_fields (word_of low high) 0 request slots (zeros 16)) []

-- 06 00, a system code, a request code up to 02 and one of the five values, which gives that Polling
abbrev pub PollingFrame : List ℕ → Command → Type 0
PollingFrame s c =
    (high : ℕ) × (low : ℕ) × (request : ℕ) × (slots : ℕ)
    × (s ≡ 0x06 ∷ 0x00 ∷ high ∷ low ∷ request ∷ slots ∷ []) × (request ≤ 2) × (is_one_of time_slot_values slots ≡ true)
    × (c ≡ polling_of high low request slots)

-- "The same Polling frames pass": of all frames with code 00, of bytes or any other numbers, those that give a command are exactly these. None of
-- a Polling's elements is long: it has none.
abbrev pub PollingFramesAre : Type 0
PollingFramesAre =
    (n : ℕ) (body : List ℕ) (c : Command) (long : ℕ) → (read_frame (n ∷ 0x00 ∷ body) ≡ gives c long) ↔ (PollingFrame (n ∷ 0x00 ∷ body) c × (long ≡ 0))
