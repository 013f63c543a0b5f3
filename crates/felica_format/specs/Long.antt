-- Change request W-204 as statements: which form an element had, and how many of a command's elements were long. `FormTold` and `CountsDiffer` are proved under
-- their names in proofs/Long.antt, the others in proofs/Demand3.antt.
-- Assumes nothing.
use Rattle.std.specs.Prelude.{ℕ, ◌≤◌, ◌<◌, ◌≡◌, true, false, List, ◌∷◌, ◌++◌, length}
use Rattle.felica_format.specs.Basic.{Bytes, taken}
use Rattle.felica_format.specs.Command.{Command, Element, elements_of}
use Rattle.felica_format.specs.Layout.{layout_of}
use Rattle.felica_format.specs.Read.{read_element, gives, read_payload, read_frame, read_secure}
use Rattle.felica_format.specs.Write.{Forms, short_bytes, long_bytes, long_in, body_bytes, frame_of, secure_of}
use Rattle.felica_format.specs.Writable.{element_ok}
use Rattle.felica_format.specs.Demand3.{HasFrame, HasPayload, MayFollow}

-- "The reading of one element shall also tell which form it had": of an element's bytes in either form, that form, whatever stands behind them.
abbrev pub FormTold : Type 0
FormTold =
    (e : Element) (rest : List ℕ) → element_ok e ≡ true
    → (e.number < 256 → read_element (short_bytes e ++ rest) ≡ taken (record { element = e; long = false }) rest)
    × (read_element (long_bytes e ++ rest) ≡ taken (record { element = e; long = true }) rest)

-- "Everything above it passes on how many were long": with its command, a choice of forms gives how many elements it makes long. Demand 3 says that every
-- accepted frame and secure payload is such a choice.
abbrev pub FrameLongCounted : Type 0
FrameLongCounted =
    (c : Command) → HasFrame c → (forms : Forms) → length (frame_of forms c) ≤ 255 → read_frame (frame_of forms c) ≡ gives c (long_in forms (elements_of c))

abbrev pub PayloadLongCounted : Type 0
PayloadLongCounted =
    (c : Command) → HasPayload c → (forms : Forms) (tail : List ℕ) → MayFollow c.code tail
    → read_secure c.code (secure_of forms c ++ tail) ≡ gives c (long_in forms (elements_of c))

-- The same of plain payloads, which may be longer than a frame can be.
abbrev pub HasPlain : Command → Type 0
HasPlain c = (s : List ℕ) × Bytes s × (long : ℕ) × (read_payload s ≡ gives c long)

abbrev pub PlainLongCounted : Type 0
PlainLongCounted =
    (c : Command) → HasPlain c → (forms : Forms) → read_payload (c.code ∷ body_bytes (layout_of c.code) forms c) ≡ gives c (long_in forms (elements_of c))

-- "Two frames of one command may now differ in that count, while the command itself compares as before."
abbrev pub CountsDiffer : Type 0
CountsDiffer = (c : Command) × (s : List ℕ) × (t : List ℕ) × Bytes s × Bytes t × (read_frame s ≡ gives c 0) × (read_frame t ≡ gives c 1)
