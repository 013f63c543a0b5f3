-- Demand 3 over the definitions, and demand 2's reading back, as statements. Each is proved under its name in proofs/Demand3.antt.
-- "All-short means each number below 256 short and no tail": the choice [] is all-short.
-- Assumes nothing.
use Rattle.std.specs.Prelude.{ℕ, ◌≤◌, ◌<◌, ◌≡◌, ◌⊎◌, ◌≢◌, ◌↔◌, Bool, true, List, [], ◌∷◌, ◌++◌, length}
use Rattle.std.specs.Prelude.{None, Some}
use Rattle.felica_format.specs.declared.classes.Class.TheVariants.{Plain, Secure}
use Rattle.felica_format.specs.Basic.{Bytes, is_one_of}
use Rattle.felica_format.specs.Command.{Command, Element, elements_of}
use Rattle.felica_format.specs.Layout.{class_of}
use Rattle.felica_format.specs.Read.{gives, read_frame, read_secure}
use Rattle.felica_format.specs.Write.{Forms, short_bytes, long_bytes, element_bytes, each_bytes, frame_of, secure_of}
use Rattle.felica_format.specs.Writable.{written}

-- "A frame, or a payload with its secure code, is accepted when the layouts and checks above find no ground against it, and gives the command
-- read by its layout." How many of its elements were long is no part of the command.
abbrev pub FrameGives : List ℕ → Command → Type 0
FrameGives s c = Bytes s × (long : ℕ) × (read_frame s ≡ gives c long)

abbrev pub PayloadGives : ℕ → List ℕ → Command → Type 0
PayloadGives code s c = Bytes s × (long : ℕ) × (read_secure code s ≡ gives c long)

abbrev pub HasFrame : Command → Type 0
HasFrame c = (s : List ℕ) × FrameGives s c

abbrev pub HasPayload : Command → Type 0
HasPayload c = (code : ℕ) × (s : List ℕ) × PayloadGives code s c

-- "its choices of short or long form for block numbers below 256, within 255 bytes"
abbrev pub FrameChoice : Command → List ℕ → Type 0
FrameChoice c s = (forms : Forms) × (s ≡ frame_of forms c) × (length s ≤ 255)

-- "behind 14, 16, 44, 46 any tail may follow"
abbrev pub secure_reads_and_writes : List ℕ
secure_reads_and_writes = 0x14 ∷ 0x16 ∷ 0x44 ∷ 0x46 ∷ []

abbrev pub MayFollow : ℕ → List ℕ → Type 0
MayFollow code tail = (tail ≡ []) ⊎ ((is_one_of secure_reads_and_writes code ≡ true) × Bytes tail)

abbrev pub PayloadChoice : Command → ℕ → List ℕ → Type 0
PayloadChoice c code s = (code ≡ c.code) × (forms : Forms) × (tail : List ℕ) × MayFollow code tail × (s ≡ secure_of forms c ++ tail)

-- "The accepted frames of a command are exactly its choices .. The same for secure payloads, with any ignored tail behind reads and writes."
abbrev pub FramesAreChoices : Type 0
FramesAreChoices = (c : Command) → HasFrame c → (s : List ℕ) → FrameGives s c ↔ FrameChoice c s

abbrev pub PayloadsAreChoices : Type 0
PayloadsAreChoices = (c : Command) → HasPayload c → (code : ℕ) (s : List ℕ) → PayloadGives code s c ↔ PayloadChoice c code s

-- "the all-short one is among them"
abbrev pub ShortFrameAccepted : Type 0
ShortFrameAccepted = (c : Command) → HasFrame c → FrameGives (frame_of [] c) c

abbrev pub ShortPayloadAccepted : Type 0
ShortPayloadAccepted = (c : Command) → HasPayload c → PayloadGives c.code (secure_of [] c) c

-- "every other has more bytes"
abbrev pub OtherFramesLonger : Type 0
OtherFramesLonger = (c : Command) (s : List ℕ) → FrameGives s c → s ≢ frame_of [] c → length (frame_of [] c) < length s

abbrev pub OtherPayloadsLonger : Type 0
OtherPayloadsLonger = (c : Command) (code : ℕ) (s : List ℕ) → PayloadGives code s c → s ≢ secure_of [] c → length (secure_of [] c) < length s

-- "and the writer writes it byte for byte"
abbrev pub ShortFrameWritten : Type 0
ShortFrameWritten = (c : Command) → HasFrame c → written c ≡ Some (frame_of [] c)

abbrev pub ShortPayloadWritten : Type 0
ShortPayloadWritten = (c : Command) → HasPayload c → written c ≡ Some (secure_of [] c)

-- "The writer says unwritable exactly when no accepted frame and no accepted secure payload gives the command." The payload may be of any code, and
-- the three lists of the elements of any lengths.
abbrev pub UnwritableExactly : Type 0
UnwritableExactly = (c : Command) → (written c ≡ None) ↔ ((¬ HasFrame c) × (¬ HasPayload c))

-- "What the writer writes, the parser reads as the command given."
abbrev pub FrameReadBack : Type 0
FrameReadBack = (c : Command) (s : List ℕ) → class_of c.code ≡ Plain → written c ≡ Some s → (length s ≤ 255) × FrameGives s c

abbrev pub PayloadReadBack : Type 0
PayloadReadBack = (c : Command) (s : List ℕ) → class_of c.code ≡ Secure → written c ≡ Some s → PayloadGives c.code s c

-- the list is `before`, the command's elements in some forms, and `after`
abbrev pub Around : Command → List ℕ → List ℕ → List ℕ → Type 0
Around c before after s = (forms : Forms) × (s ≡ before ++ (each_bytes forms (elements_of c) ++ after))

-- Two accepted frames of one command are equal but for the length byte and the forms of the elements.
abbrev pub TwoFrames : Type 0
TwoFrames =
    (c : Command) (s t : List ℕ) → FrameGives s c → FrameGives t c
    → (before : List ℕ) × (after : List ℕ) × Around c (length s ∷ before) after s × Around c (length t ∷ before) after t

-- Two accepted payloads of one command are of its code (`PayloadsAreChoices`), and equal but for the forms of the elements and the ignored tail.
abbrev pub TwoPayloads : Type 0
TwoPayloads =
    (c : Command) (s t : List ℕ) → PayloadGives c.code s c → PayloadGives c.code t c
    → (before : List ℕ) × (after : List ℕ) × (u : List ℕ) × (v : List ℕ) × MayFollow c.code u × MayFollow c.code v
    × Around c before (after ++ u) s × Around c before (after ++ v) t

-- An element numbered from 256 up has one form.
abbrev pub OneFormFrom256 : Type 0
OneFormFrom256 = (long : Bool) (e : Element) → 256 ≤ e.number → element_bytes long e ≡ long_bytes e

-- the bytes of an element: the long form, or, where its number is below 256, the short one
abbrev pub IsForm : Element → List ℕ → Type 0
IsForm e x = (x ≡ long_bytes e) ⊎ ((e.number < 256) × (x ≡ short_bytes e))

-- x and y are the elements' bytes, one element after the other. Of each element they are equal, or its number is below 256.
abbrev pub SameButForms : List Element → List ℕ → List ℕ → Type 0
SameButForms [] x y = (x ≡ []) × (y ≡ [])
SameButForms (e ∷ es) x y =
    (a : List ℕ) × (b : List ℕ) × (x₁ : List ℕ) × (y₁ : List ℕ) × (x ≡ a ++ x₁) × (y ≡ b ++ y₁) × IsForm e a × IsForm e b
    × ((a ≡ b) ⊎ (e.number < 256)) × SameButForms es x₁ y₁

-- Two accepted frames of one command differ in nothing but the length byte and the forms of elements numbered below 256.
abbrev pub FramesDiffer : Type 0
FramesDiffer =
    (c : Command) (s t : List ℕ) → FrameGives s c → FrameGives t c
    → (before : List ℕ) × (after : List ℕ) × (x : List ℕ) × (y : List ℕ) × SameButForms (elements_of c) x y
    × (s ≡ length s ∷ before ++ (x ++ after)) × (t ≡ length t ∷ before ++ (y ++ after))

-- Two accepted payloads of one command differ in nothing but these forms and the ignored tail.
abbrev pub PayloadsDiffer : Type 0
PayloadsDiffer =
    (c : Command) (s t : List ℕ) → PayloadGives c.code s c → PayloadGives c.code t c
    → (before : List ℕ) × (after : List ℕ) × (x : List ℕ) × (y : List ℕ) × SameButForms (elements_of c) x y
    × (u : List ℕ) × (v : List ℕ) × MayFollow c.code u × MayFollow c.code v
    × (s ≡ before ++ (x ++ (after ++ u))) × (t ≡ before ++ (y ++ (after ++ v)))
