-- What follows from the contracts of the writer and the parser, in the words of document 01 and of the three demands, as statements. Each is proved under its
-- name in proofs/Rules.antt.
-- Assumes nothing.
use Rattle.std.specs.Prelude.{ℕ, ◌≤◌, ◌<◌, ◌≡◌, ◌⊎◌, ◌≢◌, ◌↔◌, List, [], ◌∷◌, ◌++◌, length, take, drop, Ok}
use Rattle.std.specs.Prelude.{Option, Some}
use Rattle.felica_format.specs.declared.error.Reason.TheVariants.{Unwritable}
use Rattle.felica_format.specs.declared.classes.Class.TheVariants.{Plain, Secure}
use Rattle.felica_format.specs.Basic.{Bytes, zeros}
use Rattle.felica_format.specs.Command.{Command, elements_of}
use Rattle.felica_format.specs.Layout.{class_of}
use Rattle.felica_format.specs.Read.{gives, read_frame, read_secure}
use Rattle.felica_format.specs.Write.{Forms, long_in, frame_of, secure_of}
use Rattle.felica_format.specs.Writable.{written}
use Rattle.felica_format.specs.Demand3.{HasFrame, HasPayload, FrameChoice, PayloadChoice, MayFollow, Around, SameButForms}
use Rattle.felica_command.specs.Meaning as parser
use Rattle.felica_command.specs.Places.{Account}
use Rattle.felica_command.specs.Meaning.{ParserResult, long_of}
use Rattle.felica_write.specs.Writing.{refused, Written, meaning, refusal, outcome, writing}

-- The contract of the writer: it was handed c, the buffer held b, the result is r, and then the buffer holds a.
abbrev pub WriterAccount : Command → List ℕ → Written → List ℕ → Type 0
WriterAccount c b r a = outcome (meaning r) a ≡ writing c b

-- The contract of the parser: p is its result for the frame s; for the payload s of a secure code.
abbrev pub FrameParsed : List ℕ → ParserResult → Type 0
FrameParsed s p = Account (drop 1 s) 1 (read_frame s) p

abbrev pub PayloadParsed : ℕ → List ℕ → ParserResult → Type 0
PayloadParsed code s p = Account s 0 (read_secure code s) p

-- and p is the command c; how many of its elements were long is no part of the command
abbrev pub FrameIs : List ℕ → ParserResult → Command → Type 0
FrameIs s p c = (long : ℕ) × (parser.meaning (drop 1 s) p ≡ gives c long)

abbrev pub PayloadIs : List ℕ → ParserResult → Command → Type 0
PayloadIs s p c = (long : ℕ) × (parser.meaning s p ≡ gives c long)

-- The writer's contract leaves nothing open: no two results meet it, and no two contents of the buffer.
abbrev pub OneWriterAccount : Type 0
OneWriterAccount = (c : Command) (b : List ℕ) (r t : Written) (a e : List ℕ) → WriterAccount c b r a → WriterAccount c b t e → (r ≡ t) × (a ≡ e)

-- "a refused call changes no lent byte"
abbrev pub RefusedUntouched : Type 0
RefusedUntouched = (c : Command) (b : List ℕ) (r : Written) (a : List ℕ) (n : ℕ) (code : Option ℕ) → WriterAccount c b r a → meaning r ≡ refused n code → a ≡ b

-- A refusal is 21 or 22, and both carry the code handed in.
abbrev pub TwoRefusals : Type 0
TwoRefusals =
    (c : Command) (b : List ℕ) (r : Written) (a : List ℕ) (n : ℕ) (code : Option ℕ) → WriterAccount c b r a → meaning r ≡ refused n code
    → (code ≡ Some c.code) × ((n ≡ 21) ⊎ (n ≡ 22))

-- "21 comes exactly when the shortest form is longer than the buffer": of a command that a frame gives, that a payload gives, and of any
abbrev pub FrameTwentyOne : Type 0
FrameTwentyOne =
    (c : Command) (b : List ℕ) (r : Written) (a : List ℕ) → HasFrame c → WriterAccount c b r a
    → (meaning r ≡ refused 21 (Some c.code)) ↔ (length b < length (frame_of [] c))

abbrev pub PayloadTwentyOne : Type 0
PayloadTwentyOne =
    (c : Command) (b : List ℕ) (r : Written) (a : List ℕ) → HasPayload c → WriterAccount c b r a
    → (meaning r ≡ refused 21 (Some c.code)) ↔ (length b < length (secure_of [] c))

abbrev pub TwentyOneExactly : Type 0
TwentyOneExactly =
    (c : Command) (b : List ℕ) (r : Written) (a : List ℕ) → WriterAccount c b r a
    → (meaning r ≡ refused 21 (Some c.code)) ↔ ((s : List ℕ) × (written c ≡ Some s) × (length b < length s))

-- "The writer says unwritable exactly when no accepted frame and no accepted secure payload gives the command." The payload may be of any code, and the
-- three lists of a block list are part of the command as they were handed in, whatever their lengths.
abbrev pub TwentyTwoExactly : Type 0
TwentyTwoExactly =
    (c : Command) (b : List ℕ) (r : Written) (a : List ℕ) → WriterAccount c b r a
    → (meaning r ≡ refused 22 (Some c.code)) ↔ ((¬ HasFrame c) × (¬ HasPayload c))

-- Whatever the parser reads after a 22, it is not what the writer was handed.
abbrev pub UnwritableUnread : Type 0
UnwritableUnread =
    (c : Command) (b : List ℕ) (r : Written) (a : List ℕ) → WriterAccount c b r a → meaning r ≡ refused 22 (Some c.code)
    → (s : List ℕ) (p : ParserResult) → Bytes s → (FrameParsed s p → ¬ FrameIs s p c) × ((code : ℕ) → PayloadParsed code s p → ¬ PayloadIs s p c)

-- What the parser gave of a frame or of a secure payload is never 22 when it is handed to the writer. What the list reader gives is the parser's.
abbrev pub ReadIsWritable : Type 0
ReadIsWritable =
    (c : Command) (s : List ℕ) (p : ParserResult) (b : List ℕ) (r : Written) (a : List ℕ) (k : Option ℕ) → Bytes s → WriterAccount c b r a
    → (FrameParsed s p → FrameIs s p c → meaning r ≢ refused 22 k) × ((code : ℕ) → PayloadParsed code s p → PayloadIs s p c → meaning r ≢ refused 22 k)

-- Its only refusal is 21, with its code, which comes exactly when the buffer is shorter than the shortest form.
abbrev pub OnlyTwentyOne : Command → List ℕ → List ℕ → Written → Type 0
OnlyTwentyOne c shortest b r = (n : ℕ) (k : Option ℕ) → (meaning r ≡ refused n k) ↔ ((n ≡ 21) × (k ≡ Some c.code) × (length b < length shortest))

abbrev pub ReadTwentyOne : Type 0
ReadTwentyOne =
    (c : Command) (s : List ℕ) (p : ParserResult) (b : List ℕ) (r : Written) (a : List ℕ) → Bytes s → WriterAccount c b r a
    → (FrameParsed s p → FrameIs s p c → OnlyTwentyOne c (frame_of [] c) b r)
    × ((code : ℕ) → PayloadParsed code s p → PayloadIs s p c → OnlyTwentyOne c (secure_of [] c) b r)

-- "bytes behind keep their values"
abbrev pub BehindKept : Type 0
BehindKept = (c : Command) (b : List ℕ) (n : ℕ) (a : List ℕ) → WriterAccount c b (Ok n) a → (n ≤ length b) × (drop n a ≡ drop n b)

-- "What the writer writes, the parser reads as the command given."
abbrev pub WrittenFrameRead : Type 0
WrittenFrameRead =
    (c : Command) (b : List ℕ) (n : ℕ) (a : List ℕ) (p : ParserResult) → class_of c.code ≡ Plain → WriterAccount c b (Ok n) a
    → FrameParsed (take n a) p → FrameIs (take n a) p c

abbrev pub WrittenPayloadRead : Type 0
WrittenPayloadRead =
    (c : Command) (b : List ℕ) (n : ℕ) (a : List ℕ) (p : ParserResult) → class_of c.code ≡ Secure → WriterAccount c b (Ok n) a
    → PayloadParsed c.code (take n a) p → PayloadIs (take n a) p c

-- "the all-short one is among them, every other has more bytes, and the writer writes it byte for byte": where the parser reads c in a frame s, the writer
-- that is handed c writes the all-short choice, if there is room; the parser reads c in it; and s, if it is another frame, has more bytes.
abbrev pub ShortestFrame : Type 0
ShortestFrame =
    (c : Command) (s : List ℕ) (p : ParserResult) (b : List ℕ) (r : Written) (a : List ℕ) → Bytes s → FrameParsed s p → FrameIs s p c
    → length (frame_of [] c) ≤ length b → WriterAccount c b r a
    → (r ≡ Ok (length (frame_of [] c))) × (a ≡ frame_of [] c ++ drop (length (frame_of [] c)) b)
    × ((q : ParserResult) → FrameParsed (frame_of [] c) q → FrameIs (frame_of [] c) q c)
    × (s ≢ frame_of [] c → length (frame_of [] c) < length s)

abbrev pub ShortestPayload : Type 0
ShortestPayload =
    (c : Command) (code : ℕ) (s : List ℕ) (p : ParserResult) (b : List ℕ) (r : Written) (a : List ℕ) → Bytes s → PayloadParsed code s p → PayloadIs s p c
    → length (secure_of [] c) ≤ length b → WriterAccount c b r a
    → (r ≡ Ok (length (secure_of [] c))) × (a ≡ secure_of [] c ++ drop (length (secure_of [] c)) b)
    × ((q : ParserResult) → PayloadParsed c.code (secure_of [] c) q → PayloadIs (secure_of [] c) q c)
    × (s ≢ secure_of [] c → length (secure_of [] c) < length s)

-- "The accepted frames of a command are exactly its choices of short or long form .. within 255 bytes", of a command that some frame gives
abbrev pub FramesReadAreChoices : Type 0
FramesReadAreChoices = (c : Command) → HasFrame c → (s : List ℕ) (p : ParserResult) → Bytes s → FrameParsed s p → FrameIs s p c ↔ FrameChoice c s

-- "The same for secure payloads, with any ignored tail behind reads and writes."
abbrev pub PayloadsReadAreChoices : Type 0
PayloadsReadAreChoices =
    (c : Command) → HasPayload c → (code : ℕ) (s : List ℕ) (p : ParserResult) → Bytes s → PayloadParsed code s p → PayloadIs s p c ↔ PayloadChoice c code s

-- Two frames that the parser reads as one command are equal but for the length byte and the forms of the elements.
abbrev pub TwoFramesRead : Type 0
TwoFramesRead =
    (c : Command) (s t : List ℕ) (p q : ParserResult) → Bytes s → Bytes t → FrameParsed s p → FrameIs s p c → FrameParsed t q → FrameIs t q c
    → (before : List ℕ) × (after : List ℕ) × Around c (length s ∷ before) after s × Around c (length t ∷ before) after t

-- the same of two payloads, but for the forms and the ignored tail
abbrev pub TwoPayloadsRead : Type 0
TwoPayloadsRead =
    (c : Command) (s t : List ℕ) (p q : ParserResult) → Bytes s → Bytes t → PayloadParsed c.code s p → PayloadIs s p c → PayloadParsed c.code t q
    → PayloadIs t q c
    → (before : List ℕ) × (after : List ℕ) × (u : List ℕ) × (v : List ℕ) × MayFollow c.code u × MayFollow c.code v
    × Around c before (after ++ u) s × Around c before (after ++ v) t

-- Two frames that the parser reads as one command differ in nothing but the length byte and the forms of elements numbered below 256.
abbrev pub FramesReadDiffer : Type 0
FramesReadDiffer =
    (c : Command) (s t : List ℕ) (p q : ParserResult) → Bytes s → Bytes t → FrameParsed s p → FrameIs s p c → FrameParsed t q → FrameIs t q c
    → (before : List ℕ) × (after : List ℕ) × (x : List ℕ) × (y : List ℕ) × SameButForms (elements_of c) x y
    × (s ≡ length s ∷ before ++ (x ++ after)) × (t ≡ length t ∷ before ++ (y ++ after))

-- the same of two payloads: in nothing but these forms and the ignored tail
abbrev pub PayloadsReadDiffer : Type 0
PayloadsReadDiffer =
    (c : Command) (s t : List ℕ) (p q : ParserResult) → Bytes s → Bytes t → PayloadParsed c.code s p → PayloadIs s p c → PayloadParsed c.code t q
    → PayloadIs t q c
    → (before : List ℕ) × (after : List ℕ) × (x : List ℕ) × (y : List ℕ) × SameButForms (elements_of c) x y
    × (u : List ℕ) × (v : List ℕ) × MayFollow c.code u × MayFollow c.code v
    × (s ≡ before ++ (x ++ (after ++ u))) × (t ≡ before ++ (y ++ (after ++ v)))

-- "how many were long": of a choice of forms, the parser's result tells how many elements it makes long.
abbrev pub FrameLongTold : Type 0
FrameLongTold =
    (c : Command) → HasFrame c → (forms : Forms) (p : ParserResult) → length (frame_of forms c) ≤ 255 → FrameParsed (frame_of forms c) p
    → long_of p ≡ long_in forms (elements_of c)

abbrev pub PayloadLongTold : Type 0
PayloadLongTold =
    (c : Command) → HasPayload c → (forms : Forms) (tail : List ℕ) (p : ParserResult) → MayFollow c.code tail
    → PayloadParsed c.code (secure_of forms c ++ tail) p → long_of p ≡ long_in forms (elements_of c)

-- A block number without a place and a mode is no command: 04 with one is 22. The elements of its three lists would be none if the shortest list counted.
abbrev pub only_number : ℕ → Command
only_number n =
    record {
      code = 0x04;
      idm = zeros 8;
      selector = 0;
      first = [];
      second = [];
      numbers = n ∷ [];
      places = [];
      modes = [];
      block_data = [];
      number = 0;
      index = 0;
      option = 0;
      choice = 0;
      challenge = zeros 16;
      issue_package = [];
    }

abbrev pub NumberAlone : Type 0
NumberAlone = (n : ℕ) (b : List ℕ) (r : Written) (a : List ℕ) → WriterAccount (only_number n) b r a → r ≡ refusal Unwritable 0x04
