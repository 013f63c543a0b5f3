-- What follows from the definition of the list reader, in document 01's words, as statements. Each is proved under its name in proofs/Rules.antt.
-- Assumes nothing.
use Rattle.std.specs.Prelude.{ℕ, ◌≡◌, ◌⊎◌, ◌↔◌, false, List, Option, Some, Err}
use Rattle.felica_format.specs.Command.{Command}
use Rattle.felica_format.specs.Read.{Answer as Reading, gives, refused, read_frame, read_payload, read_secure}
use Rattle.felica_command.specs.Meaning.{ParserResult, meaning, Canonical, refusal}
use Rattle.felica_command.specs.Places.{places_of, read_places, Account, Inside}
use Rattle.felica_format.specs.declared.error.Reason.TheVariants.{BufferTooSmall}
use Rattle.felica_lists.specs.Lists.{Buffers, lists_of, fits, fronts, outcome, listed}

-- "No lent buffer is touched" by a refusal.
abbrev pub RefusedUntouched : Type 0
RefusedUntouched = (reading : Reading) (b : Buffers) (n : ℕ) (code : Option ℕ) → (listed reading b).answer ≡ refused n code → (listed reading b).buffers ≡ b

-- the bytes give a command with this code, and a buffer is shorter than its list
abbrev pub TooSmall : Reading → Buffers → Option ℕ → Type 0
TooSmall reading b code = (c : Command) × (long : ℕ) × (reading ≡ gives c long) × (fits (lists_of c) b ≡ false) × (code ≡ Some c.code)

-- "21 exactly when a buffer is shorter than its list"
abbrev pub TwentyOneExactly : Reading → Type 0
TwentyOneExactly reading = (b : Buffers) (code : Option ℕ) → ((listed reading b).answer ≡ refused 21 code) ↔ TooSmall reading b code

abbrev pub FrameTwentyOne : Type 0
FrameTwentyOne = (s : List ℕ) → TwentyOneExactly (read_frame s)

abbrev pub PayloadTwentyOne : Type 0
PayloadTwentyOne = (s : List ℕ) → TwentyOneExactly (read_payload s)

abbrev pub SecureTwentyOne : Type 0
SecureTwentyOne = (code : ℕ) (s : List ℕ) → TwentyOneExactly (read_secure code s)

-- The contract of the list reader: for the payload s, whose body begins at `at`, the definitions say `reading`; the buffers held b, the result is r, and
-- then they hold a.
abbrev pub ListAccount : List ℕ → ℕ → Reading → Buffers → ParserResult → Buffers → Type 0
ListAccount s at reading b r a =
    (outcome (meaning s r) a ≡ listed reading b) × (places_of r ≡ read_places at s (meaning s r)) × Canonical r × Inside s (places_of r)

-- It leaves nothing open: no two results meet it, and no two contents of the buffers.
abbrev pub OneListAccount : Type 0
OneListAccount = (s : List ℕ) (at : ℕ) (reading : Reading) (b : Buffers) (r t : ParserResult) (a e : Buffers)
    → ListAccount s at reading b r a → ListAccount s at reading b t e → (r ≡ t) × (a ≡ e)

-- It "gives the parser's result or refusal", or 21 where a buffer is too small: p is what the parser gives for the same bytes.
abbrev pub ParsersResult : Type 0
ParsersResult = (s : List ℕ) (at : ℕ) (reading : Reading) (b : Buffers) (p r : ParserResult) (a : Buffers)
    → Account s at reading p → ListAccount s at reading b r a → (r ≡ p) ⊎ ((code : Option ℕ) × TooSmall reading b code × (r ≡ Err (refusal BufferTooSmall code)))

-- A result that is a command meets the parser's contract, and the buffers hold the command's lists in front.
abbrev pub AcceptedIsParsed : Type 0
AcceptedIsParsed = (s : List ℕ) (at : ℕ) (reading : Reading) (b : Buffers) (r : ParserResult) (a : Buffers) (c : Command) (long : ℕ)
    → ListAccount s at reading b r a → meaning s r ≡ gives c long → Account s at reading r × (a ≡ fronts (lists_of c) b)
