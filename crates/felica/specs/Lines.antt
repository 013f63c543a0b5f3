-- The answers to an input: a text for each of its lines, and a line feed behind it.
-- Assumes nothing.
use Rattle.std.specs.Prelude.{ℕ, ◌^◌, ◌-◌, ◌≡◌, ◌≤◌, ◌<◌, IfSome, cond, List, [], ◌∷◌, ◌++◌, length, eqb, Option}
use Rattle.std.specs.Io.KnownBytes.{Appends}
use Rattle.felica_text.specs.Text.{text}
use Rattle.felica_calls.specs.Fault.{fault_text}
use Rattle.felica_calls.specs.declared.fault.Fault.TheVariants.{LineTooLong}
use Rattle.felica_answering.specs.Answers.{CallText}

-- The lines of an input, when some bytes of the first one have gone before: each ends at a line feed, whose code is 10. What stands behind the last line feed is a line if it is not empty.
unfoldable pub lines_from : List ℕ → List ℕ → List (List ℕ)
lines_from before [] = last_line before
  where
    last_line : List ℕ → List (List ℕ)
    last_line [] = []
    last_line (b ∷ bs) = (b ∷ bs) ∷ []
lines_from before (b ∷ s) = cond (eqb b 10) (before ∷ lines_from [] s) (lines_from (before ++ (b ∷ [])) s)

abbrev pub lines_of : List ℕ → List (List ℕ)
lines_of input = lines_from [] input

-- a line, an empty one, and one without a line feed; and an input that ends in a line feed (proofs/Lines.antt)
abbrev pub LinesExamples : Type 0
LinesExamples =
    (lines_of (text "F 02" ++ (10 ∷ 10 ∷ text "P 00")) ≡ text "F 02" ∷ [] ∷ text "P 00" ∷ [])
    × (lines_of (text "F 02" ++ (10 ∷ [])) ≡ text "F 02" ∷ []) × (lines_of [] ≡ [])

-- bytes of the longest line
abbrev pub max_line : ℕ
max_line = 65535

-- the text that answers a line
pub record LineText (line text : List ℕ) : Type 0 where
  pub call : length line ≤ max_line → CallText line text
  pub too_long : max_line < length line → text ≡ fault_text LineTooLong

-- the answers to some lines, a line feed behind each
abbrev pub Answers : List (List ℕ) → List ℕ → Type 0
Answers [] output = output ≡ []
Answers (line ∷ lines) output = (text : List ℕ) × (rest : List ℕ) × LineText line text × Answers lines rest × (output ≡ text ++ (10 ∷ rest))

-- Lines have one output (proofs/Lines.antt).
abbrev pub OneOutput : Type 0
OneOutput = (lines : List (List ℕ)) (a b : List ℕ) → Answers lines a → Answers lines b → a ≡ b

-- Where it is known what the reader has left, and that is no longer than a machine can count, the writer takes the answers to it, and nothing else.
abbrev pub TakesAnswers : Option (List ℕ) → Option (List ℕ) → Option (List ℕ) → Type 0
TakesAnswers q v w = IfSome q (λ input. length input < 2 ^ 64 - 1 → (output : List ℕ) × Answers (lines_of input) output × Appends v w output)

-- the same of one line, given as words
abbrev pub TakesAnswer : List ℕ → Option (List ℕ) → Option (List ℕ) → Type 0
TakesAnswer line v w = (output : List ℕ) × Answers (line ∷ []) output × Appends v w output
