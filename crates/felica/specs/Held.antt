-- What the program has answered of the bytes that it holds. Where it is known what a reader has left and what a writer holds, these definitions tie the answers to that.
-- Assumes nothing.
use Rattle.std.specs.Prelude.{ℕ, ◌-◌, ◌^◌, ◌≡◌, ◌≤◌, Bool, true, false, List, [], ◌∷◌, ◌++◌, length, take, Option, None}
use Rattle.std.specs.Io.KnownBytes.{Consumes, Appends, IsAtEnd}
use Rattle.felica_text.specs.Text.{place_of}
use Rattle.felica_put.specs.Put.{Buffer}
use Rattle.felica.specs.Lines.{lines_from, lines_of, LineText, Answers}
use Rattle.felica.specs.Room.{input_size}
use Rattle.felica.specs.declared.input.Input.{Input}

-- the bytes that an input holds
abbrev pub bytes_in : Input → List ℕ
bytes_in input = take input.held input.room.now

-- the bytes that have been passed over of a line that is too long: as many as the input holds at least; of others none
abbrev pub Passed : Bool → List ℕ → Type 0
Passed true passed = input_size ≤ length passed
Passed false passed = passed ≡ []

-- no line ends in it
abbrev pub NoEnd : List ℕ → Type 0
NoEnd s = place_of 10 s ≡ None

-- The lines that end in the bytes s are answered, and the bytes left are those behind them; of the first line some bytes had been passed over before, of the next one they are now.
-- The output went from b to c, and what the writer holds from v to w.
pub record AnsweredUpTo (v : Option (List ℕ)) (b : Buffer) (before s : List ℕ) (w : Option (List ℕ)) (c : Buffer) (passed left : List ℕ) : Type 0 where
  pub texts : List ℕ
  pub written : List ℕ
  -- they are the front of the answers to any input that goes on with these bytes; the rest are those to the bytes left and what follows
  pub answers : (behind rest : List ℕ) → Answers (lines_from passed (left ++ behind)) rest → Answers (lines_from before (s ++ behind)) (texts ++ rest)
  -- what waited and the answers behind it are what was written and what waits now
  pub waits : take b.next b.bytes ++ texts ≡ written ++ take c.next c.bytes
  pub taken : Appends v w written

-- The same, whatever had been passed over, and no line ends in the bytes left.
abbrev pub AllAnswered : Option (List ℕ) → Buffer → Bool → List ℕ → Option (List ℕ) → Buffer → Bool → List ℕ → Type 0
AllAnswered v b long s w c now left =
    NoEnd left × ((before : List ℕ) → Passed long before → (passed : List ℕ) × Passed now passed × AnsweredUpTo v b before s w c passed left)

-- Some input has been read: the answers to it are what was written, what waits, and those to the bytes held and what follows. What the reader has left went from q to r, and what the
-- writer holds from v to w.
pub record ReadAndAnswered (q r v w : Option (List ℕ)) (c : Buffer) (long : Bool) (held : List ℕ) : Type 0 where
  pub input : List ℕ
  pub written : List ℕ
  pub passed : List ℕ
  pub is_passed : Passed long passed
  pub answers : (behind rest : List ℕ) → Answers (lines_from passed (held ++ behind)) rest → Answers (lines_of (input ++ behind)) (written ++ (take c.next c.bytes ++ rest))
  pub given : Consumes q r input
  pub taken : Appends v w written

-- Nothing is left to be read: the end is reached, or the input is so long that the turns of the loop over it do not suffice.
pub data ReadToEnd (r : Option (List ℕ)) (input : List ℕ) : Type 0 where
  at_end : IsAtEnd r → ReadToEnd r input
  too_long : 2 ^ 64 - 1 ≤ length input → ReadToEnd r input

-- The same of the input that has been read, which is read to its end.
abbrev pub AllRead : Option (List ℕ) → Option (List ℕ) → Option (List ℕ) → Option (List ℕ) → Buffer → Bool → List ℕ → Type 0
AllRead q r v w c long held = NoEnd held × ((x : ReadAndAnswered q r v w c long held) × ReadToEnd r x.input)

-- One line is answered: of it some bytes had been passed over, if it is too long.
pub record LineAnswered (v : Option (List ℕ)) (b : Buffer) (line : List ℕ) (w : Option (List ℕ)) (c : Buffer) : Type 0 where
  pub text : List ℕ
  pub is_text : LineText line text
  pub written : List ℕ
  pub waits : take b.next b.bytes ++ (text ++ (10 ∷ [])) ≡ written ++ take c.next c.bytes
  pub taken : Appends v w written

-- What is left when the input has ended is answered as its last line, if there is one.
abbrev pub LastAnswered : Option (List ℕ) → Buffer → Bool → List ℕ → Option (List ℕ) → Buffer → Type 0
LastAnswered v b long left w c =
    NoEnd left → (passed : List ℕ) → Passed long passed
    → (texts : List ℕ) × (written : List ℕ) × Answers (lines_from passed left) texts × (take b.next b.bytes ++ texts ≡ written ++ take c.next c.bytes) × Appends v w written
