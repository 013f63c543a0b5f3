-- The lists of a command as text. Entries are read one after the other, as far as the bytes have them whole.
-- Assumes nothing.
use Rattle.std.specs.Prelude.{ℕ, zero, suc, ◌%◌, List, [], ◌∷◌, ◌++◌, drop, Option, Some, None}
use Rattle.felica_format.specs.Basic.{Step, taken, refuse, word_of}
use Rattle.felica_format.specs.Command.{Element, Formed}
use Rattle.felica_format.specs.Read.{read_element}
use Rattle.felica_command.specs.declared.command.Part.{Part}
use Rattle.felica_text.specs.Text.{digit_text, word_text, parted}

-- one code of a list; 13: code list cut off
unfoldable pub read_code : List ℕ → Step ℕ
read_code [] = refuse 13
read_code (low ∷ []) = refuse 13
read_code (low ∷ high ∷ s) = taken (word_of low high) s

-- number/place/mode, in four, one and one digits; 47 is the code of `/`
abbrev pub element_text : Element → List ℕ
element_text e = word_text e.number ++ (47 ∷ digit_text (e.place % 16) ∷ 47 ∷ digit_text (e.mode % 16) ∷ [])

-- the same of either form
abbrev pub formed_text : Formed → List ℕ
formed_text f = element_text f.element

abbrev pub if_taken : {A B : Type 0} → Step A → (A → List ℕ → B) → B → B
if_taken (taken a rest) f other = f a rest
if_taken (refuse n) f other = other

-- the first n entries, as far as the bytes have them whole
unfoldable pub entries_of : {A : Type 0} → (List ℕ → Step A) → ℕ → List ℕ → List A
entries_of read zero s = []
entries_of read (suc n) s = if_taken (read s) (λ a rest. a ∷ entries_of read n rest) []

abbrev pub codes_text : List ℕ → Part → List ℕ
codes_text s p = parted word_text (entries_of read_code p.count (drop p.start s))

abbrev pub blocks_text : List ℕ → Part → List ℕ
blocks_text s p = parted formed_text (entries_of read_element p.count (drop p.start s))

-- a text, and the bytes behind what it is the text of
abbrev pub TextRead : Type 0
TextRead = Option (List ℕ × List ℕ)

-- the text of what a step took
abbrev pub taken_text : {A : Type 0} → (A → List ℕ) → Step A → TextRead
taken_text text step = if_taken step (λ a rest. Some (text a, rest)) None

-- the text of an entry that was found in the bytes s, with the place behind it
abbrev pub entry_text : {T : Type 0} → (T → List ℕ) → List ℕ → Option (T × ℕ) → TextRead
entry_text text s (Some found) = Some (text found.0, drop found.1 s)
entry_text text s None = None

abbrev pub if_read : {B : Type 0} → TextRead → (List ℕ → List ℕ → B) → B → B
if_read (Some found) f other = f found.0 found.1
if_read None f other = other

-- the texts of the first n entries
unfoldable pub texts_of : (List ℕ → TextRead) → ℕ → List ℕ → List (List ℕ)
texts_of read zero s = []
texts_of read (suc n) s = if_read (read s) (λ text rest. text ∷ texts_of read n rest) []
