-- The parts that the list steps name: what stands there, and where it stands.
-- Assumes nothing.
use Rattle.std.specs.Prelude.{◌≡◌, ℕ, ◌+◌, ◌*◌, ◌<◌, ◌≤◌, true, List, length, ltb, Result, Ok, Err}
use Rattle.felica_format.specs.Basic.{Step, taken, refuse, refuse_if}
use Rattle.felica_format.specs.Command.{Formed, long_count}
use Rattle.felica_format.specs.Layout.{◌to◌}
use Rattle.felica_format.specs.Read.{formed, read_count, read_codes, read_each, read_elements}
use Rattle.felica_format.specs.Reasons.{number_of}
use Rattle.felica_format.specs.declared.error.Reason.{Reason}
use Rattle.felica_format.specs.declared.constants.Bounds.{Bounds}
use Rattle.felica_command.specs.declared.command.Part.{Part}
use Rattle.felica_command.specs.Meaning.{part, formed_at}
use Rattle.felica_command.specs.Places.{elements_size}
use Rattle.felica_command.specs.Types.{element_is}
use Rattle.felica_cursor.specs.Taken.{rest, moved}
use Rattle.felica_cursor.specs.declared.cursor.CountReasons.{CountReasons}
use Rattle.felica_cursor.specs.declared.cursor.Cursor.{Cursor}
use Rattle.felica_cursor.specs.declared.cursor.FormedElement.{FormedElement}
use Rattle.felica_cursor.specs.declared.cursor.Blocks.{Blocks}

-- a count within its bounds, and the codes or the elements behind one, refused for the reasons that a count has
abbrev pub read_count_for : CountReasons → Bounds → List ℕ → Step ℕ
read_count_for why b = read_count (number_of why.missing) (number_of why.out_of_range) b.least b.greatest

abbrev pub read_codes_for : CountReasons → Bounds → List ℕ → Step (List ℕ)
read_codes_for why b = read_codes (number_of why.missing) (number_of why.out_of_range) (b.least to b.greatest)

abbrev pub read_elements_for : CountReasons → List ℕ → Step (List Formed)
read_elements_for why = read_elements (number_of why.missing) (number_of why.out_of_range) true

-- codes, two bytes each, from a cursor on
abbrev pub CodesFrom : Cursor → Part → Cursor → Type 0
CodesFrom c p behind = (p.start ≡ c.at) × (behind ≡ moved c (2 * p.count))

abbrev pub formed_is : FormedElement → Formed
formed_is e = formed e.long (element_is e.element)

-- the elements of a block list
abbrev pub elements_in : List ℕ → Blocks → List Formed
elements_in s b = formed_at s b.list

-- elements from a cursor on, as many as the list says, and as many long ones
abbrev pub ElementsFrom : Cursor → Blocks → Cursor → Type 0
ElementsFrom c b behind =
    (b.list.start ≡ c.at) × (length (elements_in c.payload.now b) ≡ b.list.count) × (behind ≡ moved c (elements_size b.list.count (rest c)))
    × (b.long ≡ long_count (elements_in c.payload.now b))

-- so many elements passed over: all of them are there, and the cursor stands behind them; or why one of them is refused
abbrev pub Passes : ℕ → Cursor → Result Cursor Reason → Type 0
Passes n c (Ok behind) = (elements_size n (rest c) ≤ length (rest c)) × (behind ≡ moved c (elements_size n (rest c)))
Passes n c (Err why) = read_each n (rest c) ≡ refuse (number_of why)

-- data: 16 bytes for each block
abbrev pub DataFrom : Cursor → ℕ → Part → Cursor → Type 0
DataFrom c blocks p behind = (p ≡ part c.at (16 * blocks)) × (behind ≡ moved c (16 * blocks))

-- "the fixed bytes that end a layout are measured first, 7 before 8"
unfoldable pub measured : ℕ → List ℕ → Step ℕ
measured size l = refuse_if (ltb (length l) size) 7 (refuse_if (ltb size (length l)) 8 (taken size l))

-- bytes that were measured, some of them, stand from the cursor to the end, and it stays
abbrev pub Measured : Cursor → ℕ → Unit {0} → Cursor → Type 0
Measured c size v behind = (behind ≡ c) × (0 < size → c.at + size ≡ length c.payload.now)
