-- Where the parts of a command stand in its payload, by its layout: each behind what comes before it in field order.
-- Assumes nothing.
use Rattle.std.specs.Prelude.{ℕ, zero, suc, ◌+◌, ◌*◌, ◌≤◌, ◌≡◌, Bool, true, false, cond, List, length, get_or, drop, ltb, Ok, Err}
use Rattle.felica_format.specs.Command.{Command}
use Rattle.felica_format.specs.Layout.{Selector, no_selector, type_byte, any_byte, Codes, no_codes, ◌to◌, Behind, nothing, ignored_bytes, a_package}
use Rattle.felica_format.specs.Layout.{Layout, layout_of}
use Rattle.felica_format.specs.Read.{size_of, Answer as Reading, gives, refused, read_payload, read_secure}
use Rattle.felica_command.specs.Meaning.{part, no_part, Fields, fields_of, ParserResult, meaning, Canonical}
use Rattle.felica_command.specs.declared.command.Part.{Part}

pub record Places : Type 0 where
  pub first : Part
  pub second : Part
  pub elements : Part
  pub block_data : Part
  pub issue_package : Part

abbrev pub places : Part → Part → Part → Part → Part → Places
places f g e d p = record { first = f; second = g; elements = e; block_data = d; issue_package = p }

abbrev pub no_places : Places
no_places = places no_part no_part no_part no_part no_part

-- the parts of a result
abbrev pub places_in : Fields → Places
places_in f = places f.first f.second f.elements f.block_data f.issue_package

abbrev pub places_of : ParserResult → Places
places_of (Ok p) = places_in (fields_of p.command)
places_of (Err why) = no_places

-- bytes of IDm and selector
abbrev pub idm_size : Bool → ℕ
idm_size true = 8
idm_size false = 0

abbrev pub selector_size : Selector → ℕ
selector_size no_selector = 0
selector_size type_byte = 1
selector_size any_byte = 1

-- a list of n codes that has its count byte at a place, and its bytes with the count
abbrev pub codes_part : Codes → ℕ → ℕ → Part
codes_part no_codes at n = no_part
codes_part (least to greatest) at n = part (at + 1) n

abbrev pub codes_size : Codes → ℕ → ℕ
codes_size no_codes n = 0
codes_size (least to greatest) n = 1 + 2 * n

-- the bytes of an element with this first byte, and of n elements
abbrev pub element_size : ℕ → ℕ
element_size head = cond (ltb head 128) 3 2

unfoldable pub elements_size : ℕ → List ℕ → ℕ
elements_size zero s = 0
elements_size (suc n) s = element_size (get_or s 0 0) + elements_size n (drop (element_size (get_or s 0 0)) s)

abbrev pub blocks_part : Bool → ℕ → ℕ → Part
blocks_part false at n = no_part
blocks_part true at n = part (at + 1) n

abbrev pub blocks_size : Bool → List ℕ → ℕ → ℕ → ℕ
blocks_size false s at n = 0
blocks_size true s at n = 1 + elements_size n (drop (at + 1) s)

abbrev pub data_part : Bool → ℕ → ℕ → Part
data_part false at n = no_part
data_part true at n = part at n

abbrev pub package_part : Behind → ℕ → ℕ → Part
package_part nothing at n = no_part
package_part ignored_bytes at n = no_part
package_part a_package at n = part at n

-- where each field of a layout begins in the payload s, when the body begins at `at` and gives the command c
abbrev pub first_at : Layout → ℕ → ℕ
first_at l at = at + idm_size l.idm + selector_size l.selector

abbrev pub second_at : Layout → ℕ → Command → ℕ
second_at l at c = first_at l at + codes_size l.first (length c.first)

abbrev pub blocks_at : Layout → ℕ → Command → ℕ
blocks_at l at c = second_at l at c + codes_size l.second (length c.second)

abbrev pub data_at : Layout → ℕ → List ℕ → Command → ℕ
data_at l at s c = blocks_at l at c + blocks_size l.elements s (blocks_at l at c) (length c.numbers)

abbrev pub package_at : Layout → ℕ → List ℕ → Command → ℕ
package_at l at s c = data_at l at s c + length c.block_data + size_of l.ending

unfoldable pub layout_places : Layout → ℕ → List ℕ → Command → Places
layout_places l at s c =
    places
    (codes_part l.first (first_at l at) (length c.first))
    (codes_part l.second (second_at l at c) (length c.second))
    (blocks_part l.elements (blocks_at l at c) (length c.numbers))
    (data_part l.block_data (data_at l at s c) (length c.block_data))
    (package_part l.behind (package_at l at s c) (length c.issue_package))

-- the places that an answer settles in the payload s, whose body begins at `at`: 1, behind the code byte, of a plain one, 0 of a secure one
abbrev pub read_places : ℕ → List ℕ → Reading → Places
read_places at s (gives c long) = layout_places (layout_of c.code) at s c
read_places at s (refused n code) = no_places

-- The complete account of a result r for the payload s, whose body begins at `at`, where the definitions say `reading`.
abbrev pub Account : List ℕ → ℕ → Reading → ParserResult → Type 0
Account s at reading r = (meaning s r ≡ reading) × (places_of r ≡ read_places at s reading) × Canonical r

-- a part of codes, of elements, of bytes lies inside the payload s
abbrev pub CodesInside : List ℕ → Part → Type 0
CodesInside s p = p.start + 2 * p.count ≤ length s

abbrev pub ElementsInside : List ℕ → Part → Type 0
ElementsInside s p = p.start + elements_size p.count (drop p.start s) ≤ length s

abbrev pub BytesInside : List ℕ → Part → Type 0
BytesInside s p = p.start + p.count ≤ length s

abbrev pub Inside : List ℕ → Places → Type 0
Inside s q =
    CodesInside s q.first × CodesInside s q.second × ElementsInside s q.elements × BytesInside s q.block_data × BytesInside s q.issue_package

-- All that an entry of the parser promises: the complete account of its result, and every part inside the payload.
abbrev pub ParserAccount : List ℕ → ℕ → Reading → ParserResult → Type 0
ParserAccount s at reading r = (meaning s r ≡ reading) × (places_of r ≡ read_places at s reading) × Canonical r × Inside s (places_of r)

-- The places that the definitions settle lie inside the payload (proofs/Inside.antt).
abbrev pub PayloadInside : Type 0
PayloadInside = (s : List ℕ) → Inside s (read_places 1 s (read_payload s))

abbrev pub SecureInside : Type 0
SecureInside = (code : ℕ) (s : List ℕ) → Inside s (read_places 0 s (read_secure code s))

-- An account leaves nothing open: no two results meet it (proofs/OneAccount.antt).
abbrev pub OneAccount : Type 0
OneAccount = (s : List ℕ) (at : ℕ) (reading : Reading) (r t : ParserResult) → Account s at reading r → Account s at reading t → r ≡ t
