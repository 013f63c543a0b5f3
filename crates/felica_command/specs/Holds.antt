-- That the places of a command's parts are theirs: what stands there is what the command has, and no part begins at the payload's first byte. Each statement
-- is proved under its name in proofs/Holds.antt.
-- Assumes nothing.
use Rattle.std.specs.Prelude.{ℕ, ◌≤◌, ◌≡◌, Bool, true, false, List, map, drop}
use Rattle.felica_format.specs.Command.{Command, Element, long_count}
use Rattle.felica_format.specs.Layout.{Codes, no_codes, ◌to◌, Behind, nothing, ignored_bytes, a_package, Layout, layout_of}
use Rattle.felica_format.specs.Read.{Answer as Reading, gives, read_payload, read_secure, read_frame}
use Rattle.felica_command.specs.Meaning.{no_part, codes_at, formed_at, elements_at, bytes_at}
use Rattle.felica_command.specs.Places.{Places, read_places}
use Rattle.felica_command.specs.declared.command.Part.{Part}

-- the parts of the payload s at these places are those of c, and `long` of its elements have the long form
pub record PartsAre (s : List ℕ) (q : Places) (c : Command) (long : ℕ) : Type 0 where
  pub first : codes_at s q.first ≡ c.first
  pub second : codes_at s q.second ≡ c.second
  pub numbers : map (λ (e : Element). e.number) (elements_at s q.elements) ≡ c.numbers
  pub places : map (λ (e : Element). e.place) (elements_at s q.elements) ≡ c.places
  pub modes : map (λ (e : Element). e.mode) (elements_at s q.elements) ≡ c.modes
  pub long_ones : long_count (formed_at s q.elements) ≡ long
  pub block_data : bytes_at s q.block_data ≡ c.block_data
  pub issue_package : bytes_at s q.issue_package ≡ c.issue_package

-- Where the payload s, whose body begins at `at`, gives a command, the places that its layout settles are those of the command's parts: what a layout lacks is
-- no part, and empty in the command.
abbrev pub Hold : List ℕ → ℕ → Reading → Type 0
Hold s at reading = (c : Command) (long : ℕ) → reading ≡ gives c long → PartsAre s (read_places at s (gives c long)) c long

-- It is so of a plain payload, of a secure one, and of a frame, whose places count from behind its length byte.
abbrev pub PlacesHold : Type 0
PlacesHold =
    ((s : List ℕ) → Hold s 1 (read_payload s)) × ((code : ℕ) (s : List ℕ) → Hold s 0 (read_secure code s))
    × ((s : List ℕ) → Hold (drop 1 s) 1 (read_frame s))

-- whether a layout has such a list, and whether it has a package
abbrev pub has_codes : Codes → Bool
has_codes no_codes = false
has_codes (least to greatest) = true

abbrev pub has_package : Behind → Bool
has_package nothing = false
has_package ignored_bytes = false
has_package a_package = true

-- a part that the layout lacks has start and count 0, and the start of one that it has is not 0
abbrev pub BehindFront : Bool → Part → Type 0
BehindFront false p = p ≡ no_part
BehindFront true p = 1 ≤ p.start

abbrev pub AllBehindFront : Layout → Places → Type 0
AllBehindFront l q =
    BehindFront (has_codes l.first) q.first × BehindFront (has_codes l.second) q.second × BehindFront l.elements q.elements
    × BehindFront l.block_data q.block_data × BehindFront (has_package l.behind) q.issue_package

-- So a start of 0 says that the command lacks the part: of any command, wherever its body begins, and even where the part is empty.
abbrev pub PartsBehindFront : Type 0
PartsBehindFront = (at : ℕ) (s : List ℕ) (c : Command) (long : ℕ) → AllBehindFront (layout_of c.code) (read_places at s (gives c long))
