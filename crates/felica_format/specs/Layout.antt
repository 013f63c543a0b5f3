-- The layouts: one row a code, in the words of document 01.
-- Assumes nothing.
use Rattle.std.specs.Prelude.{ℕ, Bool, true, false, cond, ◌||◌, List, [], ◌∷◌, eqb, get_or}
use Rattle.felica_format.specs.declared.classes.Class.{Class}
use Rattle.felica_format.specs.declared.classes.Class.TheVariants.{Plain, Secure, Unknown}
use Rattle.felica_format.specs.declared.constants.Bounds.{Bounds}

-- the selector, a byte in front of a code list: none; the "type 00 or 01" of 28; the "one byte" of 40
pub data Selector : Type 0 where
  no_selector type_byte any_byte : Selector

-- '"n codes" is a count byte and then n two-byte codes', n from the least to the greatest; or there is no such list
infix 20 ◌to◌
pub data Codes : Type 0 where
  no_codes : Codes
  ◌to◌ : ℕ → ℕ → Codes

-- the fixed bytes that end a body
--   bytes n     n bytes, 16 at most
--   word        one two-byte number
--   words       two of them
--   reserved    two 00
--   polling     system code (high byte first), request code, time slots
--   parameter   four 00, encryption type, packet type, two 00
pub data Ending : Type 0 where
  bytes : ℕ → Ending
  word words reserved polling parameter : Ending

-- no fixed bytes
abbrev pub bare : Ending
bare = bytes 0

-- what may stand behind them: nothing; bytes that are ignored; a package, which "is the whole tail, which may be empty"
pub data Behind : Type 0 where
  nothing ignored_bytes a_package : Behind

-- every layout is this one order of parts, each there or not
pub record Layout : Type 0 where
  pub idm : Bool
  pub selector : Selector
  pub first : Codes
  pub second : Codes
  pub elements : Bool
  pub block_data : Bool
  pub ending : Ending
  pub behind : Behind

abbrev pub layout : Bool → Selector → Codes → Codes → Bool → Bool → Ending → Behind → Layout
layout i l f s e d n b = record { idm = i; selector = l; first = f; second = s; elements = e; block_data = d; ending = n; behind = b }

-- The words of a row: `ends e` is a layout of the fixed bytes e alone, and each other word adds one part. The order is
-- the record's.
abbrev pub ends : Ending → Layout
ends e = layout false no_selector no_codes no_codes false false e nothing

infix 15 ◌followed_by◌
abbrev pub ◌followed_by◌ : Layout → Behind → Layout
l followed_by b = layout l.idm l.selector l.first l.second l.elements l.block_data l.ending b

abbrev pub IDm : Layout → Layout
IDm l = layout true l.selector l.first l.second l.elements l.block_data l.ending l.behind

abbrev pub selector : Selector → Layout → Layout
selector byte l = layout l.idm byte l.first l.second l.elements l.block_data l.ending l.behind

abbrev pub codes : Codes → Layout → Layout
codes range l = layout l.idm l.selector range l.second l.elements l.block_data l.ending l.behind

abbrev pub more_codes : Codes → Layout → Layout
more_codes range l = layout l.idm l.selector l.first range l.elements l.block_data l.ending l.behind

-- "m from 1 to 255, m elements"
abbrev pub elements : Layout → Layout
elements l = layout l.idm l.selector l.first l.second true l.block_data l.ending l.behind

-- "16 × m data bytes"
abbrev pub block_data : Layout → Layout
block_data l = layout l.idm l.selector l.first l.second l.elements true l.ending l.behind

infixr 10 ◌then◌
abbrev pub ◌then◌ : (Layout → Layout) → Layout → Layout
part then rest = part rest

pub record Row : Type 0 where
  pub code : ℕ
  pub layout : Layout

infix 5 ◌is◌
abbrev pub ◌is◌ : ℕ → Layout → Row
code is l = record { code = code; layout = l }

-- "Plain, after the code byte"
unfoldable pub plain_rows : List Row
plain_rows =
    (0x00 is ends polling)
    ∷ (0x02 is IDm then codes (1 to 32) then ends bare)
    ∷ (0x04 is IDm then ends bare)
    ∷ (0x06 is IDm then codes (1 to 16) then elements then ends bare)
    ∷ (0x08 is IDm then codes (1 to 16) then elements then block_data then ends bare)
    ∷ (0x0A is IDm then ends word)
    ∷ (0x0C is IDm then ends bare)
    ∷ (0x0E is IDm then codes (1 to 32) then ends bare)
    ∷ (0x10 is IDm then codes (0 to 32) then more_codes (0 to 32) then ends (bytes 8))
    ∷ (0x12 is IDm then ends (bytes 8))
    ∷ (0x1A is IDm then ends words)
    ∷ (0x1E is IDm then codes (1 to 32) then ends bare)
    ∷ (0x20 is IDm then ends parameter)
    ∷ (0x22 is IDm then ends reserved)
    ∷ (0x24 is IDm then ends word)
    ∷ (0x28 is IDm then selector type_byte then codes (1 to 16) then ends bare)
    ∷ (0x2E is ends word)
    ∷ (0x32 is IDm then codes (1 to 32) then ends bare)
    ∷ (0x38 is IDm then ends reserved)
    ∷ (0x3A is IDm then ends bare)
    ∷ (0x3C is IDm then ends reserved)
    ∷ (0x3E is IDm then ends reserved)
    ∷ (0x40 is IDm then selector any_byte then codes (1 to 32) then ends (bytes 16))
    ∷ (0x42 is IDm then ends (bytes 16))
    ∷ (0x70 is ends reserved)
    ∷ []

-- "Secure, the decrypted payload"
unfoldable pub secure_rows : List Row
secure_rows =
    (0x14 is elements then ends bare followed_by ignored_bytes)
    ∷ (0x16 is elements then block_data then ends bare followed_by ignored_bytes)
    ∷ (0x44 is elements then ends bare followed_by ignored_bytes)
    ∷ (0x46 is elements then block_data then ends bare followed_by ignored_bytes)
    ∷ (0x80 is ends (bytes 16) followed_by a_package)
    ∷ (0x82 is ends word followed_by a_package)
    ∷ (0x84 is ends word followed_by a_package)
    ∷ (0x8E is ends bare)
    ∷ []

unfoldable pub has : List Row → ℕ → Bool
has [] code = false
has (row ∷ rows) code = eqb code row.code || has rows code

-- "Every one of the 256 codes has a class: 25 plain, 8 secure, 223 unknown"
unfoldable pub class_of : ℕ → Class
class_of code = cond (has plain_rows code) Plain (cond (has secure_rows code) Secure Unknown)

-- the layout of a code's row; `ends bare` where it has none
unfoldable pub layout_in : List Row → ℕ → Layout
layout_in [] code = ends bare
layout_in (row ∷ rows) code = cond (eqb code row.code) row.layout (layout_in rows code)

unfoldable pub layout_of : ℕ → Layout
layout_of code = cond (has plain_rows code) (layout_in plain_rows code) (layout_in secure_rows code)

-- "The least and greatest count of each plain code": of its code list, "0 and 0 where a layout has none"
abbrev pub bounds_of : Codes → Bounds
bounds_of no_codes = record { least = 0; greatest = 0 }
bounds_of (lo to hi) = record { least = lo; greatest = hi }

-- the bounds of the plain rows by their place, from 0; where there is a second list, it has those of the first (`second_bounds` in proofs/Rows.antt)
unfoldable pub bounds_at : ℕ → Bounds
bounds_at i = bounds_of (get_or plain_rows i (0 is ends bare)).layout.first
