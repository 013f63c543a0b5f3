-- What the writer writes, by a test on the command, part by part: each value has the range of its part, and a part that the layout lacks is zero or empty.
-- This need not be believed: the statements of Demand3.antt on `written` say what it is, in terms of reading and of `frame_of` and `secure_of`.
-- Assumes nothing.
use Rattle.std.specs.Prelude.{ℕ, ◌*◌, ◌-◌, Bool, true, false, cond, List, [], ◌∷◌, length, drop, ltb, leb, eqb}
use Rattle.std.specs.Prelude.{Option, None, Some}
use Rattle.felica_format.specs.declared.classes.Class.{Class}
use Rattle.felica_format.specs.declared.classes.Class.TheVariants.{Plain, Secure, Unknown}
use Rattle.felica_format.specs.Basic.{◌and◌, zeros, all_below}
use Rattle.felica_format.specs.Command.{EndFields, Command, Element, elements_of, end_fields_of}
use Rattle.felica_format.specs.Layout.{Selector, no_selector, type_byte, any_byte, Codes, no_codes, ◌to◌, Ending, bytes, word, words, reserved}
use Rattle.felica_format.specs.Layout.{polling, parameter, Behind, nothing, ignored_bytes, a_package, Layout, class_of, layout_of}
use Rattle.felica_format.specs.Read.{is_time_slots}
use Rattle.felica_format.specs.Write.{frame_of, secure_of}

abbrev pub same_list : List ℕ → List ℕ → Bool
same_list [] [] = true
same_list [] (y ∷ ys) = false
same_list (x ∷ xs) [] = false
same_list (x ∷ xs) (y ∷ ys) = eqb x y and same_list xs ys

abbrev pub is_empty : {A : Type 0} → List A → Bool
is_empty [] = true
is_empty (x ∷ xs) = false

-- n bytes
abbrev pub are_bytes : ℕ → List ℕ → Bool
are_bytes n bs = eqb (length bs) n and all_below 256 bs

unfoldable pub idm_ok : Bool → List ℕ → Bool
idm_ok false idm = same_list idm (zeros 8)
idm_ok true idm = are_bytes 8 idm

abbrev pub is_zero : ℕ → Bool
is_zero x = eqb x 0

-- "type 00 or 01"
abbrev pub is_type : ℕ → Bool
is_type x = leb x 1

unfoldable pub selector_ok : Selector → ℕ → Bool
selector_ok no_selector b = is_zero b
selector_ok type_byte b = is_type b
selector_ok any_byte b = ltb b 256

unfoldable pub codes_ok : Codes → List ℕ → Bool
codes_ok no_codes ns = is_empty ns
codes_ok (least to greatest) ns = leb least (length ns) and leb (length ns) greatest and all_below 65536 ns

-- the three lists of a block list are of one length
unfoldable pub same_length : List ℕ → List ℕ → List ℕ → Bool
same_length numbers places modes = eqb (length places) (length numbers) and eqb (length modes) (length numbers)

abbrev pub one_length : Command → Bool
one_length c = same_length c.numbers c.places c.modes

abbrev pub element_ok : Element → Bool
element_ok e = ltb e.number 65536 and ltb e.place 16 and ltb e.mode 8

unfoldable pub each_ok : List Element → Bool
each_ok [] = true
each_ok (e ∷ es) = element_ok e and each_ok es

unfoldable pub elements_ok : Bool → List Element → Bool
elements_ok false es = is_empty es
elements_ok true es = leb 1 (length es) and leb (length es) 255 and each_ok es

unfoldable pub data_ok : Bool → ℕ → List ℕ → Bool
data_ok false m bs = is_empty bs
data_ok true m bs = are_bytes (16 * m) bs

-- The ranges of the fixed fields: number, index and option below a bound, choice one that passes a test, and a challenge
-- whose bytes behind the first `filled` are 00.
pub record Ranges : Type 0 where
  pub numbers : ℕ
  pub indices : ℕ
  pub options : ℕ
  pub choices : ℕ → Bool
  pub filled : ℕ

abbrev pub ranges : ℕ → ℕ → ℕ → (ℕ → Bool) → ℕ → Ranges
ranges n i o c b = record { numbers = n; indices = i; options = o; choices = c; filled = b }

-- a field that the layout lacks is 0: below 1, or `is_zero`
abbrev pub ranges_of : Ending → Ranges
ranges_of (bytes n) = ranges 1 1 1 is_zero n
ranges_of word = ranges 65536 1 1 is_zero 0
ranges_of words = ranges 65536 65536 1 is_zero 0
ranges_of reserved = ranges 1 1 1 is_zero 0
ranges_of polling = ranges 65536 1 3 is_time_slots 0
ranges_of parameter = ranges 1 1 2 is_type 0

unfoldable pub end_fields_ok : Ranges → EndFields → Bool
end_fields_ok r f =
    ltb f.number r.numbers
    and ltb f.index r.indices
    and ltb f.option r.options
    and r.choices f.choice
    and are_bytes 16 f.challenge
    and same_list (drop r.filled f.challenge) (zeros (16 - r.filled))

unfoldable pub package_ok : Behind → List ℕ → Bool
package_ok nothing bs = is_empty bs
package_ok ignored_bytes bs = is_empty bs
package_ok a_package bs = all_below 256 bs

unfoldable pub body_ok : Layout → Command → Bool
body_ok l c =
    idm_ok l.idm c.idm
    and selector_ok l.selector c.selector
    and codes_ok l.first c.first
    and codes_ok l.second c.second
    and one_length c
    and elements_ok l.elements (elements_of c)
    and data_ok l.block_data (length (elements_of c)) c.block_data
    and end_fields_ok (ranges_of l.ending) (end_fields_of c)
    and package_ok l.behind c.issue_package

-- a plain command must also fit a frame of 255 bytes
abbrev pub fits_class : Class → Command → Bool
fits_class Plain c = leb (length (frame_of [] c)) 255
fits_class Secure c = true
fits_class Unknown c = false

unfoldable pub writable : Command → Bool
writable c = body_ok (layout_of c.code) c and fits_class (class_of c.code) c

-- "The writer makes a frame of a plain command and a payload of a secure one"
abbrev pub shortest : Class → Command → List ℕ
shortest Plain c = frame_of [] c
shortest Secure c = secure_of [] c
shortest Unknown c = []

-- what the writer writes; none where the command is unwritable
unfoldable pub written : Command → Option (List ℕ)
written c = cond (writable c) (Some (shortest (class_of c.code) c)) None
