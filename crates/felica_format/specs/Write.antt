-- Writing: "A choice of forms writes the command by its layout, each block number below 256 short or long, every other long."
-- Assumes nothing.
use Rattle.std.specs.Prelude.{ℕ, suc, ◌+◌, ◌*◌, ◌/◌, ◌%◌, Bool, true, false, not, cond, List, [], ◌∷◌, ◌++◌, length, take, ltb}
use Rattle.felica_format.specs.Basic.{◌and◌, word_bytes, zeros}
use Rattle.felica_format.specs.Command.{EndFields, Command, Element, elements_of, end_fields_of}
use Rattle.felica_format.specs.Layout.{Selector, no_selector, type_byte, any_byte, Codes, no_codes, ◌to◌, Ending, bytes, word, words, reserved}
use Rattle.felica_format.specs.Layout.{polling, parameter, Behind, nothing, ignored_bytes, a_package, Layout, layout_of}

-- Of each element whether it is to be long; past the end of the list all are short. So [] is the all-short choice.
abbrev pub Forms : Type 0
Forms = List Bool

-- each part as its layout has it, and nothing where the layout lacks it
unfoldable pub idm_bytes : Bool → List ℕ → List ℕ
idm_bytes false idm = []
idm_bytes true idm = idm

unfoldable pub selector_bytes : Selector → ℕ → List ℕ
selector_bytes no_selector b = []
selector_bytes type_byte b = b ∷ []
selector_bytes any_byte b = b ∷ []

-- '"n codes" is a count byte and then n two-byte codes.'
unfoldable pub words_bytes : List ℕ → List ℕ
words_bytes [] = []
words_bytes (n ∷ ns) = word_bytes n ++ words_bytes ns

unfoldable pub codes_bytes : Codes → List ℕ → List ℕ
codes_bytes no_codes ns = []
codes_bytes (least to greatest) ns = length ns ∷ words_bytes ns

-- "An element's first byte holds bits 6 to 4 the access mode, bits 3 to 0 the place in the service list"
abbrev pub head_of : Element → ℕ
head_of e = 16 * e.mode + e.place

-- "Bit 7 set: one byte of block number follows. Bit 7 clear: two bytes."
unfoldable pub short_bytes : Element → List ℕ
short_bytes e = (128 + head_of e) ∷ e.number ∷ []

unfoldable pub long_bytes : Element → List ℕ
long_bytes e = head_of e ∷ word_bytes e.number

-- "each block number below 256 short or long, every other long"
abbrev pub is_short : Bool → Element → Bool
is_short long e = not long and ltb e.number 256

unfoldable pub element_bytes : Bool → Element → List ℕ
element_bytes long e = cond (is_short long e) (short_bytes e) (long_bytes e)

unfoldable pub each_bytes : Forms → List Element → List ℕ
each_bytes forms [] = []
each_bytes [] (e ∷ es) = element_bytes false e ++ each_bytes [] es
each_bytes (long ∷ forms) (e ∷ es) = element_bytes long e ++ each_bytes forms es

-- how many elements a choice makes long, those numbered from 256 up among them
unfoldable pub long_in : Forms → List Element → ℕ
long_in forms [] = 0
long_in [] (e ∷ es) = cond (is_short false e) 0 1 + long_in [] es
long_in (long ∷ forms) (e ∷ es) = cond (is_short long e) 0 1 + long_in forms es

-- the count m and m elements
unfoldable pub elements_bytes : Bool → Forms → List Element → List ℕ
elements_bytes false forms es = []
elements_bytes true forms es = length es ∷ each_bytes forms es

unfoldable pub data_bytes : Bool → List ℕ → List ℕ
data_bytes false bs = []
data_bytes true bs = bs

-- low byte first, "Polling's system code alone the high byte first"; reserved bytes are 00
unfoldable pub ending_bytes : Ending → EndFields → List ℕ
ending_bytes (bytes n) f = take n f.challenge
ending_bytes word f = word_bytes f.number
ending_bytes words f = word_bytes f.number ++ word_bytes f.index
ending_bytes reserved f = zeros 2
ending_bytes polling f = f.number / 256 ∷ f.number % 256 ∷ f.option ∷ f.choice ∷ []
ending_bytes parameter f = zeros 4 ++ (f.option ∷ f.choice ∷ zeros 2)

-- "A package is the whole tail"; the choice itself has no ignored bytes
unfoldable pub package_bytes : Behind → List ℕ → List ℕ
package_bytes nothing bs = []
package_bytes ignored_bytes bs = []
package_bytes a_package bs = bs

unfoldable pub body_bytes : Layout → Forms → Command → List ℕ
body_bytes l forms c =
    idm_bytes l.idm c.idm
    ++ (selector_bytes l.selector c.selector
    ++ (codes_bytes l.first c.first
    ++ (codes_bytes l.second c.second
    ++ (elements_bytes l.elements forms (elements_of c)
    ++ (data_bytes l.block_data c.block_data
    ++ (ending_bytes l.ending (end_fields_of c)
    ++ package_bytes l.behind c.issue_package))))))

-- "A plain choice begins with the frame's size as length byte and the code byte"
unfoldable pub frame_of : Forms → Command → List ℕ
frame_of forms c = suc (suc (length (body_bytes (layout_of c.code) forms c))) ∷ c.code ∷ body_bytes (layout_of c.code) forms c

-- "a secure one has neither"
unfoldable pub secure_of : Forms → Command → List ℕ
secure_of forms c = body_bytes (layout_of c.code) forms c
