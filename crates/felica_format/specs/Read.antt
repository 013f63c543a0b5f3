-- Reading: each part of a layout is one step, which takes its bytes off the front or refuses on a ground of document 01's table.
-- A part that the layout lacks takes nothing and gives zero or empty. "Checks follow field order, count before list".
-- Assumes nothing.
use Rattle.std.specs.Prelude.{ℕ, zero, suc, ◌+◌, ◌-◌, ◌*◌, ◌/◌, ◌%◌, Bool, true, false, not, ◌||◌, cond, List, [], ◌∷◌, ◌++◌, map, length, get_or, take, drop, ltb, eqb}
use Rattle.std.specs.Prelude.{Option, None, Some}
use Rattle.std.specs.Int.Bits.{bit_and}
use Rattle.felica_format.specs.declared.classes.Class.{Class}
use Rattle.felica_format.specs.declared.classes.Class.TheVariants.{Plain, Secure, Unknown}
use Rattle.felica_format.specs.Basic.{◌and◌, zeros, word_of, word_at, Step, taken, refuse, bind, refuse_if}
use Rattle.felica_format.specs.Command.{EndFields, end_fields, Command, Element, Formed, long_count, command_of}
use Rattle.felica_format.specs.Layout.{Selector, no_selector, type_byte, any_byte, Codes, no_codes, ◌to◌, Ending, bytes, word, words, reserved}
use Rattle.felica_format.specs.Layout.{polling, parameter, Behind, nothing, ignored_bytes, a_package, Layout, class_of, layout_of}

-- n bytes, or the ground where they are not whole
abbrev pub read_bytes : ℕ → ℕ → List ℕ → Step (List ℕ)
read_bytes n number s = refuse_if (ltb (length s) n) number (taken (take n s) (drop n s))

-- 6: IDm missing
unfoldable pub read_idm : Bool → List ℕ → Step (List ℕ)
read_idm false s = taken (zeros 8) s
read_idm true s = read_bytes 8 6 s

-- 7: operation or type byte missing; 19: property type undefined
unfoldable pub read_selector : Selector → List ℕ → Step ℕ
read_selector no_selector s = taken 0 s
read_selector type_byte [] = refuse 7
read_selector type_byte (b ∷ s) = refuse_if (ltb 1 b) 19 (taken b s)
read_selector any_byte [] = refuse 7
read_selector any_byte (b ∷ s) = taken b s

-- a count byte; 9 or 11: missing; 10 or 12: outside its range
unfoldable pub read_count : ℕ → ℕ → ℕ → ℕ → List ℕ → Step ℕ
read_count missing outside least greatest [] = refuse missing
read_count missing outside least greatest (n ∷ s) = refuse_if (ltb n least || ltb greatest n) outside (taken n s)

-- n two-byte codes; 13: code list cut off
unfoldable pub words_of : ℕ → List ℕ → List ℕ
words_of zero s = []
words_of (suc n) s = word_at s 0 ∷ words_of n (drop 2 s)

unfoldable pub read_words : ℕ → List ℕ → Step (List ℕ)
read_words n s = refuse_if (ltb (length s) (2 * n)) 13 (taken (words_of n s) (drop (2 * n) s))

unfoldable pub read_codes : ℕ → ℕ → Codes → List ℕ → Step (List ℕ)
read_codes missing outside no_codes s = taken [] s
read_codes missing outside (least to greatest) s = bind (read_count missing outside least greatest s) read_words

-- "An element's first byte holds bits 6 to 4 the access mode, bits 3 to 0 the place in the service list"
abbrev pub element_of : ℕ → ℕ → Element
element_of head number = record { number = number; place = head % 16; mode = head / 16 % 8 }

-- "The reading of one element shall also tell which form it had."
abbrev pub formed : Bool → Element → Formed
formed long e = record { element = e; long = long }

-- 15: short block number missing
unfoldable pub read_short : ℕ → List ℕ → Step Formed
read_short head [] = refuse 15
read_short head (a ∷ s) = taken (formed false (element_of head a)) s

-- 16: long block number not whole
unfoldable pub read_long : ℕ → List ℕ → Step Formed
read_long head [] = refuse 16
read_long head (a ∷ []) = refuse 16
read_long head (a ∷ b ∷ s) = taken (formed true (element_of head (word_of a b))) s

-- "Bit 7 set: one byte of block number follows. Bit 7 clear: two bytes." 14: element's first byte missing
unfoldable pub read_element : List ℕ → Step Formed
read_element [] = refuse 14
read_element (head ∷ s) = cond (ltb head 128) (read_long head s) (read_short head s)

unfoldable pub read_each : ℕ → List ℕ → Step (List Formed)
read_each zero s = taken [] s
read_each (suc n) s = bind (read_element s) λ e r. bind (read_each n r) λ es t. taken (e ∷ es) t

-- "m from 1 to 255, m elements"
unfoldable pub read_elements : ℕ → ℕ → Bool → List ℕ → Step (List Formed)
read_elements missing outside false s = taken [] s
read_elements missing outside true s = bind (read_count missing outside 1 255 s) read_each

-- "16 × m data bytes"; 17: data cut off
unfoldable pub read_data : Bool → ℕ → List ℕ → Step (List ℕ)
read_data false m s = taken [] s
read_data true m s = read_bytes (16 * m) 17 s

-- how many bytes an ending has
abbrev pub size_of : Ending → ℕ
size_of (bytes n) = n
size_of word = 2
size_of words = 4
size_of reserved = 2
size_of polling = 4
size_of parameter = 8

-- The time slots of Polling: "a value below 16 that shares no set bit with its successor". Slots.antt says which values these are.
unfoldable pub is_time_slots : ℕ → Bool
is_time_slots x = ltb x 16 and eqb (bit_and x (x + 1)) 0

-- the n bytes at a place are 00
abbrev pub zero_at : ℕ → List ℕ → ℕ → Bool
zero_at zero s at = true
zero_at (suc n) s at = eqb (get_or s at 0) 0 and zero_at n s (suc at)

-- The values of the fixed bytes. 18: reserved byte not 00; 19: request code or encryption type undefined; 20: time slots or packet type undefined.
-- "Set Parameter tests size, then D0 to D3, then D6 and D7, then encryption type, then packet type."
unfoldable pub read_values : Ending → List ℕ → Step EndFields
read_values (bytes n) s = taken (end_fields 0 0 0 0 (take n s ++ zeros (16 - n))) (drop n s)
read_values word s = taken (end_fields (word_at s 0) 0 0 0 (zeros 16)) (drop 2 s)
read_values words s = taken (end_fields (word_at s 0) (word_at s 2) 0 0 (zeros 16)) (drop 4 s)
read_values reserved s =
    refuse_if (not (zero_at 2 s 0)) 18
    (taken (end_fields 0 0 0 0 (zeros 16)) (drop 2 s))
read_values polling s =
    refuse_if (ltb 2 (get_or s 2 0)) 19
    (refuse_if (not (is_time_slots (get_or s 3 0))) 20
    (taken (end_fields (word_of (get_or s 1 0) (get_or s 0 0)) 0 (get_or s 2 0) (get_or s 3 0) (zeros 16)) (drop 4 s)))
read_values parameter s =
    refuse_if (not (zero_at 4 s 0)) 18
    (refuse_if (not (zero_at 2 s 6)) 18
    (refuse_if (ltb 1 (get_or s 4 0)) 19
    (refuse_if (ltb 1 (get_or s 5 0)) 20
    (taken (end_fields 0 0 (get_or s 4 0) (get_or s 5 0) (zeros 16)) (drop 8 s)))))

-- "Plain layouts end where the bytes end." So does 8E's.
abbrev pub too_long : Behind → ℕ → ℕ → Bool
too_long nothing size n = ltb size n
too_long ignored_bytes size n = false
too_long a_package size n = false

-- 7: too short, challenge missing; 8: bytes past the layout, 8E not empty.
-- "the fixed bytes that end a layout are measured first, 7 before 8, and only then are their values tested"
unfoldable pub read_ending : Ending → Behind → List ℕ → Step EndFields
read_ending e b s = refuse_if (ltb (length s) (size_of e)) 7 (refuse_if (too_long b (size_of e) (length s)) 8 (read_values e s))

-- "A package is the whole tail, which may be empty."
unfoldable pub read_package : Behind → List ℕ → Step (List ℕ)
read_package nothing s = taken [] s
read_package ignored_bytes s = taken [] s
read_package a_package s = taken s []

-- '"First" and "second" count in field order; a secure block count is a first.'
abbrev pub if_codes : Codes → ℕ → ℕ → ℕ
if_codes no_codes second first = first
if_codes (least to greatest) second first = second

-- a command as it was read: "Everything above it passes on how many were long."
pub record Counted : Type 0 where
  pub command : Command
  pub long : ℕ

abbrev pub counted : Command → ℕ → Counted
counted c long = record { command = c; long = long }

-- a body: the command, how many of its elements were long, and the bytes behind it that are ignored
unfoldable pub read_body : ℕ → Layout → List ℕ → Step Counted
read_body code l s =
    bind (read_idm l.idm s) λ idm s₁.
    bind (read_selector l.selector s₁) λ selector s₂.
    bind (read_codes 9 10 l.first s₂) λ first s₃.
    bind (read_codes 11 12 l.second s₃) λ second s₄.
    bind (read_elements (if_codes l.first 11 9) (if_codes l.first 12 10) l.elements s₄) λ blocks s₅.
    bind (read_data l.block_data (length blocks) s₅) λ block_data s₆.
    bind (read_ending l.ending l.behind s₆) λ values s₇.
    bind (read_package l.behind s₇) λ issue_package s₈.
    taken (counted (command_of code idm selector first second (map (λ b. b.element) blocks) block_data values issue_package) (long_count blocks)) s₈

-- What a frame or a payload gives: its command, and how many of the elements were long. "A refusal gives its number and, from 4 up, the command code"
pub data Answer : Type 0 where
  gives : Command → ℕ → Answer
  refused : ℕ → Option ℕ → Answer

abbrev pub answer_of : ℕ → Step Counted → Answer
answer_of code (taken r rest) = gives r.command r.long
answer_of code (refuse n) = refused n (Some code)

-- 4: secure code in a plain frame; 5: code unknown here
abbrev pub read_plain_as : Class → ℕ → List ℕ → Answer
read_plain_as Plain code s = answer_of code (read_body code (layout_of code) s)
read_plain_as Secure code s = refused 4 (Some code)
read_plain_as Unknown code s = refused 5 (Some code)

-- "A plain code there is unsupported."
abbrev pub read_secure_as : Class → ℕ → List ℕ → Answer
read_secure_as Plain code s = refused 5 (Some code)
read_secure_as Secure code s = answer_of code (read_body code (layout_of code) s)
read_secure_as Unknown code s = refused 5 (Some code)

-- the code byte and the body; 3: payload empty
unfoldable pub read_payload : List ℕ → Answer
read_payload [] = refused 3 None
read_payload (code ∷ body) = read_plain_as (class_of code) code body

-- the length byte, which counts itself, and the payload; 1: empty frame; 2: length byte is not the frame's size
unfoldable pub read_frame : List ℕ → Answer
read_frame [] = refused 1 None
read_frame (n ∷ payload) = cond (eqb n (suc (length payload))) (read_payload payload) (refused 2 None)

-- the decrypted payload of a secure code
unfoldable pub read_secure : ℕ → List ℕ → Answer
read_secure code s = read_secure_as (class_of code) code s
