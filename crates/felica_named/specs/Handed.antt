-- What the writer is handed, by the command code and the fields named.
-- Assumes nothing.
use Rattle.std.specs.Prelude.{ℕ, Bool, false, not, ◌&&◌, cond, List, [], ◌∷◌, ◌++◌, take, drop, eqb, Option, None, Some}
use Rattle.std.specs.List.{list_any, enumerate_from}
use Rattle.felica_format.specs.Basic.{zeros}
use Rattle.felica_format.specs.Command.{Command}
use Rattle.felica_command.specs.Handed.{handed}
use Rattle.felica_command.specs.declared.fixed.Fixed.{Fixed}
use Rattle.felica_put.specs.Put.{BufferOf, buffer, put}
use Rattle.felica_calls.specs.Bytes.{bytes_of}
use Rattle.felica_named.specs.Fields.{place}
use Rattle.felica_named.specs.Notes.{Noted}
use Rattle.felica_named.specs.Values.{value_at, value_named, words_in, small_in, bytes_over, byte_in, word_in, all_zero}
use Rattle.felica_named.specs.declared.stray.Sources.{Sources}
use Rattle.felica_named.specs.declared.names.Field.{Field}
use Rattle.felica_named.specs.declared.names.Field.TheVariants.{Idm, First, Second, Numbers, Places, Modes, Data, Package, System, Request, Slots, Parent}
use Rattle.felica_named.specs.declared.names.Field.TheVariants.{Index, Node, Property, PropertyType, Operation, Encryption, Packet, Challenge, LongChallenge, IssueId, IssueParameter}

-- Which field each fixed field of the writer is read from, if any.
unfoldable pub selector_from : ℕ → Option Field
selector_from code = cond (eqb code 0x28) (Some PropertyType) (cond (eqb code 0x40) (Some Operation) None)

unfoldable pub number_from : ℕ → Option Field
number_from code =
    cond (eqb code 0x00) (Some System)
    (cond (eqb code 0x0A) (Some Index)
    (cond (eqb code 0x1A) (Some Parent)
    (cond (eqb code 0x24) (Some Node)
    (cond (eqb code 0x2E) (Some Property)
    (cond (eqb code 0x82) (Some Node)
    (cond (eqb code 0x84) (Some Node)
    None))))))

unfoldable pub index_from : ℕ → Option Field
index_from code = cond (eqb code 0x1A) (Some Index) None

unfoldable pub option_from : ℕ → Option Field
option_from code = cond (eqb code 0x00) (Some Request) (cond (eqb code 0x20) (Some Encryption) None)

unfoldable pub choice_from : ℕ → Option Field
choice_from code = cond (eqb code 0x00) (Some Slots) (cond (eqb code 0x20) (Some Packet) None)

unfoldable pub challenge_from : ℕ → Option Field
challenge_from code =
    cond (eqb code 0x10) (Some Challenge)
    (cond (eqb code 0x12) (Some Challenge)
    (cond (eqb code 0x40) (Some LongChallenge)
    (cond (eqb code 0x42) (Some LongChallenge)
    (cond (eqb code 0x80) (Some IssueId)
    None))))

unfoldable pub parameter_from : ℕ → Option Field
parameter_from code = cond (eqb code 0x80) (Some IssueParameter) None

-- the fields that a command's fixed fields are read from
abbrev pub sources_of : ℕ → Sources
sources_of code =
    record {
      selector = selector_from code;
      number = number_from code;
      index = index_from code;
      option = option_from code;
      choice = choice_from code;
      challenge = challenge_from code;
      parameter = parameter_from code;
    }

-- those of a command that has a number or a challenge alone
abbrev pub only_number : Field → Sources
only_number field =
    record { selector = None; number = Some field; index = None; option = None; choice = None; challenge = None; parameter = None }

abbrev pub only_challenge : Field → Sources
only_challenge field =
    record { selector = None; number = None; index = None; option = None; choice = None; challenge = Some field; parameter = None }

-- whether this is the field with the number k
abbrev pub is_at : ℕ → Option Field → Bool
is_at k None = false
is_at k (Some field) = eqb (place field) k

-- whether the field with the number k is one of the seven
abbrev pub takes : Sources → ℕ → Bool
takes from k =
    list_any (is_at k)
    (from.selector ∷ from.number ∷ from.index ∷ from.option ∷ from.choice ∷ from.challenge ∷ from.parameter ∷ [])

-- whether the command lacks it, and its value is other than zero
abbrev pub strays : Sources → ℕ → List ℕ → Bool
strays from k value = not (all_zero value) && not (takes from k)

-- Whether a field does: `system` and all behind it in the table; idm, lists, data and package are handed in as they are.
abbrev pub stray_of : Sources → Noted → Bool
stray_of from noted = list_any (λ p. strays from p.0 (value_at noted.text p.1)) (drop (place System) (enumerate_from 0 noted.starts))

-- A number that the command lacks is handed as 0, or as 1 for the writer to refuse where a field was named that the command lacks.
abbrev pub or_stray : Option Field → (Field → ℕ) → Bool → ℕ
or_stray None value stray = cond stray 1 0
or_stray (Some field) value stray = value field

abbrev pub byte_handed : Noted → Bool → Option Field → ℕ
byte_handed noted stray field = or_stray field (λ f. byte_in (value_named noted f)) stray

abbrev pub word_handed : Noted → Bool → Option Field → ℕ
word_handed noted stray field = or_stray field (λ f. word_in (value_named noted f)) stray

-- the buffer with the bytes of a field at its front, if there is one
abbrev pub filled : Noted → Option Field → List ℕ → List ℕ
filled noted None held = held
filled noted (Some field) held = bytes_over held (value_named noted field)

-- 16 bytes: of 80 the issue parameter behind the issue id
abbrev pub challenge_handed : Sources → Noted → List ℕ
challenge_handed from noted = filled noted from.challenge (zeros 8 ++ filled noted from.parameter (zeros 8))

abbrev pub fixed_with : Sources → Noted → Bool → Fixed
fixed_with from noted stray =
    record {
      idm = bytes_over (zeros 8) (value_named noted Idm);
      selector = byte_handed noted stray from.selector;
      number = word_handed noted stray from.number;
      index = word_handed noted stray from.index;
      option = byte_handed noted stray from.option;
      choice = byte_handed noted stray from.choice;
      challenge = challenge_handed from noted;
    }

unfoldable pub fixed_named : ℕ → Noted → Fixed
fixed_named code noted = fixed_with (sources_of code) noted (stray_of (sources_of code) noted)

-- what stands at the front of a buffer when a list was put there
abbrev pub front_of : {A : Type 0} → BufferOf A → List A
front_of b = take b.next b.bytes

abbrev pub front_with : {A : Type 0} → List A → List A → List A
front_with held list = front_of (put (buffer held 0) list)

-- the command whose lists, data and package are written to these buffers
unfoldable pub command_over : ℕ → Noted → List ℕ → List ℕ → List ℕ → List ℕ → List ℕ → List ℕ → List ℕ → Command
command_over code noted first second numbers places modes block_data issue_package =
    handed code (fixed_named code noted)
    (front_with first (words_in (value_named noted First)))
    (front_with second (words_in (value_named noted Second)))
    (front_with numbers (words_in (value_named noted Numbers)))
    (front_with places (small_in (value_named noted Places)))
    (front_with modes (small_in (value_named noted Modes)))
    (front_with block_data (bytes_of (value_named noted Data)))
    (front_with issue_package (bytes_of (value_named noted Package)))

-- The same with buffers of the lengths that the program lends: 5,119 characters hold 1,024 words or 2,560 numbers, 32,768 digits 16,384 bytes.
abbrev pub command_named : ℕ → Noted → Command
command_named code noted =
    command_over code noted (zeros 1024) (zeros 1024) (zeros 1024) (zeros 2560) (zeros 2560) (zeros 16384) (zeros 16384)
