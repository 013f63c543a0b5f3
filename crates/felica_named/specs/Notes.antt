-- The fields are noted one after the other, each behind one space: where the value begins, at the number of the name.
-- Assumes nothing.
use Rattle.std.specs.Prelude.{ℕ, zero, suc, ◌+◌, not, cond, List, length, get_or, set, take, drop, replicate, ltb, leb, eqb, Option, None, Some, is_some, Result, Ok, Err, Bool}
-- std has no name for the code of a character
use Prim.Native.Char.{code}
use Rattle.std.specs.List.{list_all}
use Rattle.std.specs.Char.{is_ascii_graphic}
use Rattle.felica_text.specs.Text.{text, before}
use Rattle.felica_calls.specs.Field.{next_field}
use Rattle.felica_calls.specs.declared.fault.Fault.{Fault}
use Rattle.felica_calls.specs.declared.fault.Fault.TheVariants.{UnknownField, FieldTwice, MalformedValue, ValueTooLong}
use Rattle.felica_named.specs.Names.{names, place_in}
use Rattle.felica_named.specs.Form.{form_of_letter, well_formed, longest}
use Rattle.felica_named.specs.declared.fault.FieldFault.{FieldFault}
use Rattle.felica_named.specs.declared.form.Form.{Form}
use Rattle.felica_named.specs.declared.form.Form.TheVariants.{Challenge}

-- where the values begin, at the numbers of their names
abbrev pub Starts : Type 0
Starts = List (Option ℕ)

-- the fields of a call: their text, and where the values begin in it
pub record Noted : Type 0 where
  pub text : List ℕ
  pub starts : Starts

-- no field is named
abbrev pub no_starts : Starts
no_starts = replicate (length names) None

-- what is wrong with a field, or the starts with that field noted
abbrev pub noted : Result (Unit {0}) Fault → Starts → Result Starts Fault
noted (Ok u) starts = Ok starts
noted (Err fault) starts = Err fault

-- the fields before any is noted
abbrev pub unread : List ℕ → Noted
unread s = record { text = s; starts = no_starts }

-- what is wrong with one of the fields, or the starts with all of them noted
abbrev pub noted_by : Result (Unit {0}) FieldFault → Starts → Result Starts FieldFault
noted_by (Ok u) starts = Ok starts
noted_by (Err wrong) starts = Err wrong

-- a field with the space before it; how long the name is with that space; the form that stands in the table n bytes behind a place
abbrev pub field_at : List ℕ → ℕ → List ℕ
field_at s at = take (1 + length (before (code " ") (drop (at + 1) s))) (drop at s)

abbrev pub name_end : List ℕ → ℕ
name_end field = length (before (code "=") field)

abbrev pub form_of : List ℕ → ℕ → ℕ → Option Form
form_of table place n = form_of_letter (get_or (drop place table) n 0)

-- challenges of 8 and of 16 bytes are two fields
abbrev pub slot_of : Option Form → ℕ → List ℕ → ℕ
slot_of (Some Challenge) place value = cond (eqb (length value) 32) (place + 1) place
slot_of _ place value = place

-- a value of this form, if it is well formed
unfoldable pub note_formed : Form → ℕ → List ℕ → ℕ → Starts → Result Starts Fault
note_formed form slot value start starts =
    cond (not (well_formed form value)) (Err MalformedValue)
    (cond (ltb (longest form) (length value)) (Err ValueTooLong)
    (Ok (set starts slot (Some start))))

unfoldable pub note_value : Option Form → ℕ → List ℕ → ℕ → Starts → Result Starts Fault
note_value form slot value start starts =
    cond (leb (length starts) slot) (Err UnknownField)
    (cond (is_some (get_or starts slot None)) (Err FieldTwice)
    (go form))
  where
    go : Option Form → Result Starts Fault
    go None = Err MalformedValue
    go (Some f) = note_formed f slot value start starts

-- by its place in the table; n is how long the name is with the `=` behind it
unfoldable pub note_placed : List ℕ → List ℕ → ℕ → ℕ → Option ℕ → Starts → Result Starts Fault
note_placed table field at n None starts = Err UnknownField
note_placed table field at n (Some place) starts =
    note_value (form_of table place n) (slot_of (form_of table place n) place (drop n field)) (drop n field) (at + n) starts

unfoldable pub note : List ℕ → List ℕ → ℕ → Starts → Result Starts Fault
note table field at starts =
    cond (leb (length field) (name_end field)) (Err UnknownField)
    (note_placed table field at (name_end field + 1) (place_in (take (name_end field + 1) field) table) starts)

-- on with the field at this place noted, or what is wrong with it
abbrev pub noted_at : ℕ → Result Starts Fault → (Starts → Result Starts FieldFault) → Result Starts FieldFault
noted_at at (Ok starts) more = more starts
noted_at at (Err fault) more = Err (record { fault = fault; at = at })

-- the fields from a place on; there are no more of them than turns
unfoldable pub note_from : ℕ → List ℕ → List ℕ → ℕ → Starts → Result Starts FieldFault
note_from zero table s at starts = Ok starts
note_from (suc turns) table s at starts =
    cond (leb (length s) at) (Ok starts)
    (noted_at at (note table (field_at s at) at starts) (note_from turns table s (at + length (field_at s at))))

abbrev pub starts_noted : List ℕ → Result Starts FieldFault
starts_noted s = note_from (length s) names s 0 no_starts

-- what is wrong with them, or the fields noted
abbrev pub noted_of : List ℕ → Result Starts FieldFault → Result Noted FieldFault
noted_of s (Ok starts) = Ok (record { text = s; starts = starts })
noted_of s (Err wrong) = Err wrong

abbrev pub fields_noted : List ℕ → Result Noted FieldFault
fields_noted s = noted_of s (starts_noted s)

-- whether it has visible characters of ASCII alone
unfoldable pub is_tellable : List ℕ → Bool
is_tellable s = list_all is_ascii_graphic s

-- A name as it is told: `-` for an empty one, and `?` for one with other bytes, which could pass for another answer.
abbrev pub told_name : List ℕ → List ℕ
told_name name = cond (eqb (length name) 0) (text "-") (cond (is_tellable name) name (text "?"))

-- the name of the field at a place: what stands between its space and its `=`, or its end, and of that no more than the 15 bytes of the longest name
abbrev pub name_at : List ℕ → ℕ → List ℕ
name_at s at = told_name (take 15 (before (code "=") (next_field (drop at s))))
