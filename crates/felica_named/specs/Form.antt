-- Which values are well formed, by the form that stands behind the name.
-- Assumes nothing.
use Rattle.std.specs.Prelude.{ℕ, ◌*◌, ◌%◌, Bool, true, false, ◌&&◌, cond, List, length, leb, eqb, Option, None, Some}
use Rattle.std.specs.List.{list_all, slice_split}
-- std has no name for the code of a character
use Prim.Native.Char.{code}
use Rattle.felica_calls.specs.Field.{is_byte}
use Rattle.felica_calls.specs.Bytes.{all_digits}
use Rattle.felica_named.specs.declared.form.Form.{Form}
use Rattle.felica_named.specs.declared.form.Form.TheVariants.{Bytes, Challenge, Words, Numbers, AnyBytes}

-- so many hexadecimal digits
abbrev pub has_digits : ℕ → List ℕ → Bool
has_digits n s = cond (eqb (length s) n) (all_digits s) false

-- 8 bytes or 16
abbrev pub challenge_form : List ℕ → Bool
challenge_form s = cond (has_digits 16 s) true (has_digits 32 s)

-- pairs of digits, or `-` for none
abbrev pub is_bytes : List ℕ → Bool
is_bytes s = cond (is_byte (code "-") s) true (cond (eqb (length s) 0) false (cond (eqb (length s % 2) 1) false (all_digits s)))

-- `least` to `most` digits
abbrev pub entry_well : ℕ → ℕ → List ℕ → Bool
entry_well least most s = leb least (length s) && leb (length s) most && all_digits s

-- such entries, parted by commas
abbrev pub entries : ℕ → ℕ → List ℕ → Bool
entries least most s = list_all (entry_well least most) (slice_split (λ d. eqb d (code ",")) s)

-- such entries, or `-` for none
abbrev pub is_list : ℕ → ℕ → List ℕ → Bool
is_list least most s = cond (is_byte (code "-") s) true (entries least most s)

-- the form that a letter or digit stands for
unfoldable pub form_of_letter : ℕ → Option Form
form_of_letter letter =
    cond (eqb letter (code "1")) (Some (Bytes 1))
    (cond (eqb letter (code "2")) (Some (Bytes 2))
    (cond (eqb letter (code "8")) (Some (Bytes 8))
    (cond (eqb letter (code "C")) (Some Challenge)
    (cond (eqb letter (code "W")) (Some Words)
    (cond (eqb letter (code "N")) (Some Numbers)
    (cond (eqb letter (code "B")) (Some AnyBytes)
    None))))))

unfoldable pub well_formed : Form → List ℕ → Bool
well_formed (Bytes n) s = has_digits (2 * n) s
well_formed Challenge s = challenge_form s
well_formed Words s = is_list 4 4 s
well_formed Numbers s = is_list 1 2 s
well_formed AnyBytes s = is_bytes s

-- the length of the longest value: 16384 bytes, or 1024 words with the commas between them
abbrev pub longest : Form → ℕ
longest AnyBytes = 32768
longest (Bytes n) = 5119
longest Challenge = 5119
longest Words = 5119
longest Numbers = 5119
