-- A secure code with its payload, by the class of the code.
-- Assumes nothing.
use Rattle.std.proofs.Common.{◌≡◌, ℕ, List, Err, Some, Result, refl}
use Rattle.felica_format.specs.declared.error.Reason.{Reason}
use Rattle.felica_format.specs.declared.error.Reason.TheVariants.{UnknownCode}
use Rattle.felica_format.specs.declared.classes.Class.{Class}
use Rattle.felica_format.specs.declared.classes.Class.TheVariants.{Plain, Secure, Unknown}
use Rattle.felica_format.specs.Layout.{class_of}
use Rattle.felica_format.specs.Read.{refused, read_secure, read_secure_as}
use Rattle.felica_command.specs.Places.{Account}
use Rattle.felica_command.specs.declared.command.Parsed.{Parsed}
use Rattle.felica_cursor.specs.Taken.{rest}
use Rattle.felica_cursor.specs.Body.{BodyRead, result_of}
use Rattle.felica_cursor.specs.declared.cursor.Cursor.{Cursor}

-- what is promised of the body of a secure code
pub secure_read : (start : Cursor) (code : ℕ) (r : Result Parsed Reason) → class_of code ≡ Secure → BodyRead start code r
    → Account start.payload.now start.at (read_secure code (rest start)) (result_of code r)
unfolding read_secure
secure_read start code r secure body = rw secure body

-- any other code is unknown there
refused_unless_secure : (k : Class) (code : ℕ) (s : List ℕ) → (k ≡ Secure → ⊥) → read_secure_as k code s ≡ refused 5 (Some code)
refused_unless_secure Plain code s h = refl
refused_unless_secure Secure code s h = absurd (h refl)
refused_unless_secure Unknown code s h = refl

pub secure_refused : (start : Cursor) (code : ℕ) → (class_of code ≡ Secure → ⊥)
    → Account start.payload.now start.at (read_secure code (rest start)) (result_of code (Err UnknownCode))
unfolding read_secure
secure_refused start code other = rw (refused_unless_secure (class_of code) code (rest start) other) (refl, refl, tt)
