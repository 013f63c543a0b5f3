-- A payload, by its code.
-- Assumes nothing.
use Rattle.std.proofs.Common.{◌≡◌, ℕ, List, [], ◌∷◌, drop, None, Some, slice_get, refl, Result}
use Rattle.felica_format.specs.declared.error.Reason.{Reason}
use Rattle.felica_format.specs.declared.classes.Class.TheVariants.{Plain}
use Rattle.felica_format.specs.Layout.{class_of}
use Rattle.felica_format.specs.Read.{refused, read_payload, read_plain_as}
use Rattle.felica_command.specs.Places.{Account}
use Rattle.felica_command.specs.declared.command.Parsed.{Parsed}
use Rattle.felica_cursor.specs.Taken.{rest}
use Rattle.felica_cursor.specs.Body.{BodyRead, result_of}
use Rattle.felica_cursor.specs.declared.cursor.Cursor.{Cursor}

-- a payload of no bytes; one that begins with a code
pub payload_empty : (s : List ℕ) → None ≡ slice_get s 0 → read_payload s ≡ refused 3 None
unfolding read_payload
payload_empty [] h = refl
payload_empty (x ∷ xs) h = cc

pub payload_code : (s : List ℕ) (code : ℕ) → Some code ≡ slice_get s 0 → read_payload s ≡ read_plain_as (class_of code) code (drop 1 s)
unfolding read_payload
payload_code [] code h = cc
payload_code (x ∷ xs) code h = let same : code ≡ x = cc in rw same refl

-- what is promised of the body behind a plain code
pub plain_read : (start : Cursor) (code : ℕ) (r : Result Parsed Reason) → class_of code ≡ Plain → BodyRead start code r
    → Account start.payload.now start.at (read_plain_as (class_of code) code (rest start)) (result_of code r)
plain_read start code r plain body = rw plain body
