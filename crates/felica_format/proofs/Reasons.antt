-- A reason is told by its number.
-- Assumes nothing.
use Rattle.std.proofs.Common.{ℕ, ◌≡◌, refl, sym, ap, ◌∙◌, cond, eqb}
use Rattle.felica_format.specs.Reasons.{number_of}
use Rattle.felica_format.specs.declared.error.Reason.{Reason}
use Rattle.felica_format.specs.declared.error.Reason.TheVariants.{EmptyFrame, LengthByteWrong, EmptyPayload, SecureCode, UnknownCode, IdmMissing}
use Rattle.felica_format.specs.declared.error.Reason.TheVariants.{TooShort, TrailingBytes, FirstCountMissing, FirstCountOutOfRange, SecondCountMissing, SecondCountOutOfRange}
use Rattle.felica_format.specs.declared.error.Reason.TheVariants.{CodeListTruncated, BlockListTruncated, ShortBlockNumberMissing, LongBlockNumberMissing, DataTruncated, ReservedNotZero}
use Rattle.felica_format.specs.declared.error.Reason.TheVariants.{FirstTypeUndefined, SecondTypeUndefined, BufferTooSmall, Unwritable}

reason_of : ℕ → Reason
reason_of n = cond (eqb n 1) EmptyFrame (
    cond (eqb n 2) LengthByteWrong (
    cond (eqb n 3) EmptyPayload (
    cond (eqb n 4) SecureCode (
    cond (eqb n 5) UnknownCode (
    cond (eqb n 6) IdmMissing (
    cond (eqb n 7) TooShort (
    cond (eqb n 8) TrailingBytes (
    cond (eqb n 9) FirstCountMissing (
    cond (eqb n 10) FirstCountOutOfRange (
    cond (eqb n 11) SecondCountMissing (
    cond (eqb n 12) SecondCountOutOfRange (
    cond (eqb n 13) CodeListTruncated (
    cond (eqb n 14) BlockListTruncated (
    cond (eqb n 15) ShortBlockNumberMissing (
    cond (eqb n 16) LongBlockNumberMissing (
    cond (eqb n 17) DataTruncated (
    cond (eqb n 18) ReservedNotZero (
    cond (eqb n 19) FirstTypeUndefined (
    cond (eqb n 20) SecondTypeUndefined (
    cond (eqb n 21) BufferTooSmall (
    Unwritable)))))))))))))))))))))

back : (r : Reason) → reason_of (number_of r) ≡ r
unfolding reason_of
back EmptyFrame = refl
back LengthByteWrong = refl
back EmptyPayload = refl
back SecureCode = refl
back UnknownCode = refl
back IdmMissing = refl
back TooShort = refl
back TrailingBytes = refl
back FirstCountMissing = refl
back FirstCountOutOfRange = refl
back SecondCountMissing = refl
back SecondCountOutOfRange = refl
back CodeListTruncated = refl
back BlockListTruncated = refl
back ShortBlockNumberMissing = refl
back LongBlockNumberMissing = refl
back DataTruncated = refl
back ReservedNotZero = refl
back FirstTypeUndefined = refl
back SecondTypeUndefined = refl
back BufferTooSmall = refl
back Unwritable = refl

pub one_reason : (r t : Reason) → number_of r ≡ number_of t → r ≡ t
one_reason r t e = sym (back r) ∙ ap reason_of e ∙ back t
