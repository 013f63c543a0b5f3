-- The numbers of document 01's table, of the list reader and of the writer.
-- Assumes nothing.
use Rattle.std.specs.Prelude.{ℕ}
use Rattle.felica_format.specs.declared.error.Reason.{Reason}
use Rattle.felica_format.specs.declared.error.Reason.TheVariants.{EmptyFrame, LengthByteWrong, EmptyPayload, SecureCode, UnknownCode, IdmMissing}
use Rattle.felica_format.specs.declared.error.Reason.TheVariants.{TooShort, TrailingBytes, FirstCountMissing, FirstCountOutOfRange, SecondCountMissing, SecondCountOutOfRange}
use Rattle.felica_format.specs.declared.error.Reason.TheVariants.{CodeListTruncated, BlockListTruncated, ShortBlockNumberMissing, LongBlockNumberMissing, DataTruncated, ReservedNotZero}
use Rattle.felica_format.specs.declared.error.Reason.TheVariants.{FirstTypeUndefined, SecondTypeUndefined, BufferTooSmall, Unwritable}

abbrev pub number_of : Reason → ℕ
number_of EmptyFrame = 1
number_of LengthByteWrong = 2
number_of EmptyPayload = 3
number_of SecureCode = 4
number_of UnknownCode = 5
number_of IdmMissing = 6
number_of TooShort = 7
number_of TrailingBytes = 8
number_of FirstCountMissing = 9
number_of FirstCountOutOfRange = 10
number_of SecondCountMissing = 11
number_of SecondCountOutOfRange = 12
number_of CodeListTruncated = 13
number_of BlockListTruncated = 14
number_of ShortBlockNumberMissing = 15
number_of LongBlockNumberMissing = 16
number_of DataTruncated = 17
number_of ReservedNotZero = 18
number_of FirstTypeUndefined = 19
number_of SecondTypeUndefined = 20
number_of BufferTooSmall = 21
number_of Unwritable = 22
