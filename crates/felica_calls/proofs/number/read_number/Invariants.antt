-- `felica_calls::number::read_number` meets its contract: the digits read so far, and those left, come to the number.
-- Assumes nothing.
use Rattle.std.proofs.Common.{◌≤◌, ◌≡◌, true, drop}
use Rattle.felica_calls.specs.Number.{all_decimal, decimal_from}
use Rattle.felica_calls.proofs.number.read_number.Given as goal

abbrev pub invariant-loop-byte : goal.invariant-loop-byte
invariant-loop-byte l = record {
  at_most : l.value ≤ l.most;
  digits : all_decimal (drop l.byte-index l.field) ≡ true;
  number : decimal_from l.value (drop l.byte-index l.field) ≡ decimal_from 0 l.field;
}
