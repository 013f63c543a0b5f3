-- `felica_text::put::put_decimal` meets its contract: what is left of the number and, behind it, the digits in the array are all digits of the number.
-- Assumes nothing.
use Rattle.std.proofs.Common.{◌≡◌, ◌≤◌, ◌++◌, length, drop}
use Rattle.felica_text.specs.Text.{decimal_text}
use Rattle.felica_text.proofs.Text.{digits_left}
use Rattle.felica_text.proofs.put.put_decimal.Given as goal

abbrev pub invariant-loop-rest : goal.invariant-loop-rest
invariant-loop-rest l = record {
  text : digits_left l.rest ++ drop l.first l.digits ≡ decimal_text l.number;
  inside : l.first ≤ length l.digits;
  whole : length l.digits ≡ length l.initial.digits;
}

abbrev pub decreases-loop-rest : goal.decreases-loop-rest
decreases-loop-rest l = l.rest
