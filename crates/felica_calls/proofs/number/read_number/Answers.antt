-- `felica_calls::number::read_number` meets its contract: the digits read so far, and those left, come to the number.
-- Assumes nothing.
use Rattle.std.proofs.Common.{◌≡◌, true, sym, ◌∙◌, arith}
use Rattle.std.proofs.lemmas.Grind.{common_steps}
use Rattle.felica_calls.specs.Number.{all_decimal, decimal_from, read_number}
use Rattle.felica_calls.proofs.Decimal.{digit_is, decimal_next, decimal_end, number_past}
use Rattle.felica_calls.proofs.number.read_number.Goals as goal
use Rattle.felica_calls.proofs.number.read_number.Goals.{then-most-digit-via-then-most-digit, then-most-digit-via-else-most-digit+then-most-digit-2}

pub overflow_sub-byte : goal.overflow_sub-byte
overflow_sub-byte c = (digit_is _ _ c.loop-byte-test.true c.loop-byte.invariant.digits).0

pub returns-then-most-digit : goal.returns-then-most-digit
returns-then-most-digit c =
    let l = c.loop-byte in
    let digits : all_decimal c.args.field.now ≡ true = sym c.all_decimal.ensures ∙ c.if-not-all_decimal.false in
    elim c.then-most-digit.branch [
      | then-most-digit-via-then-most-digit w ↦ sym (number_past _ _ _ _ c.loop-byte-test.true digits l.invariant.number (omega arith))
      | then-most-digit-via-else-most-digit+then-most-digit-2 w ↦ sym (number_past _ _ _ _ c.loop-byte-test.true digits l.invariant.number (omega arith))
    ]

pub loop-byte-preserved : goal.loop-byte-preserved
loop-byte-preserved c = let l = c.loop-byte in record {
  at_most = omega arith;
  digits = (digit_is _ _ c.loop-byte-test.true l.invariant.digits).2;
  number = rw c.from-digit.ensures (sym (decimal_next _ _ c.loop-byte-test.true _) ∙ l.invariant.number);
}

pub returns : goal.returns
unfolding read_number
returns c =
    let l = c.loop-byte in
    let digits : all_decimal c.args.field.now ≡ true = sym c.all_decimal.ensures ∙ c.if-not-all_decimal.false in
    let number : decimal_from 0 c.args.field.now ≡ l.value = sym l.invariant.number ∙ decimal_end _ _ _ c.loop-byte-test.false in
    grind (arith, common_steps, digits, number)
