-- `felica_named::lists::put_numbers` meets its contract: number after number.
-- Assumes nothing.
use Rattle.std.proofs.Common.{◌∙◌, ◌<◌, get_or, arith}
use Rattle.felica_calls.proofs.Reading.{value_small}
use Rattle.felica_named.proofs.Digits.{comma_put, digit_put, last_put, still_small}
use Rattle.felica_named.proofs.lists.put_numbers.Goals as goal
use Rattle.felica_named.proofs.lists.put_numbers.Goals.{then-digit-eq44, else-digit-eq44}

pub loop-digit-preserved : goal.loop-digit-preserved
loop-digit-preserved g c = let l = c.loop-digit in
    elim c.if-digit-eq44.branch [
      | then-digit-eq44 w ↦ record {
        small = rw w.number-is (omega (arith, g.met.T.Number.range.0));
        same_reference = rw w.numbers-is (w.put.ensures.same_reference ∙ l.invariant.same_reference);
        held = rw (w.numbers-is, w.number-is) (comma_put _ _ _ _ _ _ c.loop-digit-test.true w.if-digit-eq44.true (rw w.number.ensures at w.put.ensures.held) l.invariant.held);
      }
      | else-digit-eq44 w ↦ let digit : w.value_of.result < 16 = rw w.value_of.ensures (value_small (get_or c.args.value.now l.digit-index 0)) in record {
        small = rw (w.number-is, w.KEPT.ensures, w.from.ensures) (still_small g.T.Number.KEPT l.number w.value_of.result g.met.T.Number.range.0 digit);
        same_reference = rw w.numbers-is l.invariant.same_reference;
        held = rw (w.numbers-is, w.number-is, w.KEPT.ensures, w.from.ensures) (digit_put _ _ _ _ _ _ c.loop-digit-test.true w.if-digit-eq44.false w.value_of.ensures l.invariant.held);
      }
    ]

pub returns : goal.returns
returns g c = let l = c.loop-digit in record {
  same_reference = c.put-2.ensures.same_reference ∙ l.invariant.same_reference;
  held = last_put _ _ _ _ l.number _ c.loop-digit-test.false (rw c.number-2.ensures at c.put-2.ensures.held) l.invariant.held;
}
