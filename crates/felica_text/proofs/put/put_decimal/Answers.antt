-- `felica_text::put::put_decimal` meets its contract: what is left of the number and, behind it, the digits in the array are all digits of the number.
-- Assumes nothing.
use Rattle.std.proofs.Common.{ℕ, ◌∙◌, sym, arith, length-drop, length-set, append-nil}
use Rattle.std.proofs.lemmas.List.{take_all}
use Rattle.felica_put.proofs.Lists.{puts_same}
use Rattle.felica_text.proofs.Text.{none_left, all_left, room_left, digit_taken, decimal_small, decimal_length}
use Rattle.felica_text.proofs.put.put_decimal.Goals as goal

pub returns-then-number-lt10 : goal.returns-then-number-lt10
returns-then-number-lt10 c = puts_same c.put.ensures (sym (decimal_small _ c.if-number-lt10.true))

pub loop-rest-init : goal.loop-rest-init
loop-rest-init c = record { text = rw (all_left c.args.number (omega arith)) (append-nil _); inside = omega arith; whole = omega arith }

pub overflow_sub-first : goal.overflow_sub-first
overflow_sub-first c =
    room_left _ _ _ (omega arith) c.loop-rest.invariant.text (omega (arith, decimal_length 19 c.args.number (omega arith)))

pub loop-rest-preserved : goal.loop-rest-preserved
loop-rest-preserved c = record {
  text = digit_taken _ _ _ (omega arith) (overflow_sub-first c) c.loop-rest.invariant.inside c.loop-rest.invariant.text;
  inside = omega (arith, length-set {A = ℕ});
  whole = omega (arith, length-set {A = ℕ});
}

pub returns : goal.returns
returns c =
    puts_same c.put_all.ensures
    (take_all _ _ (omega (arith, length-drop {A = ℕ})) ∙ (rw (none_left c.loop-rest.rest (omega arith)) at c.loop-rest.invariant.text))
