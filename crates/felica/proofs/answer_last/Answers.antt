-- `answer_last` answers the last line, if there is one.
-- Assumes nothing.
use Rattle.std.proofs.Common.{ℕ, ◌<◌, List, ◌++◌, ap, arith, length, take, length-take-le}
use Rattle.std.proofs.lemmas.Result.{on_ok_weaker}
use Rattle.felica.specs.Held.{Passed, bytes_in}
use Rattle.felica.proofs.Held.{no_last, last_answered, some_passed, some_held}
use Rattle.felica.proofs.answer_last.Goals.{else-end-eq0-via-then-end-eq0+else-not-input, else-end-eq0-via-else-end-eq0}
use Rattle.felica.proofs.answer_last.Goals as goal

pub returns-then-not-input : goal.returns-then-not-input
returns-then-not-input g c = no_last _ _ c.args.input.now.too_long (bytes_in c.args.input.now) c.if-not-input.true (ap (λ (n : ℕ). take n c.args.input.now.room.now) c.if-end-eq0.true)

pub returns : goal.returns
returns g c =
    let input = c.args.input.now in
    let some : (passed : List ℕ) → Passed input.too_long passed → 0 < length (passed ++ bytes_in input) = λ passed is. elim c.else-end-eq0.branch [
      | else-end-eq0-via-then-end-eq0+else-not-input w ↦ some_passed input.too_long passed (bytes_in input) w.if-not-input.false is
      | else-end-eq0-via-else-end-eq0 w ↦ some_held passed (bytes_in input) (omega (arith, w.if-end-eq0.false, length-take-le input.held input.room.now input.inside))
    ] in
    on_ok_weaker _ (last_answered _ _ input.too_long (bytes_in input) _ _ some) c.answer_next.ensures
