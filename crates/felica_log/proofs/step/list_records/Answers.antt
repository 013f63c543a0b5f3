-- `list_records` meets its contract: a record for each turn.
-- Assumes nothing.
use Rattle.std.proofs.Common.{ℕ, ◌+◌, ◌-◌, ◌≡◌, sym, ap, ◌∙◌, arith, Ok, length, take, drop}
use Rattle.felica_put.specs.Output.{held}
use Rattle.felica_put.proofs.Laws.{take_rest}
use Rattle.felica_log.proofs.Turn.{frame_ahead, frame_inside, turn_stopped, turn_listed}
use Rattle.felica_log.proofs.step.list_records.Goals as goal

pub returns-in-Err-clause-reached : goal.returns-in-Err-clause-reached
returns-in-Err-clause-reached c =
    let loop = c.loop-size in
    turn_stopped c.args.piece.now (held loop.out) loop.totals loop.used _ _ (take_rest loop.used c.args.piece.now) c.saturating_sub-room.ensures
    (sym c.look_ahead.ensures ∙ c.in-Err.is) loop.invariant.left

pub overflow_add-totals : goal.overflow_add-totals
overflow_add-totals c = omega (arith, (frame_ahead _ _ _ (sym c.look_ahead.ensures ∙ c.in-Ok.is)).few)

pub slice_bounds-put_frame_line-end : goal.slice_bounds-put_frame_line-end
slice_bounds-put_frame_line-end c = let k = (frame_ahead _ _ _ (sym c.look_ahead.ensures ∙ c.in-Ok.is)).whole in omega arith

pub loop-size-smaller : goal.loop-size-smaller
loop-size-smaller c = omega (arith, frame_inside c.args.piece.now _ _ _ (sym c.look_ahead.ensures ∙ c.in-Ok.is))

pub loop-size-preserved : goal.loop-size-preserved
loop-size-preserved c =
    let loop = c.loop-size in
    let piece = c.args.piece.now in
    let size = c.from-end.result in
    let ahead = sym c.look_ahead.ensures ∙ c.in-Ok.is ∙ ap Ok (sym c.from-end.ensures) in
    let shown : size + 1 - 1 ≡ size = omega arith in
    let rest = take (length piece - loop.used) (drop loop.used piece) in
    let line = c.put_frame_line.ensures in
    record {
      used = frame_inside piece _ _ _ ahead;
      same_reference = line.line.same_reference ∙ loop.invariant.same_reference;
      left = turn_listed piece (held loop.out) loop.totals loop.used _ _ _ _ (take_rest loop.used piece)
          (ap (λ (n : ℕ). take n (drop 1 rest)) shown) c.saturating_sub-room.ensures ahead line.line.held line.blocks c.count.ensures loop.invariant.left;
    }
