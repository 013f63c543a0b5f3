-- `feed` meets its contract: a read for each turn.
-- Assumes nothing.
use Rattle.std.proofs.Common.{ℕ, sym, ap, subst, arith, take}
use Rattle.felica_put.specs.Output.{held}
use Rattle.felica_stream.proofs.Reading.{from_ok}
use Rattle.felica.specs.Held.{NoEnd, bytes_in, at_end, too_long}
use Rattle.felica.proofs.Lines.{none_in_nothing}
use Rattle.felica.proofs.Reading.{read_none, read_written, read_turn}
use Rattle.felica.proofs.feed.Goals as goal

pub loop-init : goal.loop-init
loop-init g c =
    let started = c.requires.started in
    let none = ap (λ (n : ℕ). take n c.args.input.now.room.now) started.0 in
    record {
      read = (read_none _ _ c.args.waiting.now.out c.args.input.now.too_long none started.1 started.2, omega arith);
      none = subst NoEnd (sym none) none_in_nothing;
      room = omega (arith, started.0);
    }

pub returns-then-ended-clause-all : goal.returns-then-ended-clause-all
returns-then-ended-clause-all g c =
    let loop = c.loop in
    let input = c.read_piece.new.input in
    let wrote = rw (from_ok _ _ _ c.map_err.ensures.cases c.map_err.ensures.variant c.in_ok-map_err.was) at c.make_room.ensures.bytes in
    let got = from_ok _ _ _ c.map_err-in-loop.ensures.cases c.map_err-in-loop.ensures.variant c.in_ok-ended.was in
    let read = rw got at c.read_piece.ensures.bytes in
    let end = rw got at c.read_piece.ensures.end in
    let kept = rw got at c.read_piece.ensures.kept in
    let answered = rw (c.read_piece.ensures.line) at (rw (from_ok _ _ _ c.map_err-in-loop-2.ensures.cases c.map_err-in-loop-2.ensures.variant c.in_ok-map_err-2.was) at c.answer_held.ensures.answered) in
    let before = read_written _ _ _ _ _ loop.input.too_long (bytes_in loop.input) c.make_room.ensures.out wrote loop.invariant.read.0 in
    let turn = read_turn _ _ _ _ _ _ (held c.make_room.new.out) loop.input.too_long loop.input.room.now input.room.now loop.input.held input.held _ _ _ kept.0 input.inside kept.1 read before.0 answered in
    (answered.0, (turn.0, at_end (end c.if-ended.true)))

pub loop-preserved : goal.loop-preserved
loop-preserved g c =
    let loop = c.loop in
    let input = c.read_piece.new.input in
    let wrote = rw (from_ok _ _ _ c.map_err.ensures.cases c.map_err.ensures.variant c.in_ok-map_err.was) at c.make_room.ensures.bytes in
    let got = from_ok _ _ _ c.map_err-in-loop.ensures.cases c.map_err-in-loop.ensures.variant c.in_ok-ended.was in
    let read = rw got at c.read_piece.ensures.bytes in
    let more = (rw got at c.read_piece.ensures.more) c.if-ended.false in
    let kept = rw got at c.read_piece.ensures.kept in
    let done = from_ok _ _ _ c.map_err-in-loop-2.ensures.cases c.map_err-in-loop-2.ensures.variant c.in_ok-map_err-2.was in
    let answered = rw (c.read_piece.ensures.line) at (rw done at c.answer_held.ensures.answered) in
    let before = read_written _ _ _ _ _ loop.input.too_long (bytes_in loop.input) c.make_room.ensures.out wrote loop.invariant.read.0 in
    let turn = read_turn _ _ _ _ _ _ (held c.make_room.new.out) loop.input.too_long loop.input.room.now input.room.now loop.input.held input.held _ _ _ kept.0 input.inside kept.1 read before.0 answered in
    record {
      read = (turn.0, omega (arith, turn.1, before.1, loop.invariant.read.1, more));
      none = answered.0;
      room = rw done at c.answer_held.ensures.room;
    }

pub returns-clause-all : goal.returns-clause-all
returns-clause-all g c = let loop = c.loop.invariant in (loop.none, (loop.read.0, too_long (omega (arith, loop.read.1, c.loop-test.false))))
