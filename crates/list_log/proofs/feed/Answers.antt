-- `feed` meets its contract: a read for each turn.
-- Assumes nothing.
use Rattle.std.proofs.Common.{ℕ, sym, ap, ◌∙◌, arith, length, take, length-take-le}
use Rattle.felica_put.specs.Output.{held}
use Rattle.felica_stream.proofs.Reading.{from_ok, on_err}
use Rattle.felica_log.proofs.Rules.{nothing_left_over}
use Rattle.list_log.specs.Held.{bytes_in, too_long}
use Rattle.list_log.proofs.Held.{none_kept, held_short, read_none, read_written, read_failed, where_unread, read_turn, goes_on, all_read_once_over}
use Rattle.list_log.proofs.feed.Goals as goal

pub loop-init : goal.loop-init
loop-init g c =
    let started = c.requires.started in
    let none = ap (λ (n : ℕ). take n c.args.input.now.room.now) started.0 in
    record {
      read = (read_none _ _ _ c.args.listing.now.out none started.1 started.2, omega arith);
      short = omega (arith, started.0);
      none_left = nothing_left_over c.args.listing.now.totals _ (ap length none);
    }

pub read_piece-requires : goal.read_piece-requires
read_piece-requires g c = omega (arith, c.loop.invariant.short, c.loop.input.record)

pub returns-then-is_over-clause-all : goal.returns-then-is_over-clause-all
returns-then-is_over-clause-all g c =
    let loop = c.loop in
    let input = c.read_piece.new.input in
    let rest = c.list_input.new.input in
    let wrote = rw (from_ok _ _ _ c.map_err.ensures.cases c.map_err.ensures.variant c.in_ok-map_err.was) at c.make_room.ensures.bytes in
    let waits = read_written _ _ _ _ _ loop.listing.totals (bytes_in loop.input) c.make_room.ensures.out wrote loop.invariant.read.0 in
    let got = from_ok _ _ _ c.map_err-in-loop.ensures.cases c.map_err-in-loop.ensures.variant c.in_ok-ended.was in
    let read = rw got at c.read_piece.ensures.bytes in
    let end = rw got at c.read_piece.ensures.end in
    let kept = rw got at c.read_piece.ensures.kept in
    let listed = rw (from_ok _ _ _ c.map_err-in-loop-2.ensures.cases c.map_err-in-loop-2.ensures.variant c.in_ok-map_err-2.was) at c.list_input.ensures.listed in
    all_read_once_over _ _ _ _ _ _ _ _ _ (sym c.is_over.ensures ∙ c.if-is_over.true) (sym (length-take-le rest.held rest.room.now rest.inside)) end
    (read_turn _ _ _ _ _ _ loop.listing.totals (held c.make_room.new.out) loop.input.room.now input.room.now loop.input.held input.held _ _ _ kept.0 input.inside kept.1 read waits.0 listed).0

pub loop-preserved : goal.loop-preserved
loop-preserved g c =
    let loop = c.loop in
    let input = c.read_piece.new.input in
    let wrote = rw (from_ok _ _ _ c.map_err.ensures.cases c.map_err.ensures.variant c.in_ok-map_err.was) at c.make_room.ensures.bytes in
    let waits = read_written _ _ _ _ _ loop.listing.totals (bytes_in loop.input) c.make_room.ensures.out wrote loop.invariant.read.0 in
    let got = from_ok _ _ _ c.map_err-in-loop.ensures.cases c.map_err-in-loop.ensures.variant c.in_ok-ended.was in
    let read = rw got at c.read_piece.ensures.bytes in
    let kept = rw got at c.read_piece.ensures.kept in
    let done = from_ok _ _ _ c.map_err-in-loop-2.ensures.cases c.map_err-in-loop-2.ensures.variant c.in_ok-map_err-2.was in
    let listed = rw done at c.list_input.ensures.listed in
    let short = rw done at c.list_input.ensures.short in
    let goes = sym c.is_over.ensures ∙ c.if-is_over.false in
    let some = (rw got at c.read_piece.ensures.more) (goes_on _ _ _ goes) in
    let turn = read_turn _ _ _ _ _ _ loop.listing.totals (held c.make_room.new.out) loop.input.room.now input.room.now loop.input.held input.held _ _ _ kept.0 input.inside kept.1 read waits.0 listed in
    record {
      read = (turn.0, omega (arith, turn.1, waits.1, loop.invariant.read.1, some));
      short = held_short _ _ _ goes short;
      none_left = none_kept _ _ _ _ _ _ _ _ listed;
    }

pub returns-clause-all : goal.returns-clause-all
returns-clause-all g c = let read = c.loop.invariant.read in (read.0, too_long (omega (arith, read.1, c.loop-test.false)))

pub returns-in_err-ended-clause-unread : goal.returns-in_err-ended-clause-unread
returns-in_err-ended-clause-unread g c =
    let loop = c.loop in
    let wrote = rw (from_ok _ _ _ c.map_err.ensures.cases c.map_err.ensures.variant c.in_ok-map_err.was) at c.make_room.ensures.bytes in
    let waits = read_written _ _ _ _ _ loop.listing.totals (bytes_in loop.input) c.make_room.ensures.out wrote loop.invariant.read.0 in
    let failed = on_err _ _ _ c.map_err-in-loop.ensures.cases c.map_err-in-loop.ensures.variant c.in_err-ended.was c.read_piece.ensures.err in
    where_unread _ (read_failed _ _ _ _ _ _ _ failed.0 failed.1 waits.0)
