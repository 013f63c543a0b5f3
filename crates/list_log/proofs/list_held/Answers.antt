-- `list_held` meets its contract: a step for each turn.
-- Assumes nothing.
use Rattle.std.proofs.Common.{◌+◌, refl, sym, ◌∙◌, arith}
use Rattle.felica_put.specs.Output.{held}
use Rattle.felica_put.proofs.Laws.{take_rest}
use Rattle.list_log.proofs.Held.{line_room_made, line_fits, room_after, inside_after, sound_after, none_after, less_left, some_used, listed_step, listed_room, listed_start}
use Rattle.list_log.proofs.list_held.Goals as goal

pub loop-listing-init : goal.loop-listing-init
loop-listing-init g c = record { listed = listed_start _ c.args.listing.now.totals (held c.args.listing.now.out) c.args.held.now; inside = omega arith }

pub invariant_of-listing-in-loop-listing : goal.invariant_of-listing-in-loop-listing
invariant_of-listing-in-loop-listing g c =
    let e = c.list_records-progress.ensures.reached in
    let room = room_after _ _ _ e {p = c.list_records-progress.new.out} refl refl (line_room_made c.in_ok-make_room.ensures.out c.loop-listing.listing.room) in
    record {
      room = record { inside = omega (arith, room.inside); line = room.line };
      sound = sound_after _ _ _ e c.loop-listing.listing.sound;
    }

pub overflow_add-used : goal.overflow_add-used
overflow_add-used g c =
    let loop = c.loop-listing in
    omega (arith, inside_after _ _ _ c.list_records-progress.ensures.reached c.args.held.now loop.used (take_rest loop.used c.args.held.now) loop.invariant.inside)

pub returns-then-not-lacks_room-clause-listed : goal.returns-then-not-lacks_room-clause-listed
returns-then-not-lacks_room-clause-listed g c =
    let loop = c.loop-listing in
    let all = c.args.held.now in
    let first = c.args.listing.now in
    let e = c.list_records-progress.ensures.reached in
    let rest = take_rest loop.used all in
    let room = listed_room _ _ _ _ _ all loop.listing.totals loop.used c.in_ok-make_room.ensures.out c.in_ok-make_room.ensures.bytes loop.invariant.listed in (
      inside_after _ _ _ e all loop.used rest loop.invariant.inside,
      (
        listed_step _ _ _ e _ _ first.totals (held first.out) all loop.used rest room,
        none_after _ _ _ e all loop.used rest loop.listing.sound (sym c.lacks_room.ensures ∙ c.if-not-lacks_room.true),
      ),
    )

pub returns-then-not-lacks_room-clause-short : goal.returns-then-not-lacks_room-clause-short
returns-then-not-lacks_room-clause-short g c =
    let loop = c.loop-listing in
    let all = c.args.held.now in
    let used = loop.used + c.list_records-progress.result.used in
    let e = c.list_records-progress.ensures.reached in
    let rest = take_rest loop.used all in
    let none = none_after _ _ _ e all loop.used rest loop.listing.sound (sym c.lacks_room.ensures ∙ c.if-not-lacks_room.true) in
    less_left c.list_records-progress.new.totals all used none (inside_after _ _ _ e all loop.used rest loop.invariant.inside) (omega (arith, c.type_inv.held used))

pub loop-listing-smaller : goal.loop-listing-smaller
loop-listing-smaller g c =
    let loop = c.loop-listing in
    let e = c.list_records-progress.ensures.reached in
    let inside = inside_after _ _ _ e c.args.held.now loop.used (take_rest loop.used c.args.held.now) loop.invariant.inside in
    let lacks = sym c.lacks_room.ensures ∙ c.if-not-lacks_room.false in
    omega (arith, inside, some_used _ _ _ e (line_fits c.in_ok-make_room.ensures.out loop.listing.room) lacks)

pub loop-listing-preserved : goal.loop-listing-preserved
loop-listing-preserved g c =
    let loop = c.loop-listing in
    let all = c.args.held.now in
    let first = c.args.listing.now in
    let e = c.list_records-progress.ensures.reached in
    let rest = take_rest loop.used all in
    let room = listed_room _ _ _ _ _ all loop.listing.totals loop.used c.in_ok-make_room.ensures.out c.in_ok-make_room.ensures.bytes loop.invariant.listed in
    record {
      listed = listed_step _ _ _ e _ _ first.totals (held first.out) all loop.used rest room;
      inside = inside_after _ _ _ e all loop.used rest loop.invariant.inside;
    }
