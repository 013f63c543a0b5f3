-- `finish` meets its contract.
-- Assumes nothing.
use Rattle.std.proofs.Common.{◌<◌, get_or, arith}
use Rattle.std.proofs.lemmas.Result.{on_ok_weaker}
use Rattle.felica_log.proofs.Rules.{end_fits}
use Rattle.list_log.proofs.Held.{line_room_made, room_still, end_put, end_taken}
use Rattle.list_log.proofs.finish.Goals as goal

pub invariant_of-listing-2 : goal.invariant_of-listing-2
invariant_of-listing-2 g c =
    let listing = c.args.listing.now in
    record { room = room_still c.put_end.ensures (line_room_made c.in_ok-make_room.ensures.out listing.room); sound = listing.sound }

pub returns-clause-end : goal.returns-clause-end
returns-clause-end g c =
    let listing = c.args.listing.now in
    let byte : get_or c.args.rest.now 0 0 < 256 = omega (arith, c.type_inv.rest 0) in
    let fits = end_fits listing.totals c.args.rest.now listing.sound byte in
    on_ok_weaker _ (λ _. end_put _ c.in_ok-make_room.ensures.out listing.room fits c.put_end.ensures) c.write_all.ensures.bytes

pub returns-clause-bytes : goal.returns-clause-bytes
returns-clause-bytes g c =
    let listing = c.args.listing.now in
    let byte : get_or c.args.rest.now 0 0 < 256 = omega (arith, c.type_inv.rest 0) in
    let fits = end_fits listing.totals c.args.rest.now listing.sound byte in
    on_ok_weaker _ (end_taken _ c.in_ok-make_room.ensures.out listing.room fits c.put_end.ensures _ _ _ c.in_ok-make_room.ensures.bytes) (rw c.filled.ensures at c.write_all.ensures.bytes)
