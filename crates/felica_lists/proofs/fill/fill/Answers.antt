-- `fill` meets its contract: every buffer is measured before one is written.
-- Assumes nothing.
use Rattle.std.proofs.Common.{sym, ◌∙◌}
use Rattle.felica_lists.specs.Lent.{held}
use Rattle.felica_lists.proofs.Room.{none_filled, all_filled}
use Rattle.felica_lists.proofs.fill.fill.Goals as goal

pub returns-then-not-has_room-clause-filled : goal.returns-then-not-has_room-clause-filled
returns-then-not-has_room-clause-filled c = none_filled _ _ _ c.requires (sym c.has_room.ensures ∙ c.if-not-has_room.true)

pub returns-clause-filled : goal.returns-clause-filled
returns-clause-filled c =
    let blocks = c.fill_blocks.ensures in
    all_filled _ _ (held c.args.out.now) c.requires (sym c.has_room.ensures ∙ c.if-not-has_room.false) c.fill_codes.ensures c.fill_codes-2.ensures blocks.0 blocks.1 blocks.2
