-- `parse_get_container_id` meets its contract: each part of its layout is read by a step, or lacking.
-- Assumes nothing.
use Rattle.std.proofs.Common.{refl}
use Rattle.felica_cursor.proofs.Walk.{no_idm, ending, fixed_refused, fixed_accepted}
use Rattle.felica_parse.proofs.Layouts.{layout_70}
use Rattle.felica_parse.proofs.plain.parse_get_container_id.Goals as goal

pub returns-in_err-take_reserved : goal.returns-in_err-take_reserved
returns-in_err-take_reserved c = fixed_refused c.args.start layout_70 no_idm c.in_err-take_reserved.ensures _ c.from_residual.ensures.1

pub returns : goal.returns
returns c = rw c.bare.ensures (fixed_accepted c.args.start layout_70 no_idm (ending c.in_ok-take_reserved.ensures) c.bare.ensures refl refl)
