-- `parse_change_system_block` meets its contract: each part of its layout is read by a step, or lacking.
-- Assumes nothing.
use Rattle.std.proofs.Common.{refl}
use Rattle.felica_cursor.proofs.Walk.{no_idm, ending, fixed_refused, fixed_accepted}
use Rattle.felica_secure.proofs.Layouts.{layout_8e}
use Rattle.felica_secure.proofs.bodies.parse_change_system_block.Goals as goal

pub returns-in_err-take_end : goal.returns-in_err-take_end
returns-in_err-take_end c = fixed_refused c.args.start layout_8e no_idm c.in_err-take_end.ensures _ c.from_residual.ensures.1

pub returns : goal.returns
returns c = rw c.bare.ensures (fixed_accepted c.args.start layout_8e no_idm (ending c.in_ok-take_end.ensures) c.bare.ensures refl refl)
