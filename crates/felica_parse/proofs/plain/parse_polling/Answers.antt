-- `parse_polling` meets its contract: each part of its layout is read by a step, or lacking.
-- Assumes nothing.
use Rattle.std.proofs.Common.{refl}
use Rattle.felica_cursor.proofs.Walk.{no_idm, ending, fixed_refused, fixed_accepted}
use Rattle.felica_parse.proofs.Layouts.{layout_00}
use Rattle.felica_parse.proofs.plain.parse_polling.Goals as goal

pub returns-in_err-polling : goal.returns-in_err-polling
returns-in_err-polling c = fixed_refused c.args.start layout_00 no_idm c.in_err-polling.ensures _ c.from_residual.ensures.1

pub returns : goal.returns
returns c = rw c.bare.ensures (fixed_accepted c.args.start layout_00 no_idm (ending c.in_ok-polling.ensures) c.bare.ensures refl refl)
