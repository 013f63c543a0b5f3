-- `parse_set_parameter` meets its contract: each part of its layout is read by a step, or lacking.
-- Assumes nothing.
use Rattle.std.proofs.Common.{refl}
use Rattle.felica_cursor.proofs.Walk.{idm, ending, idm_refused, fixed_refused, fixed_accepted}
use Rattle.felica_parse.proofs.Layouts.{layout_20}
use Rattle.felica_parse.proofs.plain.parse_set_parameter.Goals as goal

pub returns-in_err-idm : goal.returns-in_err-idm
returns-in_err-idm c = idm_refused c.args.start layout_20 c.in_err-idm.ensures _ c.from_residual.ensures.1

pub returns-in_err-parameter : goal.returns-in_err-parameter
returns-in_err-parameter c = fixed_refused _ layout_20 (idm c.in_ok-idm.ensures) c.in_err-parameter.ensures _ c.from_residual-in_err-parameter.ensures.1

pub returns : goal.returns
returns c = rw c.bare.ensures (fixed_accepted _ layout_20 (idm c.in_ok-idm.ensures) (ending c.in_ok-parameter.ensures) c.bare.ensures refl refl)
