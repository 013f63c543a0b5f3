-- `parse_request_code_list` meets its contract: each part of its layout is read by a step, or lacking.
-- Assumes nothing.
use Rattle.std.proofs.Common.{refl}
use Rattle.felica_cursor.proofs.Walk.{idm, ending, idm_refused, fixed_refused, fixed_accepted}
use Rattle.felica_parse.proofs.Layouts.{layout_1a}
use Rattle.felica_parse.proofs.plain.parse_request_code_list.Goals as goal

pub returns-in_err-idm : goal.returns-in_err-idm
returns-in_err-idm c = idm_refused c.args.start layout_1a c.in_err-idm.ensures _ c.from_residual.ensures.1

pub returns-in_err-parent : goal.returns-in_err-parent
returns-in_err-parent c = fixed_refused _ layout_1a (idm c.in_ok-idm.ensures) c.in_err-parent.ensures _ c.from_residual-in_err-parent.ensures.1

pub returns : goal.returns
returns c = rw c.bare.ensures (fixed_accepted _ layout_1a (idm c.in_ok-idm.ensures) (ending c.in_ok-parent.ensures) c.bare.ensures refl refl)
