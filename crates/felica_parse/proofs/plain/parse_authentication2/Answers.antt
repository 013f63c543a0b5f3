-- `parse_authentication2` meets its contract: each part of its layout is read by a step, or lacking.
-- Assumes nothing.
use Rattle.std.proofs.Common.{refl}
use Rattle.felica_cursor.proofs.Walk.{idm, ending, idm_refused, fixed_refused, fixed_accepted}
use Rattle.felica_parse.proofs.Layouts.{layout_12}
use Rattle.felica_parse.proofs.plain.parse_authentication2.Goals as goal

pub returns-in_err-idm : goal.returns-in_err-idm
returns-in_err-idm c = idm_refused c.args.start layout_12 c.in_err-idm.ensures _ c.from_residual.ensures.1

pub returns-in_err-challenge : goal.returns-in_err-challenge
returns-in_err-challenge c = fixed_refused _ layout_12 (idm c.in_ok-idm.ensures) c.in_err-challenge.ensures _ c.from_residual-in_err-challenge.ensures.1

pub returns : goal.returns
returns c = rw c.bare.ensures (fixed_accepted _ layout_12 (idm c.in_ok-idm.ensures) (ending c.in_ok-challenge.ensures) c.bare.ensures refl refl)
