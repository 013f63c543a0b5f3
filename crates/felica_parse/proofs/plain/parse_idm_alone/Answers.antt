-- `parse_idm_alone` meets its contract: each part of its layout is read by a step, or lacking.
-- Assumes nothing.
use Rattle.std.proofs.Common.{refl}
use Rattle.felica_cursor.proofs.Walk.{idm, ending, idm_refused, fixed_refused, fixed_accepted}
use Rattle.felica_parse.proofs.Layouts.{idm_alone_layout}
use Rattle.felica_parse.proofs.plain.parse_idm_alone.Goals as goal

pub returns-in_err-idm : goal.returns-in_err-idm
returns-in_err-idm c = idm_refused c.args.start (idm_alone_layout _ c.requires) c.in_err-idm.ensures _ c.from_residual.ensures.1

pub returns-in_err-take_end : goal.returns-in_err-take_end
returns-in_err-take_end c = fixed_refused _ (idm_alone_layout _ c.requires) (idm c.in_ok-idm.ensures) c.in_err-take_end.ensures _ c.from_residual-in_err-take_end.ensures.1

pub returns : goal.returns
returns c = rw c.bare.ensures (fixed_accepted _ (idm_alone_layout _ c.requires) (idm c.in_ok-idm.ensures) (ending c.in_ok-take_end.ensures) c.bare.ensures c.idm_alone_kind.ensures refl)
