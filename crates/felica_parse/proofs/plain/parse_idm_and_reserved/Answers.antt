-- `parse_idm_and_reserved` meets its contract: each part of its layout is read by a step, or lacking.
-- Assumes nothing.
use Rattle.std.proofs.Common.{refl}
use Rattle.felica_cursor.proofs.Walk.{idm, ending, idm_refused, fixed_refused, fixed_accepted}
use Rattle.felica_parse.proofs.Layouts.{reserved_layout}
use Rattle.felica_parse.proofs.plain.parse_idm_and_reserved.Goals as goal

pub returns-in_err-idm : goal.returns-in_err-idm
returns-in_err-idm c = idm_refused c.args.start (reserved_layout _ c.requires) c.in_err-idm.ensures _ c.from_residual.ensures.1

pub returns-in_err-take_reserved : goal.returns-in_err-take_reserved
returns-in_err-take_reserved c = fixed_refused _ (reserved_layout _ c.requires) (idm c.in_ok-idm.ensures) c.in_err-take_reserved.ensures _ c.from_residual-in_err-take_reserved.ensures.1

pub returns : goal.returns
returns c = rw c.bare.ensures (fixed_accepted _ (reserved_layout _ c.requires) (idm c.in_ok-idm.ensures) (ending c.in_ok-take_reserved.ensures) c.bare.ensures c.reserved_kind.ensures refl)
