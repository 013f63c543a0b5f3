-- `parse_register_issue_id` meets its contract: each part of its layout is read by a step, or lacking.
-- Assumes nothing.
use Rattle.std.proofs.Common.{refl}
use Rattle.felica_cursor.proofs.Walk.{no_idm, packed, fixed_refused, fixed_accepted}
use Rattle.felica_secure.proofs.Layouts.{layout_80}
use Rattle.felica_secure.proofs.bodies.parse_register_issue_id.Goals as goal

pub returns-in_err-challenge : goal.returns-in_err-challenge
returns-in_err-challenge c = fixed_refused c.args.start layout_80 no_idm c.in_err-challenge.ensures _ c.from_residual.ensures.1

pub returns : goal.returns
returns c = rw c.bare.ensures (fixed_accepted c.args.start layout_80 no_idm (packed c.in_ok-challenge.ensures c.package-package.ensures) c.bare.ensures refl refl)
