-- `parse_register` meets its contract: each part of its layout is read by a step, or lacking.
-- Assumes nothing.
use Rattle.std.proofs.Common.{refl}
use Rattle.felica_cursor.proofs.Walk.{no_idm, packed, fixed_refused, fixed_accepted}
use Rattle.felica_secure.proofs.Layouts.{register_layout}
use Rattle.felica_secure.proofs.bodies.parse_register.Goals as goal

pub returns-in_err-number : goal.returns-in_err-number
returns-in_err-number c = fixed_refused c.args.start (register_layout _ c.requires) no_idm c.in_err-number.ensures _ c.from_residual.ensures.1

pub returns : goal.returns
returns c = rw c.bare.ensures (fixed_accepted c.args.start (register_layout _ c.requires) no_idm (packed c.in_ok-number.ensures c.package-package.ensures) c.bare.ensures c.register_kind.ensures refl)
