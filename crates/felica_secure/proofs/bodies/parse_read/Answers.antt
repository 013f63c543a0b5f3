-- `parse_read` meets its contract: each part of its layout is read by a step, or lacking.
-- Assumes nothing.
use Rattle.std.proofs.Common.{refl}
use Rattle.felica_cursor.proofs.Walk.{no_idm, no_selector_read, no_codes_read, blocks, no_data, ignored, blocks_refused, accepted}
use Rattle.felica_secure.proofs.Layouts.{read_layout}
use Rattle.felica_secure.proofs.bodies.parse_read.Goals as goal

pub returns-in_err-blocks : goal.returns-in_err-blocks
returns-in_err-blocks c =
    blocks_refused c.args.start (read_layout _ c.requires) no_idm no_selector_read no_codes_read no_codes_read c.in_err-blocks.ensures _ c.from_residual.ensures.1

pub returns : goal.returns
returns c =
    rw c.bare.ensures
    (accepted c.args.start (read_layout _ c.requires) no_idm no_selector_read no_codes_read no_codes_read (blocks c.in_ok-blocks.ensures) no_data ignored
    c.bare.ensures c.read_kind.ensures refl)
