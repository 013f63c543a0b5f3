-- `parse_write` meets its contract: each part of its layout is read by a step, or lacking.
-- Assumes nothing.
use Rattle.std.proofs.Common.{refl}
use Rattle.felica_cursor.proofs.Walk.{no_idm, no_selector_read, no_codes_read, blocks, data_bytes, ignored, blocks_refused, data_refused, accepted}
use Rattle.felica_secure.proofs.Layouts.{write_layout}
use Rattle.felica_secure.proofs.bodies.parse_write.Goals as goal

pub returns-in_err-blocks : goal.returns-in_err-blocks
returns-in_err-blocks c =
    blocks_refused c.args.start (write_layout _ c.requires) no_idm no_selector_read no_codes_read no_codes_read c.in_err-blocks.ensures _ c.from_residual.ensures.1

pub returns-in_err-data : goal.returns-in_err-data
returns-in_err-data c =
    data_refused c.args.start (write_layout _ c.requires) no_idm no_selector_read no_codes_read no_codes_read (blocks c.in_ok-blocks.ensures)
    c.in_err-data.ensures _ c.from_residual-in_err-data.ensures.1

pub returns : goal.returns
returns c =
    rw c.bare.ensures
    (accepted c.args.start (write_layout _ c.requires) no_idm no_selector_read no_codes_read no_codes_read (blocks c.in_ok-blocks.ensures) (data_bytes c.in_ok-data.ensures) ignored
    c.bare.ensures c.write_kind.ensures refl)
