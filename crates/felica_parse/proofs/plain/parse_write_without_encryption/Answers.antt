-- `parse_write_without_encryption` meets its contract: each part of its layout is read by a step, or lacking.
-- Assumes nothing.
use Rattle.std.proofs.Common.{refl}
use Rattle.felica_cursor.proofs.Walk.{idm, no_selector_read, codes, no_codes_read, blocks, data_bytes, ending, idm_refused, first_refused, blocks_refused, data_refused, ending_refused, accepted}
use Rattle.felica_parse.proofs.Layouts.{layout_08}
use Rattle.felica_parse.proofs.plain.parse_write_without_encryption.Goals as goal

pub returns-in_err-idm : goal.returns-in_err-idm
returns-in_err-idm c = idm_refused c.args.start layout_08 c.in_err-idm.ensures _ c.from_residual.ensures.1

pub returns-in_err-service_codes : goal.returns-in_err-service_codes
returns-in_err-service_codes c = first_refused _ layout_08 (idm c.in_ok-idm.ensures) no_selector_read c.in_err-service_codes.ensures _ c.from_residual-in_err-service_codes.ensures.1

pub returns-in_err-blocks : goal.returns-in_err-blocks
returns-in_err-blocks c =
    blocks_refused _ layout_08 (idm c.in_ok-idm.ensures) no_selector_read (codes c.in_ok-service_codes.ensures) no_codes_read
    c.in_err-blocks.ensures _ c.from_residual-in_err-blocks.ensures.1

pub returns-in_err-data : goal.returns-in_err-data
returns-in_err-data c =
    data_refused _ layout_08 (idm c.in_ok-idm.ensures) no_selector_read (codes c.in_ok-service_codes.ensures) no_codes_read (blocks c.in_ok-blocks.ensures)
    c.in_err-data.ensures _ c.from_residual-in_err-data.ensures.1

pub returns-in_err-take_end : goal.returns-in_err-take_end
returns-in_err-take_end c =
    ending_refused _ layout_08 (idm c.in_ok-idm.ensures) no_selector_read (codes c.in_ok-service_codes.ensures) no_codes_read (blocks c.in_ok-blocks.ensures) (data_bytes c.in_ok-data.ensures)
    c.in_err-take_end.ensures _ c.from_residual-in_err-take_end.ensures.1

pub returns : goal.returns
returns c =
    rw c.bare.ensures
    (accepted _ layout_08 (idm c.in_ok-idm.ensures) no_selector_read (codes c.in_ok-service_codes.ensures) no_codes_read (blocks c.in_ok-blocks.ensures) (data_bytes c.in_ok-data.ensures) (ending c.in_ok-take_end.ensures)
    c.bare.ensures refl refl)
