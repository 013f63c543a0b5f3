-- `parse_code_list` meets its contract: each part of its layout is read by a step, or lacking.
-- Assumes nothing.
use Rattle.std.proofs.Common.{refl}
use Rattle.felica_cursor.proofs.Walk.{idm, no_selector_read, codes, no_codes_read, no_blocks, no_data, ending, idm_refused, first_refused, ending_refused, accepted}
use Rattle.felica_parse.proofs.Layouts.{code_list_layout}
use Rattle.felica_parse.proofs.plain.parse_code_list.Goals as goal

pub returns-in_err-idm : goal.returns-in_err-idm
returns-in_err-idm c = idm_refused c.args.start (code_list_layout _ c.requires) c.in_err-idm.ensures _ c.from_residual.ensures.1

pub returns-in_err-codes : goal.returns-in_err-codes
returns-in_err-codes c = first_refused _ (code_list_layout _ c.requires) (idm c.in_ok-idm.ensures) no_selector_read c.in_err-codes.ensures _ c.from_residual-in_err-codes.ensures.1

pub returns-in_err-take_end : goal.returns-in_err-take_end
returns-in_err-take_end c =
    ending_refused _ (code_list_layout _ c.requires) (idm c.in_ok-idm.ensures) no_selector_read (codes c.in_ok-codes.ensures) no_codes_read no_blocks no_data
    c.in_err-take_end.ensures _ c.from_residual-in_err-take_end.ensures.1

pub returns : goal.returns
returns c =
    rw c.bare.ensures
    (accepted _ (code_list_layout _ c.requires) (idm c.in_ok-idm.ensures) no_selector_read (codes c.in_ok-codes.ensures) no_codes_read no_blocks no_data (ending c.in_ok-take_end.ensures)
    c.bare.ensures c.code_list_kind.ensures refl)
