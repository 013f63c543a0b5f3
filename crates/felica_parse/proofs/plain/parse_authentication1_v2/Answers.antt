-- `parse_authentication1_v2` meets its contract: each part of its layout is read by a step, or lacking.
-- Assumes nothing.
use Rattle.std.proofs.Common.{refl}
use Rattle.felica_cursor.proofs.Walk.{idm, selector, codes, no_codes_read, no_blocks, no_data, ending, idm_refused, selector_refused, first_refused, ending_refused, accepted}
use Rattle.felica_parse.proofs.Layouts.{layout_40}
use Rattle.felica_parse.proofs.plain.parse_authentication1_v2.Goals as goal

pub returns-in_err-idm : goal.returns-in_err-idm
returns-in_err-idm c = idm_refused c.args.start layout_40 c.in_err-idm.ensures _ c.from_residual.ensures.1

pub returns-in_err-operation_parameter : goal.returns-in_err-operation_parameter
returns-in_err-operation_parameter c = selector_refused _ layout_40 (idm c.in_ok-idm.ensures) c.in_err-operation_parameter.ensures _ c.from_residual-in_err-operation_parameter.ensures.1

pub returns-in_err-nodes : goal.returns-in_err-nodes
returns-in_err-nodes c = first_refused _ layout_40 (idm c.in_ok-idm.ensures) (selector c.in_ok-operation_parameter.ensures) c.in_err-nodes.ensures _ c.from_residual-in_err-nodes.ensures.1

pub returns-in_err-challenge : goal.returns-in_err-challenge
returns-in_err-challenge c =
    ending_refused _ layout_40 (idm c.in_ok-idm.ensures) (selector c.in_ok-operation_parameter.ensures) (codes c.in_ok-nodes.ensures) no_codes_read no_blocks no_data
    c.in_err-challenge.ensures _ c.from_residual-in_err-challenge.ensures.1

pub returns : goal.returns
returns c =
    rw c.bare.ensures
    (accepted _ layout_40 (idm c.in_ok-idm.ensures) (selector c.in_ok-operation_parameter.ensures) (codes c.in_ok-nodes.ensures) no_codes_read no_blocks no_data (ending c.in_ok-challenge.ensures)
    c.bare.ensures refl refl)
