-- `parse_get_node_property` meets its contract: each part of its layout is read by a step, or lacking.
-- Assumes nothing.
use Rattle.std.proofs.Common.{refl}
use Rattle.felica_cursor.proofs.Walk.{idm, selector, codes, no_codes_read, no_blocks, no_data, ending, idm_refused, selector_refused, first_refused, ending_refused, accepted}
use Rattle.felica_parse.proofs.Layouts.{layout_28}
use Rattle.felica_parse.proofs.plain.parse_get_node_property.Goals as goal

pub returns-in_err-idm : goal.returns-in_err-idm
returns-in_err-idm c = idm_refused c.args.start layout_28 c.in_err-idm.ensures _ c.from_residual.ensures.1

pub returns-in_err-node_property_type : goal.returns-in_err-node_property_type
returns-in_err-node_property_type c = selector_refused _ layout_28 (idm c.in_ok-idm.ensures) c.in_err-node_property_type.ensures _ c.from_residual-in_err-node_property_type.ensures.1

pub returns-in_err-node_codes : goal.returns-in_err-node_codes
returns-in_err-node_codes c =
    first_refused _ layout_28 (idm c.in_ok-idm.ensures) (selector c.in_ok-node_property_type.ensures)
    c.in_err-node_codes.ensures _ c.from_residual-in_err-node_codes.ensures.1

pub returns-in_err-take_end : goal.returns-in_err-take_end
returns-in_err-take_end c =
    ending_refused _ layout_28 (idm c.in_ok-idm.ensures) (selector c.in_ok-node_property_type.ensures) (codes c.in_ok-node_codes.ensures) no_codes_read no_blocks no_data
    c.in_err-take_end.ensures _ c.from_residual-in_err-take_end.ensures.1

pub returns : goal.returns
returns c =
    rw c.bare.ensures
    (accepted _ layout_28 (idm c.in_ok-idm.ensures) (selector c.in_ok-node_property_type.ensures) (codes c.in_ok-node_codes.ensures) no_codes_read no_blocks no_data (ending c.in_ok-take_end.ensures)
    c.bare.ensures refl refl)
