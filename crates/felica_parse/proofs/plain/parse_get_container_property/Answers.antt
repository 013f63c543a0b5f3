-- `parse_get_container_property` meets its contract: each part of its layout is read by a step, or lacking.
-- Assumes nothing.
use Rattle.std.proofs.Common.{refl}
use Rattle.felica_cursor.proofs.Walk.{no_idm, ending, fixed_refused, fixed_accepted}
use Rattle.felica_command.proofs.Typed.{index_of_property, property_canonical}
use Rattle.felica_parse.proofs.Layouts.{layout_2e}
use Rattle.felica_parse.proofs.plain.parse_get_container_property.Goals as goal

pub returns-in_err-index : goal.returns-in_err-index
returns-in_err-index c = fixed_refused c.args.start layout_2e no_idm c.in_err-index.ensures _ c.from_residual.ensures.1

pub returns : goal.returns
returns c =
    rw c.bare.ensures
    (fixed_accepted c.args.start layout_2e no_idm (ending c.in_ok-index.ensures)
    c.bare.ensures (rw (c.from_index-property.ensures, index_of_property) refl) (property_canonical c.in_ok-index.index _ c.from_index-property.ensures))
