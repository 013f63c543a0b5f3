-- `parse_authentication1` meets its contract: each part of its layout is read by a step, or lacking.
-- Assumes nothing.
use Rattle.std.proofs.Common.{refl}
use Rattle.felica_cursor.proofs.Walk.{idm, no_selector_read, codes, no_blocks, no_data, ending, idm_refused, first_refused, second_refused, ending_refused, accepted}
use Rattle.felica_parse.proofs.Layouts.{layout_10}
use Rattle.felica_parse.proofs.plain.parse_authentication1.Goals as goal

pub returns-in_err-idm : goal.returns-in_err-idm
returns-in_err-idm c = idm_refused c.args.start layout_10 c.in_err-idm.ensures _ c.from_residual.ensures.1

pub returns-in_err-areas : goal.returns-in_err-areas
returns-in_err-areas c = first_refused _ layout_10 (idm c.in_ok-idm.ensures) no_selector_read c.in_err-areas.ensures _ c.from_residual-in_err-areas.ensures.1

pub returns-in_err-services : goal.returns-in_err-services
returns-in_err-services c = second_refused _ layout_10 (idm c.in_ok-idm.ensures) no_selector_read (codes c.in_ok-areas.ensures) c.in_err-services.ensures _ c.from_residual-in_err-services.ensures.1

pub returns-in_err-challenge : goal.returns-in_err-challenge
returns-in_err-challenge c =
    ending_refused _ layout_10 (idm c.in_ok-idm.ensures) no_selector_read (codes c.in_ok-areas.ensures) (codes c.in_ok-services.ensures) no_blocks no_data
    c.in_err-challenge.ensures _ c.from_residual-in_err-challenge.ensures.1

pub returns : goal.returns
returns c =
    rw c.bare.ensures
    (accepted _ layout_10 (idm c.in_ok-idm.ensures) no_selector_read (codes c.in_ok-areas.ensures) (codes c.in_ok-services.ensures) no_blocks no_data (ending c.in_ok-challenge.ensures)
    c.bare.ensures refl refl)
