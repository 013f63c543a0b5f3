-- `parse_idm_and_word` meets its contract: each part of its layout is read by a step, or lacking.
-- Assumes nothing.
use Rattle.std.proofs.Common.{refl}
use Rattle.felica_cursor.proofs.Walk.{idm, ending, idm_refused, fixed_refused, fixed_accepted}
use Rattle.felica_parse.proofs.Layouts.{word_layout}
use Rattle.felica_parse.proofs.plain.parse_idm_and_word.Goals as goal

pub returns-in_err-idm : goal.returns-in_err-idm
returns-in_err-idm c = idm_refused c.args.start (word_layout _ c.requires) c.in_err-idm.ensures _ c.from_residual.ensures.1

pub returns-in_err-number : goal.returns-in_err-number
returns-in_err-number c = fixed_refused _ (word_layout _ c.requires) (idm c.in_ok-idm.ensures) c.in_err-number.ensures _ c.from_residual-in_err-number.ensures.1

pub returns : goal.returns
returns c = rw c.bare.ensures (fixed_accepted _ (word_layout _ c.requires) (idm c.in_ok-idm.ensures) (ending c.in_ok-number.ensures) c.bare.ensures c.word_kind.ensures refl)
