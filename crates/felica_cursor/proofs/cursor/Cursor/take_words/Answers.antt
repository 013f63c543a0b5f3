-- `Cursor::take_words` meets its contract.
-- Assumes nothing.
use Rattle.std.proofs.Common.{refl, add-zero}
use Rattle.std.proofs.lemmas.List.{drop-drop}
use Rattle.felica_format.specs.Layout.{words}
use Rattle.felica_format.specs.Read.{read_values}
use Rattle.felica_cursor.proofs.Laws.{not_measured, ending_taken, word_drop}
use Rattle.felica_cursor.proofs.cursor.Cursor.take_words.Goals as goal

pub returns-in_err-measure : goal.returns-in_err-measure
returns-in_err-measure c = not_measured words _ _ _ c.in_err-measure.ensures c.from_residual.ensures

pub returns : goal.returns
unfolding read_values
returns c = record { read = simp (ending_taken words _ _ _ c.in_ok-measure.ensures.read, word_drop, add-zero, c.word_at.ensures, c.word_at-2.ensures, drop-drop); placed = refl }
