-- `Cursor::take_reserved` meets its contract.
-- Assumes nothing.
use Rattle.std.proofs.Common.{refl, sym, add-zero}
use Rattle.std.proofs.lemmas.List.{drop-drop}
use Rattle.felica_format.specs.Basic.{refuse_if}
use Rattle.felica_format.specs.Layout.{reserved}
use Rattle.felica_format.specs.Read.{read_values}
use Rattle.felica_cursor.proofs.Laws.{not_measured, ending_taken, zero_drop}
use Rattle.felica_cursor.proofs.cursor.Cursor.take_reserved.Goals as goal

pub returns-in_err-measure : goal.returns-in_err-measure
returns-in_err-measure c = not_measured reserved _ _ _ c.in_err-measure.ensures c.from_residual.ensures

pub returns-then-not-all_zero : goal.returns-then-not-all_zero
unfolding read_values refuse_if
returns-then-not-all_zero c =
    record { read = simp (ending_taken reserved _ _ _ c.in_ok-measure.ensures.read, zero_drop, add-zero, sym c.all_zero.ensures, c.if-not-all_zero.true); placed = tt }

pub returns : goal.returns
unfolding read_values refuse_if
returns c =
    record { read = simp (ending_taken reserved _ _ _ c.in_ok-measure.ensures.read, zero_drop, add-zero, sym c.all_zero.ensures, c.if-not-all_zero.false, drop-drop); placed = refl }
