-- `Cursor::take_polling` meets its contract.
-- Assumes nothing.
use Rattle.std.proofs.Common.{◌≡◌, ◌+◌, true, false, not, get_or, refl, sym, ap, ◌∙◌}
use Rattle.std.proofs.Math.Dec.{ltb}
use Rattle.std.proofs.lemmas.List.{get_or-drop}
use Rattle.felica_format.specs.Basic.{refuse_if}
use Rattle.felica_format.specs.Layout.{polling}
use Rattle.felica_format.specs.Read.{read_values}
use Rattle.felica_cursor.proofs.Laws.{not_measured, ending_taken, ltb_not_leb, polling_values}
use Rattle.felica_cursor.proofs.cursor.Cursor.take_polling.Goals as goal

pub returns-in_err-measure : goal.returns-in_err-measure
returns-in_err-measure c = not_measured polling _ _ _ c.in_err-measure.ensures c.from_residual.ensures

pub returns-then-not-is_polling_request_code : goal.returns-then-not-is_polling_request_code
unfolding read_values refuse_if
returns-then-not-is_polling_request_code c =
    let b = get_or c.args.self.payload.now (c.args.self.at + 2) 0 in
    let request : ltb 2 b ≡ true = ltb_not_leb b 2 ∙ ap not (sym c.is_polling_request_code.ensures ∙ c.if-not-is_polling_request_code.true) in
    record { read = simp (ending_taken polling _ _ _ c.in_ok-measure.ensures.read, get_or-drop, request); placed = tt }

pub returns-then-not-is_polling_time_slot : goal.returns-then-not-is_polling_time_slot
unfolding read_values refuse_if
returns-then-not-is_polling_time_slot c =
    let b = get_or c.args.self.payload.now (c.args.self.at + 2) 0 in
    let request : ltb 2 b ≡ false = ltb_not_leb b 2 ∙ ap not (sym c.is_polling_request_code.ensures ∙ c.if-not-is_polling_request_code.false) in
    record {
      read = simp (ending_taken polling _ _ _ c.in_ok-measure.ensures.read, get_or-drop, request, sym c.is_polling_time_slot.ensures, c.if-not-is_polling_time_slot.true);
      placed = tt;
    }

pub returns : goal.returns
returns c =
    let s = c.args.self.payload.now in
    let at = c.args.self.at in
    let request : ltb 2 (get_or s (at + 2) 0) ≡ false =
    ltb_not_leb (get_or s (at + 2) 0) 2 ∙ ap not (sym c.is_polling_request_code.ensures ∙ c.if-not-is_polling_request_code.false) in
    let slots = sym c.is_polling_time_slot.ensures ∙ c.if-not-is_polling_time_slot.false in
    record { read = ending_taken polling _ _ _ c.in_ok-measure.ensures.read ∙ rw c.word_of.ensures (polling_values s at request slots); placed = refl }
