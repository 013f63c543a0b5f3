-- `Cursor::take_parameter` meets its contract: the tests in their order.
-- Assumes nothing.
use Rattle.std.proofs.Common.{◌+◌, get_or, add-zero, refl, sym, ◌∙◌}
use Rattle.std.proofs.lemmas.List.{drop-drop, get_or-drop}
use Rattle.felica_format.specs.Basic.{refuse_if}
use Rattle.felica_format.specs.Layout.{parameter}
use Rattle.felica_format.specs.Read.{read_values}
use Rattle.felica_command.proofs.Typed.{encryption_defined, encryption_undefined, packet_defined, packet_undefined}
use Rattle.felica_cursor.proofs.Laws.{not_measured, ending_taken, zero_drop}
use Rattle.felica_cursor.proofs.cursor.Cursor.take_parameter.Goals as goal
use Rattle.felica_cursor.proofs.cursor.Cursor.take_parameter.Goals.{then-not-all_zero-via-then-not-all_zero, then-not-all_zero-via-else-not-all_zero+then-not-all_zero-2}

pub returns-in_err-measure : goal.returns-in_err-measure
returns-in_err-measure c = not_measured parameter _ _ _ c.in_err-measure.ensures c.from_residual.ensures

pub returns-then-not-all_zero : goal.returns-then-not-all_zero
unfolding read_values refuse_if
returns-then-not-all_zero c =
    let size = ending_taken parameter _ _ _ c.in_ok-measure.ensures.read in
    elim c.then-not-all_zero.branch [
      | then-not-all_zero-via-then-not-all_zero w ↦
          record { read = simp (size, zero_drop, add-zero, sym c.all_zero.ensures, w.if-not-all_zero.true); placed = tt }
      | then-not-all_zero-via-else-not-all_zero+then-not-all_zero-2 w ↦
          record {
            read = simp (size, zero_drop, add-zero, sym c.all_zero.ensures, w.if-not-all_zero.false, sym w.all_zero-else-not-all_zero.ensures, w.if-not-all_zero-2.true);
            placed = tt;
          }
    ]

pub returns-in_default : goal.returns-in_default
unfolding read_values refuse_if
returns-in_default c =
    let size = ending_taken parameter _ _ _ c.in_ok-measure.ensures.read in
    let s = c.args.self.payload.now in
    let undefined = encryption_undefined (get_or s (c.args.self.at + 4) 0) (sym c.from_byte.ensures ∙ c.in_default.is) in
    record {
      read = simp
          (size, zero_drop, add-zero, sym c.all_zero.ensures, c.if-not-all_zero.false, sym c.all_zero-else-not-all_zero.ensures, c.if-not-all_zero-2.false)
          (simp (get_or-drop, undefined));
      placed = tt;
    }

pub returns-in_default-from_byte : goal.returns-in_default-from_byte
unfolding read_values refuse_if
returns-in_default-from_byte c =
    let size = ending_taken parameter _ _ _ c.in_ok-measure.ensures.read in
    let s = c.args.self.payload.now in
    let encryption = encryption_defined (get_or s (c.args.self.at + 4) 0) _ (sym c.from_byte.ensures ∙ c.in-Some.is) in
    let undefined = packet_undefined (get_or s (c.args.self.at + 5) 0) (sym c.from_byte-2.ensures ∙ c.in_default-from_byte.is) in
    record {
      read = simp
          (size, zero_drop, add-zero, sym c.all_zero.ensures, c.if-not-all_zero.false, sym c.all_zero-else-not-all_zero.ensures, c.if-not-all_zero-2.false)
          (simp (get_or-drop, encryption.0, undefined));
      placed = tt;
    }

pub returns : goal.returns
unfolding read_values refuse_if
returns c =
    let size = ending_taken parameter _ _ _ c.in_ok-measure.ensures.read in
    let s = c.args.self.payload.now in
    let encryption = encryption_defined (get_or s (c.args.self.at + 4) 0) _ (sym c.from_byte.ensures ∙ c.in-Some.is) in
    let packet = packet_defined (get_or s (c.args.self.at + 5) 0) _ (sym c.from_byte-2.ensures ∙ c.in-Some-from_byte.is) in
    record {
      read = simp
          (size, zero_drop, add-zero, sym c.all_zero.ensures, c.if-not-all_zero.false, sym c.all_zero-else-not-all_zero.ensures, c.if-not-all_zero-2.false)
          (simp (get_or-drop, encryption.0, packet.0, drop-drop) (rw (encryption.1, packet.1)));
      placed = refl;
    }
