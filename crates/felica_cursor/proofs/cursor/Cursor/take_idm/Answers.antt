-- `Cursor::take_idm` meets its contract.
-- Assumes nothing.
use Rattle.std.proofs.Common.{◌≡◌, ◌+◌, ◌-◌, arith, refl, sym}
use Rattle.std.proofs.lemmas.Bool.{lt-ltb, le-ltb}
use Rattle.std.proofs.lemmas.List.{drop-drop}
use Rattle.felica_format.specs.Basic.{refuse_if}
use Rattle.felica_format.specs.Read.{read_idm}
use Rattle.felica_cursor.proofs.cursor.Cursor.take_idm.Goals as goal

pub returns-then-left-lt-IDM_LEN : goal.returns-then-left-lt-IDM_LEN
unfolding read_idm refuse_if
returns-then-left-lt-IDM_LEN c = record { read = simp (sym c.left.ensures, lt-ltb _ _ c.if-left-lt-IDM_LEN.true); placed = tt }

pub returns : goal.returns
unfolding read_idm refuse_if
returns c =
    let eight : c.args.self.at + 8 - c.args.self.at ≡ 8 = omega arith in
    record { read = simp (sym c.left.ensures, le-ltb _ _ c.if-left-lt-IDM_LEN.false, drop-drop, c.copy_from_slice.ensures.after, eight); placed = refl }
