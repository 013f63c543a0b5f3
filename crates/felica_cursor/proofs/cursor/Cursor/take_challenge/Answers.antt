-- `Cursor::take_challenge` meets its contract.
-- Assumes nothing.
use Rattle.std.proofs.Common.{ℕ, ◌≡◌, ◌+◌, ◌-◌, ◌++◌, take, drop, arith, refl, sym}
use Rattle.std.proofs.lemmas.Bool.{lt-ltb, le-ltb}
use Rattle.std.proofs.lemmas.List.{drop-drop, drop-replicate}
use Rattle.felica_format.specs.Basic.{refuse_if, zeros}
use Rattle.felica_format.specs.Read.{read_ending, read_values}
use Rattle.felica_cursor.specs.Taken.{rest}
use Rattle.felica_cursor.proofs.cursor.Cursor.take_challenge.Goals as goal

pub returns-then-left-size : goal.returns-then-left-size
unfolding read_ending refuse_if
returns-then-left-size c = record { read = simp (sym c.left.ensures, lt-ltb _ _ c.if-left-size.true); placed = tt }

pub returns : goal.returns
unfolding read_ending read_values refuse_if
returns c =
    let same : c.args.self.at + c.args.size - c.args.self.at ≡ c.args.size = omega arith in
    let bytes : take c.args.size (rest c.args.self) ++ zeros (16 - c.args.size) ≡ c.copy_from_slice.new.self ++ drop c.args.size (zeros 16) =
    rw (c.copy_from_slice.ensures.after, same, drop-replicate {X = ℕ} c.args.size 16 0) refl in
    record { read = simp (sym c.left.ensures, le-ltb _ _ c.if-left-size.false, drop-drop, bytes); placed = refl }
