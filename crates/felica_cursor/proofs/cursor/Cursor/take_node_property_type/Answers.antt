-- `Cursor::take_node_property_type` meets its contract: the byte is taken, then tested.
-- Assumes nothing.
use Rattle.std.proofs.Math.Dec.{ltb}
use Rattle.std.proofs.Common.{ℕ, List, [], ◌∷◌, refl, sym, ◌∙◌, ◌≡◌}
use Rattle.felica_format.specs.Basic.{taken, refuse, refuse_if}
use Rattle.felica_format.specs.Layout.{type_byte, any_byte}
use Rattle.felica_format.specs.Read.{read_selector}
use Rattle.felica_format.proofs.Steps.{none_taken}
use Rattle.felica_command.proofs.Typed.{property_defined, property_undefined}
use Rattle.felica_cursor.proofs.Laws.{refused}
use Rattle.felica_cursor.proofs.cursor.Cursor.take_node_property_type.Goals as goal

-- where any byte is refused, so is the type byte, and where one is taken it is tested
both_refused : (s : List ℕ) (n : ℕ) → read_selector any_byte s ≡ refuse n → read_selector type_byte s ≡ refuse n
unfolding read_selector
both_refused [] n e = e
both_refused (b ∷ s) n e = cc

then_tested : (s r : List ℕ) (n : ℕ) → read_selector any_byte s ≡ taken n r → read_selector type_byte s ≡ refuse_if (ltb 1 n) 19 (taken n r)
unfolding read_selector
then_tested [] r n e = absurd (none_taken e)
then_tested (b ∷ s) r n e = let same : b ≡ n = cc in let rest : s ≡ r = cc in rw (same, rest) refl

pub returns-in_err-byte : goal.returns-in_err-byte
returns-in_err-byte c = refused _ _ c.from_residual.ensures (both_refused _ _ c.in_err-byte.ensures.read)

pub returns-in_default : goal.returns-in_default
unfolding refuse_if
returns-in_default c =
    let undefined = property_undefined c.in_ok-byte.byte (sym c.from_byte.ensures ∙ c.in_default.is) in
    record { read = then_tested _ _ _ c.in_ok-byte.ensures.read ∙ rw undefined refl; placed = tt }

pub returns : goal.returns
unfolding refuse_if
returns c =
    let defined = property_defined c.in_ok-byte.byte c.in-Some.node_property_type (sym c.from_byte.ensures ∙ c.in-Some.is) in
    record { read = then_tested _ _ _ c.in_ok-byte.ensures.read ∙ rw (defined.0, defined.1) refl; placed = c.in_ok-byte.ensures.placed }
