-- `felica_calls::bytes::read_bytes` meets its contract.
-- Assumes nothing.
use Rattle.std.proofs.Common.{◌≡◌, false, ap, sym, ◌∙◌, length, rules}
use Rattle.felica_put.specs.Put.{put}
use Rattle.felica_calls.specs.Field.{is_byte}
use Rattle.felica_calls.specs.Bytes.{bytes_of, has_zero_x}
use Rattle.felica_calls.proofs.Reading.{bytes_read}
use Rattle.felica_calls.proofs.bytes.read_bytes.Goals as goal

pub returns : goal.returns
returns c =
    let s = c.args.field.now in
    let some : (length s ≡ 0 → ⊥) = search rules in
    let other : is_byte 45 s ≡ false = search rules in
    let bare : has_zero_x s ≡ false = sym c.has_zero_x.ensures ∙ c.if-has_zero_x.false in
    let front = bytes_read s c.args.bytes.now some other bare (sym c.all_digits.ensures ∙ c.if-not-all_digits.false) c.if-field-eq1.false c.if-bytes-count.false
    (c.decode.ensures.held ∙ ap (λ b. put b (bytes_of s)) c.new.ensures.empty) in
    search (rules, front)
