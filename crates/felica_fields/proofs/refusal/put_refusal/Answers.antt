-- `felica_fields::refusal::put_refusal` meets its contract.
-- Assumes nothing.
use Rattle.std.proofs.Common.{◌∙◌}
use Rattle.felica_put.proofs.Laws.{puts_then}
use Rattle.felica_fields.proofs.refusal.put_refusal.Goals as goal

pub returns-in_default : goal.returns-in_default
returns-in_default c =
    let number = c.from.ensures ∙ c.number.ensures in
    rw (c.in_default.is, ← number) (puts_then c.put_all.ensures (puts_then c.put_decimal.ensures c.put_all-in_default.ensures))

pub returns : goal.returns
returns c =
    let number = c.from.ensures ∙ c.number.ensures in
    rw (c.in-Some.is, ← number) (puts_then c.put_all.ensures (puts_then c.put_decimal.ensures (puts_then c.put.ensures c.put_hex_byte.ensures)))
