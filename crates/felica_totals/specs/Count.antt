-- The totals of a listing, brought up to date record by record.
-- Assumes nothing.
use Rattle.std.specs.Prelude.{ℕ, ◌+◌, ◌^◌, Bool, true, false, cond, ltb, None, Some}
use Rattle.std.specs.declared.option.Option.{Option}
use Rattle.felica_format.specs.Basic.{◌and◌}
use Rattle.felica_totals.specs.declared.Totals.{Totals}

-- "records, accepted, refused, blocks in accepted frames"
abbrev pub totals : ℕ → ℕ → ℕ → ℕ → Totals
totals records accepted refused blocks = record { records = records; accepted = accepted; refused = refused; blocks = blocks }

abbrev pub no_totals : Totals
no_totals = totals 0 0 0 0

-- after one more record, which was accepted with so many blocks or refused
abbrev pub counted : Totals → Bool → ℕ → Totals
counted t true blocks = totals (t.records + 1) (t.accepted + 1) t.refused (t.blocks + blocks)
counted t false blocks = totals (t.records + 1) t.accepted (t.refused + 1) t.blocks

-- no total passes its width by one more record of so many blocks, whether it is accepted or refused
unfoldable pub has_room : Totals → ℕ → Bool
has_room t blocks =
    ltb (t.records + 1) (2 ^ 64) and ltb (t.accepted + 1) (2 ^ 64) and ltb (t.refused + 1) (2 ^ 64) and ltb (t.blocks + blocks) (2 ^ 64)

-- totals without room stay as they are
unfoldable pub counted_within : Totals → Bool → ℕ → Totals
counted_within t accepted blocks = cond (has_room t blocks) (counted t accepted blocks) t

-- the same of a record by the blocks that it was accepted with, if it was; a refused one has none
abbrev pub counted_record : Totals → Option ℕ → Totals
counted_record t (Some blocks) = counted_within t true blocks
counted_record t None = counted_within t false 0
