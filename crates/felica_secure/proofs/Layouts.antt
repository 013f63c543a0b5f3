-- The layout of each secure code.
-- Assumes nothing.
use Rattle.std.proofs.Common.{ℕ, refl, true, false, ⊎_elim}
use Rattle.felica_format.specs.Layout.{no_selector, no_codes, bytes, word, bare, nothing, ignored_bytes, a_package, layout, plain_rows, secure_rows, has}
use Rattle.felica_format.specs.Layout.{layout_in, layout_of}
use Rattle.felica_cursor.proofs.Walk.{HasLayout}
use Rattle.felica_secure.specs.Codes.{ReadCode, WriteCode, RegisterCode}

pub read_layout : (code : ℕ) → ReadCode code → HasLayout code (layout false no_selector no_codes no_codes true false bare ignored_bytes)
unfolding layout_of layout_in has plain_rows secure_rows
read_layout code = ⊎_elim (λ e. record { is = rw e refl }) (λ e. record { is = rw e refl })

pub write_layout : (code : ℕ) → WriteCode code → HasLayout code (layout false no_selector no_codes no_codes true true bare ignored_bytes)
unfolding layout_of layout_in has plain_rows secure_rows
write_layout code = ⊎_elim (λ e. record { is = rw e refl }) (λ e. record { is = rw e refl })

pub layout_80 : HasLayout 0x80 (layout false no_selector no_codes no_codes false false (bytes 16) a_package)
unfolding layout_of layout_in has plain_rows secure_rows
layout_80 = record { is = refl }

pub register_layout : (code : ℕ) → RegisterCode code → HasLayout code (layout false no_selector no_codes no_codes false false word a_package)
unfolding layout_of layout_in has plain_rows secure_rows
register_layout code = ⊎_elim (λ e. record { is = rw e refl }) (λ e. record { is = rw e refl })

pub layout_8e : HasLayout 0x8E (layout false no_selector no_codes no_codes false false bare nothing)
unfolding layout_of layout_in has plain_rows secure_rows
layout_8e = record { is = refl }
