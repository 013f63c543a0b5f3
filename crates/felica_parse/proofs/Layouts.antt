-- The layout of each plain code, its ranges as rows of the table of bounds.
-- Assumes nothing.
use Rattle.std.proofs.Common.{ℕ, refl, true, false, ⊎_elim}
use Rattle.felica_format.specs.Layout.{no_selector, type_byte, any_byte, no_codes, ◌to◌, bytes, word, words, reserved, polling, parameter, bare}
use Rattle.felica_format.specs.Layout.{nothing, layout, plain_rows, secure_rows, has, layout_in, layout_of, bounds_at}
use Rattle.felica_cursor.proofs.Walk.{HasLayout}
use Rattle.felica_parse.specs.Codes.{CodeListCode, IdmAloneCode, WordCode, ReservedCode}

pub layout_00 : HasLayout 0x00 (layout false no_selector no_codes no_codes false false polling nothing)
unfolding layout_of layout_in has plain_rows secure_rows bounds_at
layout_00 = record { is = refl }

pub code_list_layout : (code : ℕ) → CodeListCode code → HasLayout code (layout true no_selector ((bounds_at 1).least to (bounds_at 1).greatest) no_codes false false bare nothing)
unfolding layout_of layout_in has plain_rows secure_rows bounds_at
code_list_layout code = ⊎_elim (λ e. record { is = rw e refl }) (⊎_elim (λ e. record { is = rw e refl }) (⊎_elim (λ e. record { is = rw e refl }) (λ e. record { is = rw e refl })))

pub idm_alone_layout : (code : ℕ) → IdmAloneCode code → HasLayout code (layout true no_selector no_codes no_codes false false bare nothing)
unfolding layout_of layout_in has plain_rows secure_rows bounds_at
idm_alone_layout code = ⊎_elim (λ e. record { is = rw e refl }) (⊎_elim (λ e. record { is = rw e refl }) (λ e. record { is = rw e refl }))

pub layout_06 : HasLayout 0x06 (layout true no_selector ((bounds_at 3).least to (bounds_at 3).greatest) no_codes true false bare nothing)
unfolding layout_of layout_in has plain_rows secure_rows bounds_at
layout_06 = record { is = refl }

pub layout_08 : HasLayout 0x08 (layout true no_selector ((bounds_at 4).least to (bounds_at 4).greatest) no_codes true true bare nothing)
unfolding layout_of layout_in has plain_rows secure_rows bounds_at
layout_08 = record { is = refl }

pub word_layout : (code : ℕ) → WordCode code → HasLayout code (layout true no_selector no_codes no_codes false false word nothing)
unfolding layout_of layout_in has plain_rows secure_rows bounds_at
word_layout code = ⊎_elim (λ e. record { is = rw e refl }) (λ e. record { is = rw e refl })

pub layout_10 : HasLayout 0x10 (layout true no_selector ((bounds_at 8).least to (bounds_at 8).greatest) ((bounds_at 8).least to (bounds_at 8).greatest) false false (bytes 8) nothing)
unfolding layout_of layout_in has plain_rows secure_rows bounds_at
layout_10 = record { is = refl }

pub layout_12 : HasLayout 0x12 (layout true no_selector no_codes no_codes false false (bytes 8) nothing)
unfolding layout_of layout_in has plain_rows secure_rows bounds_at
layout_12 = record { is = refl }

pub layout_1a : HasLayout 0x1A (layout true no_selector no_codes no_codes false false words nothing)
unfolding layout_of layout_in has plain_rows secure_rows bounds_at
layout_1a = record { is = refl }

pub layout_20 : HasLayout 0x20 (layout true no_selector no_codes no_codes false false parameter nothing)
unfolding layout_of layout_in has plain_rows secure_rows bounds_at
layout_20 = record { is = refl }

pub reserved_layout : (code : ℕ) → ReservedCode code → HasLayout code (layout true no_selector no_codes no_codes false false reserved nothing)
unfolding layout_of layout_in has plain_rows secure_rows bounds_at
reserved_layout code = ⊎_elim (λ e. record { is = rw e refl }) (⊎_elim (λ e. record { is = rw e refl }) (⊎_elim (λ e. record { is = rw e refl }) (λ e. record { is = rw e refl })))

pub layout_28 : HasLayout 0x28 (layout true type_byte ((bounds_at 15).least to (bounds_at 15).greatest) no_codes false false bare nothing)
unfolding layout_of layout_in has plain_rows secure_rows bounds_at
layout_28 = record { is = refl }

pub layout_2e : HasLayout 0x2E (layout false no_selector no_codes no_codes false false word nothing)
unfolding layout_of layout_in has plain_rows secure_rows bounds_at
layout_2e = record { is = refl }

pub layout_40 : HasLayout 0x40 (layout true any_byte ((bounds_at 22).least to (bounds_at 22).greatest) no_codes false false (bytes 16) nothing)
unfolding layout_of layout_in has plain_rows secure_rows bounds_at
layout_40 = record { is = refl }

pub layout_42 : HasLayout 0x42 (layout true no_selector no_codes no_codes false false (bytes 16) nothing)
unfolding layout_of layout_in has plain_rows secure_rows bounds_at
layout_42 = record { is = refl }

pub layout_70 : HasLayout 0x70 (layout false no_selector no_codes no_codes false false reserved nothing)
unfolding layout_of layout_in has plain_rows secure_rows bounds_at
layout_70 = record { is = refl }
