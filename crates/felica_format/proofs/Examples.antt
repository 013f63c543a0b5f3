-- The tables of specs/Examples.antt, computed.
-- Assumes nothing.
use Rattle.std.proofs.Common.{refl}
use Rattle.felica_format.specs.Basic.{◌and◌, bind, refuse_if}
use Rattle.felica_format.specs.Layout.{plain_rows, secure_rows, has, class_of, layout_in, layout_of}
use Rattle.felica_format.specs.Read.{read_idm, read_selector, read_count, words_of, read_words, read_codes, read_short, read_long, read_element, read_each}
use Rattle.felica_format.specs.Read.{read_elements, read_data, is_time_slots, read_values, read_ending, read_package, read_body, read_payload, read_frame, read_secure}
use Rattle.felica_format.specs.Examples.{AllAnswered, starred, slips, every_code}

-- opens all that reading is made of
reading : Unit {0}
unfolding ◌and◌ bind refuse_if read_frame read_payload read_secure read_body read_idm read_selector read_codes read_count read_words words_of read_elements read_each read_element read_short read_long read_data read_ending read_values is_time_slots read_package class_of layout_of has layout_in plain_rows secure_rows
reading = tt

pub starred_rows : AllAnswered starred
unfolding AllAnswered starred reading
starred_rows = refl

pub slips_caught : AllAnswered slips
unfolding AllAnswered slips reading
slips_caught = refl

pub every_code_read : AllAnswered every_code
unfolding AllAnswered every_code reading
every_code_read = refl
