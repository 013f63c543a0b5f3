-- The tables of specs/Examples.antt, computed.
-- Assumes nothing.
use Rattle.std.proofs.Common.{refl}
use Rattle.felica_format.specs.Basic.{◌and◌, bind, refuse_if}
use Rattle.felica_format.specs.Layout.{plain_rows, secure_rows, has, class_of, layout_in, layout_of}
use Rattle.felica_format.specs.Read.{read_idm, read_selector, read_count, words_of, read_words, read_codes, read_short, read_long, read_element, read_each}
use Rattle.felica_format.specs.Read.{read_elements, read_data, is_time_slots, read_values, read_ending, read_package, read_body, read_payload, read_frame}
use Rattle.felica_text.specs.Text.{decimal_digits, decimal_text}
use Rattle.felica_line.specs.Line.{mark_field, accepted_text, record_line}
use Rattle.felica_log.specs.Listing.{front, total_line, listing_from, listing}
use Rattle.felica_log.specs.Examples.{AllSamplesListed, samples, AllListedUpTo, limit_samples}

-- opens all that reading and listing are made of
reading : Unit {0}
unfolding ◌and◌ bind refuse_if read_frame read_payload read_body read_idm read_selector read_codes read_count read_words words_of read_elements read_each read_element read_short read_long read_data read_ending read_values is_time_slots read_package class_of layout_of has layout_in plain_rows secure_rows
reading = tt

lining : Unit {0}
unfolding decimal_text decimal_digits mark_field accepted_text record_line front total_line listing_from listing
lining = tt

pub samples_listed : AllSamplesListed samples
unfolding samples reading lining
samples_listed = (refl, (refl, (refl, (refl, (refl, (refl, tt))))))

pub limit_samples_listed : AllListedUpTo 1 limit_samples
unfolding limit_samples reading lining
limit_samples_listed = (refl, (refl, (refl, tt)))
