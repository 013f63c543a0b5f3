-- The form of an element, and two frames of one command: the statements of specs/Long.antt that need no choice of forms, each proved under its name.
-- Assumes nothing.
use Rattle.std.proofs.Common.{refl, [], ◌∷◌, ◌++◌}
use Rattle.felica_format.specs.Basic.{◌and◌, bind, refuse_if}
use Rattle.felica_format.specs.Command.{command_of, no_fields}
use Rattle.felica_format.specs.Layout.{plain_rows, secure_rows, has, class_of, layout_in, layout_of}
use Rattle.felica_format.specs.Read.{read_idm, read_selector, read_count, read_words, words_of, read_codes, read_short, read_long, read_element, read_each, read_elements}
use Rattle.felica_format.specs.Read.{read_data, read_ending, read_values, read_package, read_body, read_payload, read_frame}
use Rattle.felica_format.specs.Examples.{I8, one_element}
use Rattle.felica_format.specs.Long.{FormTold, CountsDiffer}
use Rattle.felica_format.proofs.Elements.{short_back, long_back}

pub form_told : FormTold
form_told e rest ok = (λ small. short_back e ok small rest, long_back e ok rest)

pub counts_differ : CountsDiffer
unfolding ◌and◌ bind refuse_if read_frame read_payload read_body read_idm read_selector read_codes read_count read_words words_of read_elements read_each read_element read_short read_long read_data read_ending read_values read_package class_of layout_of has layout_in plain_rows secure_rows
counts_differ = (
  command_of 0x06 I8 0 (0x100B ∷ []) [] one_element [] no_fields [],
  0x10 ∷ 0x06 ∷ (I8 ++ (0x01 ∷ 0x0B ∷ 0x10 ∷ 0x01 ∷ 0x80 ∷ 0x05 ∷ [])),
  0x11 ∷ 0x06 ∷ (I8 ++ (0x01 ∷ 0x0B ∷ 0x10 ∷ 0x01 ∷ 0x00 ∷ 0x05 ∷ 0x00 ∷ [])),
  refl,
  refl,
  refl,
  refl,
)
