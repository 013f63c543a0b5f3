-- `felica_text::put::put_nibbles` puts each entry as nibble_text says.
-- Assumes nothing.
use Rattle.felica_text.specs.Text.{nibble_text}
use Rattle.felica_text.proofs.put.put_nibbles.Given as goal

abbrev pub ghost-put_parted : goal.ghost-put_parted
ghost-put_parted a = nibble_text
