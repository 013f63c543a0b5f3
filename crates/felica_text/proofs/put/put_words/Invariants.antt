-- `felica_text::put::put_words` puts each entry as word_text says.
-- Assumes nothing.
use Rattle.felica_text.specs.Text.{word_text}
use Rattle.felica_text.proofs.put.put_words.Given as goal

abbrev pub ghost-put_parted : goal.ghost-put_parted
ghost-put_parted a = word_text
