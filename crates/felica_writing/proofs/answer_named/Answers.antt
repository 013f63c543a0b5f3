-- `felica_writing::answer_named` meets its contract: the fields are read, written, and the answer is put.
-- Assumes nothing.
use Rattle.std.proofs.Common.{ap, ◌∙◌, take}
use Rattle.std.proofs.lemmas.List.{take-replicate}
use Rattle.felica_format.specs.Basic.{zeros}
use Rattle.felica_put.proofs.Lists.{puts_same}
use Rattle.felica_named.specs.Handed.{command_named}
use Rattle.felica_named.specs.Named.{noted_in}
use Rattle.felica_write.specs.Writing.{writing}
use Rattle.felica_answers.specs.Written.{written_line}
use Rattle.felica_writing.proofs.Lines.{list_front, command_given}
use Rattle.felica_writing.proofs.answer_named.Goals as goal

pub returns : goal.returns
returns c =
    let a = c.args in
    let noted = noted_in a.named.now in
    let command = command_given a.code noted (zeros 1024) (zeros 1024) (zeros 1024) (zeros 2560) (zeros 2560) (zeros 16384) (zeros 16384) c.fixed.ensures
    (list_front (zeros 1024) _ c.list_in.ensures) (list_front (zeros 1024) _ c.list_in-2.ensures) (list_front (zeros 1024) _ c.list_in-3.ensures)
    (list_front (zeros 2560) _ c.list_in-4.ensures) (list_front (zeros 2560) _ c.list_in-5.ensures) c.bytes_in.ensures c.bytes_in-2.ensures in
    puts_same c.put_written.ensures
    (ap written_line (c.write-written.ensures ∙ ap (λ x. writing x (take a.size (zeros 16384))) command ∙ ap (writing (command_named a.code noted)) (take-replicate a.size 16384 0 c.requires)))
