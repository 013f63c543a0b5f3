-- `answer_list` lends buffers of the lengths of the call, and writes the line of what the list reader answers.
-- Assumes nothing.
use Rattle.std.proofs.Common.{ap, ◌∙◌, rules}
use Rattle.std.proofs.lemmas.List.{take-replicate}
use Rattle.felica_put.proofs.Lists.{puts_same}
use Rattle.felica_lists.specs.Lists.{Buffers, listed}
use Rattle.felica_lists.proofs.Lent.{buffers_of, same_buffers}
use Rattle.felica_answers.specs.Lists.{list_line, listed_text}
use Rattle.felica_answering.specs.Source.{reading_of, payload_in}
use Rattle.felica_answering.proofs.Listed.{listed_line}
use Rattle.felica_answering.proofs.lists.answer_list.Goals as goal

pub returns : goal.returns
returns c =
    let a = c.args in
    let h = c.requires in
    let account = c.list-parsed.ensures.listed in
    let kept = buffers_of c.list-parsed.new.buffers (search rules) (search rules) (search rules) (search rules) (search rules) in
    let lent = same_buffers (take-replicate _ 1024 0 h.0) (take-replicate _ 1024 0 h.1) (take-replicate _ 1024 0 h.2) (take-replicate _ 1024 0 h.3) (take-replicate _ 1024 0 h.4) in
    puts_same c.put_listed.ensures
    (ap (listed_text c.list-parsed.result) kept
    ∙ listed_line (payload_in a.source a.bytes.now) _ c.list-parsed.result (reading_of a.source a.bytes.now) _ account.0 account.3
    ∙ ap (λ (b : Buffers). list_line (listed (reading_of a.source a.bytes.now) b).answer) lent)
