-- `felica_writing::answer_write` meets its contract: of what is wrong with a field, its text and the name.
-- Assumes nothing.
use Rattle.std.proofs.Common.{le-ltb, sym, ap, ◌∙◌, length}
use Rattle.felica_put.proofs.Laws.{puts_then}
use Rattle.felica_named.specs.Names.{names}
use Rattle.felica_named.specs.Notes.{Noted, noted_by, note_from}
use Rattle.felica_writing.specs.Answer.{write_answer}
use Rattle.felica_writing.proofs.answer_write.Goals as goal

pub returns-in-Err : goal.returns-in-Err
unfolding write_answer
returns-in-Err c =
    let begun = ap (λ (n : Noted). note_from (length n.text) names n.text 0 n.starts) c.unread-named.ensures in
    let wrong = sym begun ∙ sym c.note_fields.ensures.noted ∙ ap (λ r. noted_by r c.note_fields.new.self.starts) c.in-Err.is in
    rw (le-ltb _ _ c.if-size-gt-MAX_ROOM.false, wrong)
    (puts_then (puts_then c.put_fault-in-Err.ensures c.put_all.ensures) (rw c.name.ensures at c.put_all-in-Err.ensures))
