-- A call has one answer.
-- Assumes nothing.
use Rattle.std.proofs.Common.{sym, ap, ◌∙◌, take, Ok, Err}
use Rattle.felica_command.proofs.OneAccount.{one_account}
use Rattle.felica_calls.specs.declared.call.Call.TheVariants.{Parse, Long, List as ListCall, Write}
use Rattle.felica_answers.specs.Answer.{line_of}
use Rattle.felica_answering.specs.Source.{reading_of, payload_in, body_at}
use Rattle.felica_answering.specs.Answers.{OneAnswer}

pub one_answer : OneAnswer
one_answer line (Ok (Parse source n)) bytes a b (p, account, is) (q, other, same) =
    let s = take n bytes in
    is ∙ ap (line_of (payload_in source s)) (one_account (payload_in source s) (body_at source) (reading_of source s) p q account other) ∙ sym same
one_answer line (Ok (Long source n)) bytes a b is same = is ∙ sym same
one_answer line (Ok (ListCall source n z)) bytes a b is same = is ∙ sym same
one_answer line (Ok (Write size code)) bytes a b is same = is ∙ sym same
one_answer line (Err fault) bytes a b is same = is ∙ sym same
