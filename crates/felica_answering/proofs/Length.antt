-- No answer is longer than its room.
-- Assumes nothing.
use Rattle.std.proofs.Common.{ℕ, ◌≤◌, ◌<◌, ◌≡◌, List, length, length-drop, take, arith}
use Rattle.std.proofs.lemmas.List.{length-replicate}
use Rattle.std.specs.Prelude.{Ok, Err}
use Rattle.felica_format.specs.Basic.{zeros}
use Rattle.felica_command.proofs.Few.{FewIn, payload_few, frame_few, secure_few}
use Rattle.felica_calls.specs.Write.{behind_code}
use Rattle.felica_calls.specs.Call.{without_cr}
use Rattle.felica_calls.specs.Fault.{fault_text}
use Rattle.felica_calls.specs.declared.fault.Fault.TheVariants.{LineTooLong}
use Rattle.felica_calls.specs.declared.source.Source.{Source}
use Rattle.felica_calls.specs.declared.source.Source.TheVariants.{Frame, Payload, Secure}
use Rattle.felica_calls.specs.declared.call.Call.TheVariants.{Parse, Long, List as ListCall, Write}
use Rattle.felica_calls.proofs.Counts.{call_kept}
use Rattle.felica_calls.proofs.Length.{fault_length}
use Rattle.felica_answers.proofs.Length.{take_few, answer_length, long_length, list_length}
use Rattle.felica_writing.proofs.Length.{write_length}
use Rattle.felica_answering.specs.Source.{reading_of, payload_in, body_at}
use Rattle.felica_answering.specs.Lists.{lent}
use Rattle.felica_answering.specs.Answers.{max_call_bytes, call_of, CallText}
use Rattle.felica_answering.specs.Room.{answer_room, AnswersFit}

source_few : (source : Source) (s : List ℕ) → FewIn (reading_of source s)
source_few Frame s = frame_few s
source_few Payload s = payload_few s
source_few (Secure code) s = secure_few code s

payload_short : (source : Source) (s : List ℕ) → length (payload_in source s) ≤ length s
payload_short Frame s = let behind = length-drop 1 s in omega (arith, behind)
payload_short Payload s = omega arith
payload_short (Secure code) s = omega arith

bytes_short : (source : Source) (n : ℕ) (bytes : List ℕ) → length bytes ≤ max_call_bytes → length (payload_in source (take n bytes)) ≤ max_call_bytes
bytes_short source n bytes h =
    let few = take_few n bytes in
    let short = payload_short source (take n bytes) in
    omega (arith, few, short, h)

fits : {text line : List ℕ} → text ≡ line → length line < answer_room → length text < answer_room
fits e h = rw e h

pub answers_fit : AnswersFit
answers_fit line (Ok (Parse source n)) bytes text h (p, account, is) =
    let long = answer_length (payload_in source (take n bytes)) (body_at source) (reading_of source (take n bytes)) p (source_few source (take n bytes)) (bytes_short source n bytes h) account in
    fits is (omega (arith, long))
answers_fit line (Ok (Long source n)) bytes text h is = let long = long_length (reading_of source (take n bytes)) (source_few source (take n bytes)) in fits is (omega (arith, long))
answers_fit line (Ok (ListCall source n z)) bytes text h is =
    let long = list_length (reading_of source (take n bytes)) (lent z) (source_few source (take n bytes)) in
    fits is (omega (arith, long))
answers_fit line (Ok (Write size code)) bytes text h is = let long = write_length size code (behind_code line) in fits is (omega (arith, long))
answers_fit line (Err fault) bytes text h is = let long = fault_length fault in fits is (omega (arith, long))

pub too_long_fits : length (fault_text LineTooLong) < answer_room
too_long_fits = let long = fault_length LineTooLong in omega (arith, long)

pub call_fits : (line text : List ℕ) → CallText line text → length text < answer_room
call_fits line text is =
    let size = call_kept (without_cr line) (zeros max_call_bytes) in
    answers_fit (without_cr line) (call_of line).answer (call_of line).buffer text (omega (arith, size, length-replicate {A = ℕ} max_call_bytes 0)) is
