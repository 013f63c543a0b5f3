-- The room for an answer.
-- Assumes nothing.
use Rattle.std.specs.Prelude.{ℕ, ◌≤◌, ◌<◌, List, length, Result}
use Rattle.felica_calls.specs.declared.fault.Fault.{Fault}
use Rattle.felica_calls.specs.declared.call.Call.{Call}
use Rattle.felica_answering.specs.Answers.{AnswerText, max_call_bytes}

-- Room for any answer and its line feed.
abbrev pub answer_room : ℕ
answer_room = 33024

-- Every answer to a call of no more bytes is shorter (proofs/Length.antt).
abbrev pub AnswersFit : Type 0
AnswersFit =
    (line : List ℕ) (call : Result Call Fault) (bytes text : List ℕ) → length bytes ≤ max_call_bytes → AnswerText line call bytes text → length text < answer_room
