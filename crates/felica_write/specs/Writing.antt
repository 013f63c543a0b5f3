-- The writer: what it answers, and what the lent buffer holds then.
-- Assumes nothing.
use Rattle.std.specs.Prelude.{ℕ, Bool, true, false, List, ◌++◌, length, drop, ltb, Result, Ok, Err}
use Rattle.std.specs.Prelude.{Option, None, Some}
use Rattle.felica_format.specs.Command.{Command}
use Rattle.felica_format.specs.Writable.{written}
use Rattle.felica_command.specs.declared.command.Refusal.{Refusal}
use Rattle.felica_format.specs.Reasons.{number_of}
use Rattle.felica_format.specs.declared.error.Reason.{Reason}
use Rattle.felica_command.specs.Meaning.{refusal as refused_for}

-- how many bytes were written; or the number of a refusal, and the code
pub data Answer : Type 0 where
  wrote : ℕ → Answer
  refused : ℕ → Option ℕ → Answer

-- a result of the writer, and what it says
abbrev pub Written : Type 0
Written = Result ℕ Refusal

abbrev pub meaning : Written → Answer
meaning (Ok n) = wrote n
meaning (Err why) = refused (number_of why.reason) why.command_code

abbrev pub refusal : Reason → ℕ → Written
refusal reason code = Err (refused_for reason (Some code))

-- an answer, and the buffer behind the call
pub record Outcome : Type 0 where
  pub answer : Answer
  pub buffer : List ℕ

abbrev pub outcome : Answer → List ℕ → Outcome
outcome answer buffer = record { answer = answer; buffer = buffer }

-- "21 comes exactly when the shortest form is longer than the buffer"; "bytes behind keep their values"
abbrev pub stored : Bool → ℕ → List ℕ → List ℕ → Outcome
stored true code s buffer = outcome (refused 21 (Some code)) buffer
stored false code s buffer = outcome (wrote (length s)) (s ++ drop (length s) buffer)

-- "22 precedes 21", and both carry the code handed in
abbrev pub store : ℕ → Option (List ℕ) → List ℕ → Outcome
store code None buffer = outcome (refused 22 (Some code)) buffer
store code (Some s) buffer = stored (ltb (length buffer) (length s)) code s buffer

-- The outcome for what was handed in and the buffer before the call. Where `writable` holds, `written` is the frame `frame_of []` of a plain command and the
-- payload `secure_of []` of a secure one, else none.
unfoldable pub writing : Command → List ℕ → Outcome
writing c buffer = store c.code (written c) buffer
