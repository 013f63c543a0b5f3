-- `answer_call` answers what the line calls for.
-- Assumes nothing.
use Rattle.std.proofs.Common.{◌≡◌, ℕ, List, refl, sym, subst}
use Rattle.std.specs.Prelude.{Result}
use Rattle.std.proofs.lemmas.List.{length-take-le}
use Rattle.felica_put.specs.declared.Output.{Output}
use Rattle.felica_put.specs.Output.{Puts}
use Rattle.felica_calls.specs.Call.{Called, called}
use Rattle.felica_calls.specs.declared.call.Call.{Call}
use Rattle.felica_calls.specs.declared.fault.Fault.{Fault}
use Rattle.felica_calls.proofs.Counts.{call_within}
use Rattle.felica_answering.specs.Answers.{AnswerText}
use Rattle.felica_answering.proofs.answer_call.Goals as goal

-- what was read, answered as what it is
answered : (line : List ℕ) {found : Result Call Fault} {bytes : List ℕ} {c : Called} (a b : Output ℕ) (text : List ℕ) → called found bytes ≡ c
    → AnswerText line found bytes text → Puts a b text → (x : List ℕ) × AnswerText line c.answer c.buffer x × Puts a b x
answered line a b text e answer puts = (text, subst (λ (c : Called). AnswerText line c.answer c.buffer text) e answer, puts)

pub slice_bounds-answer_parse-end : goal.slice_bounds-answer_parse-end
slice_bounds-answer_parse-end c = (call_within _ _ (rw c.in-Ok-Parse.field-0-is at c.in-Ok-Parse.ensures)).count

pub slice_bounds-answer_parse-end-in-Ok-Parse : goal.slice_bounds-answer_parse-end-in-Ok-Parse
slice_bounds-answer_parse-end-in-Ok-Parse c = sym (length-take-le _ _ (call_within _ _ (rw c.in-Ok-Parse.field-0-is at c.in-Ok-Parse.ensures)).count)

pub slice_bounds-answer_long-end : goal.slice_bounds-answer_long-end
slice_bounds-answer_long-end c = (call_within _ _ (rw c.in-Ok-Long.field-0-is at c.in-Ok-Long.ensures)).count

pub slice_bounds-answer_long-end-in-Ok-Long : goal.slice_bounds-answer_long-end-in-Ok-Long
slice_bounds-answer_long-end-in-Ok-Long c = sym (length-take-le _ _ (call_within _ _ (rw c.in-Ok-Long.field-0-is at c.in-Ok-Long.ensures)).count)

pub slice_bounds-answer_list-end : goal.slice_bounds-answer_list-end
slice_bounds-answer_list-end c = (call_within _ _ (rw c.in-Ok-List.field-0-is at c.in-Ok-List.ensures)).count

pub slice_bounds-answer_list-end-in-Ok-List : goal.slice_bounds-answer_list-end-in-Ok-List
slice_bounds-answer_list-end-in-Ok-List c = sym (length-take-le _ _ (call_within _ _ (rw c.in-Ok-List.field-0-is at c.in-Ok-List.ensures)).count)

pub answer_list-requires : goal.answer_list-requires
answer_list-requires c = (call_within _ _ (rw c.in-Ok-List.field-0-is at c.in-Ok-List.ensures)).lends

pub returns-in-Ok-Parse : goal.returns-in-Ok-Parse
returns-in-Ok-Parse c =
    let told = c.answer_parse.ensures in
    answered c.args.line.now _ _ _ (rw c.in-Ok-Parse.field-0-is at c.in-Ok-Parse.ensures) (told.0, told.1, refl) told.2

pub returns-in-Ok-Long : goal.returns-in-Ok-Long
returns-in-Ok-Long c = answered c.args.line.now _ _ _ (rw c.in-Ok-Long.field-0-is at c.in-Ok-Long.ensures) refl c.answer_long.ensures

pub returns-in-Ok-List : goal.returns-in-Ok-List
returns-in-Ok-List c = answered c.args.line.now _ _ _ (rw c.in-Ok-List.field-0-is at c.in-Ok-List.ensures) refl c.answer_list.ensures

pub returns-in-Ok-Write : goal.returns-in-Ok-Write
returns-in-Ok-Write c =
    let told = rw c.behind_code.ensures at c.answer_write.ensures in
    answered c.args.line.now _ _ _ (rw c.in-Ok-Write.field-0-is at c.in-Ok-Write.ensures) refl told

pub returns-in-Err : goal.returns-in-Err
returns-in-Err c = answered c.args.line.now _ _ _ c.in-Err.ensures refl c.put_fault.ensures
