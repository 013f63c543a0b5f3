-- How long the answer to a call of the writer is.
-- Assumes nothing.
use Rattle.std.proofs.Common.{ℕ, ◌≤◌, ◌≡◌, refl, Bool, true, false, cond, List, ◌++◌, length, length-append, length-take, take, eqb, ltb, ltb-false, arith}
use Rattle.std.proofs.Math.Nat.{min-le_left}
use Rattle.std.proofs.lemmas.List.{length-replicate}
use Rattle.std.specs.Prelude.{Result, Ok, Err}
use Rattle.std.specs.Prelude.{codes as text}
use Rattle.felica_format.specs.Basic.{zeros}
use Rattle.felica_calls.specs.Fault.{fault_text}
use Rattle.felica_calls.specs.Write.{max_room}
use Rattle.felica_calls.specs.declared.fault.Fault.{Fault}
use Rattle.felica_named.specs.declared.fault.FieldFault.{FieldFault}
use Rattle.felica_calls.specs.declared.fault.Fault.TheVariants.{BufferTooLong}
use Rattle.felica_calls.proofs.Length.{fault_length}
use Rattle.felica_named.specs.Notes.{Noted, fields_noted, is_tellable, told_name, name_at}
use Rattle.felica_named.specs.Handed.{command_named}
use Rattle.felica_answers.proofs.Length.{written_length}
use Rattle.felica_writing.specs.Answer.{answer_noted, write_answer}

wrong : (fault : Fault) → length (fault_text fault) ≤ 32778
wrong fault = let line = fault_length fault in omega (arith, line)

at_most : (n : ℕ) (s : List ℕ) → length (take n s) ≤ n
at_most n s = rw (length-take n s) (min-le_left n (length s))

told : (name : List ℕ) → length name ≤ 15 → length (told_name name) ≤ 15
told name h = go (eqb (length name) 0) (is_tellable name)
  where
    go : (none named : Bool) → length (cond none (text "-") (cond named name (text "?"))) ≤ 15
    go true named = omega arith
    go false true = h
    go false false = omega arith

short_name : (s : List ℕ) (at : ℕ) → length (name_at s at) ≤ 15
short_name s at = told _ (at_most 15 _)

joined : (a b c : List ℕ) → length a ≤ 42 → length b ≤ 2 → length c ≤ 15 → length (a ++ b ++ c) ≤ 32778
joined a b c f g h = omega (arith, length-append (a ++ b) c, length-append a b, f, g, h)

noted_length : (size code : ℕ) (s : List ℕ) (noted : Result Noted FieldFault) → size ≤ 16384 → length (answer_noted size code s noted) ≤ 32778
noted_length size code s (Ok noted) h =
    let room : length (zeros size) ≡ size = length-replicate {A = ℕ} size 0 in
    written_length (command_named code noted) (zeros size) (omega arith)
noted_length size code s (Err e) h = joined (fault_text e.fault) (text ": ") (name_at s e.at) (fault_length e.fault) (omega arith) (short_name s e.at)

pub write_length : (size code : ℕ) (s : List ℕ) → length (write_answer size code s) ≤ 32778
unfolding write_answer
write_length size code s = go (ltb max_room size) refl
  where
    go : (test : Bool) → ltb max_room size ≡ test → length (cond test (fault_text BufferTooLong) (answer_noted size code s (fields_noted s))) ≤ 32778
    go true q = wrong BufferTooLong
    go false q = noted_length size code s (fields_noted s) (ltb-false max_room size q)
