-- What a line says as a call doesn't hang on what the buffer for its bytes held before.
-- Assumes nothing.
use Rattle.std.proofs.Common.{ℕ, ◌/◌, ◌%◌, ◌≡◌, refl, sym, ap, ◌∙◌, subst, Bool, true, false, not, cond, List, [], ◌∷◌, ◌++◌, length, take, drop, eqb, ltb}
use Rattle.std.specs.Prelude.{Result, Ok, Err, IfOk}
use Rattle.std.proofs.Math.Seq.{take-append_seam}
use Rattle.std.proofs.lemmas.List.{length-replicate}
use Rattle.felica_command.specs.Places.{Account}
use Rattle.felica_command.specs.Meaning.{ParserResult}
use Rattle.felica_text.specs.Text.{text}
use Rattle.felica_format.specs.Basic.{zeros}
use Rattle.felica_put.specs.declared.Output.{Output}
use Rattle.felica_put.specs.Output.{Puts}
use Rattle.felica_calls.specs.Read.{Read, read, if_ok, read_in, ◌>>=◌}
use Rattle.felica_calls.specs.Field.{next_field, behind_field, behind_next, field_of, is_name}
use Rattle.felica_calls.specs.Bytes.{bytes_of, all_digits, digits_or_blanks, has_zero_x, read_bytes, read_last}
use Rattle.felica_calls.specs.Number.{read_number}
use Rattle.felica_calls.specs.Sizes.{read_sizes}
use Rattle.felica_calls.specs.Source.{read_source, behind_source, read_command_code}
use Rattle.felica_calls.specs.Write.{max_room}
use Rattle.felica_calls.specs.Call.{without_cr, read_asked, read_list, read_call, count_of}
use Rattle.felica_calls.specs.declared.fault.Fault.{Fault}
use Rattle.felica_calls.specs.declared.fault.Fault.TheVariants.{EmptyLine, MissingField, ExtraField, BlankInside, ZeroX, NoDigit as NotADigit, OddDigits, TooManyBytes}
use Rattle.felica_calls.specs.declared.source.Source.{Source}
use Rattle.felica_calls.specs.declared.call.Call.{Call}
use Rattle.felica_calls.specs.declared.call.Call.TheVariants.{Parse, Long, List as ListCall, Write}
use Rattle.felica_calls.proofs.Reading.{length_bytes}
use Rattle.felica_answers.specs.Answer.{line_of}
use Rattle.felica_answers.specs.Long.{long_line}
use Rattle.felica_answering.specs.Source.{reading_of, payload_in, body_at}
use Rattle.felica_answering.specs.Lists.{list_answer}
use Rattle.felica_answering.specs.Answers.{AnswerText, max_call_bytes, CallText, LinePut}

-- the same value, and as many bytes as it counts at the front of the buffer
record Same {A : Type 0} (count : A → ℕ) (r q : Read A) : Type 0 where
  answer : r.answer ≡ q.answer
  front : IfOk r.answer (λ a. take (count a) r.buffer ≡ take (count a) q.buffer)

module _ {A : Type 0} (count : A → ℕ) where
  same_fault : (fault : Fault) (b c : List ℕ) → Same count (read (Err fault) b) (read (Err fault) c)
  same_fault fault b c = record { answer = refl; front = tt }

  same_either : (test : Bool) {r s q t : Read A} → Same count r q → Same count s t → Same count (cond test r s) (cond test q t)
  same_either true first second = first
  same_either false first second = second

  same_then : {B : Type 0} (r : Result B Fault) (b c : List ℕ) (f g : B → Read A) → ((a : B) → Same count (f a) (g a)) → Same count (if_ok r b f) (if_ok r c g)
  same_then (Ok a) b c f g same = same a
  same_then (Err fault) b c f g same = same_fault fault b c

same_in : {A B : Type 0} (count : A → ℕ) (of : B → ℕ) (f : A → B) → ((a : A) → of (f a) ≡ count a) → (r q : Read A) → Same count r q → Same of (read_in f r) (read_in f q)
same_in {A} {B} count of f as_many r q same = record { answer = ap (λ (x : Result A Fault). x >>= λ a. Ok (f a)) same.answer; front = go r.answer same.front }
  where
    go : (x : Result A Fault) → IfOk x (λ a. take (count a) r.buffer ≡ take (count a) q.buffer) → IfOk (x >>= λ a. Ok (f a)) (λ y. take (of y) r.buffer ≡ take (of y) q.buffer)
    go (Ok a) front = rw (as_many a) front
    go (Err fault) front = tt

-- of bytes, of a source with its bytes, and of a call

abbrev bytes_count : ℕ → ℕ
bytes_count n = n

same_bytes : (s b c : List ℕ) → length b ≡ length c → Same bytes_count (read_bytes s b) (read_bytes s c)
unfolding read_bytes
same_bytes s b c e =
    let count : ℕ → ℕ = bytes_count in
    let all : (held : List ℕ) → take (length s / 2) (bytes_of s ++ drop (length s / 2) held) ≡ bytes_of s =
    λ held. ap (λ (n : ℕ). take n (bytes_of s ++ drop (length s / 2) held)) (sym (length_bytes s)) ∙ take-append_seam (bytes_of s) (drop (length s / 2) held) in
    rw e
    (same_either count (eqb (length s) 0) (same_fault count MissingField b c)
    (same_either count (is_name (text "-") s) (record { answer = refl; front = refl })
    (same_either count (has_zero_x s) (same_fault count ZeroX b c)
    (same_either count (not (all_digits s)) (same_fault count NotADigit b c)
    (same_either count (eqb (length s % 2) 1) (same_fault count OddDigits b c)
    (same_either count (ltb (length c) (length s / 2)) (same_fault count TooManyBytes b c)
    (record { answer = refl; front = all b ∙ sym (all c) })))))))

same_last : (s b c : List ℕ) → length b ≡ length c → Same bytes_count (read_last s b) (read_last s c)
unfolding read_last
same_last s b c e =
    same_either bytes_count (eqb (length (behind_next s)) 0) (same_bytes (drop 1 s) b c e)
    (same_either bytes_count (has_zero_x (drop 1 s)) (same_fault bytes_count ZeroX b c)
    (same_either bytes_count (digits_or_blanks (behind_next s)) (same_fault bytes_count BlankInside b c)
    (same_fault bytes_count ExtraField b c)))

abbrev asked_count : Source × ℕ → ℕ
asked_count p = p.1

same_asked : (s b c : List ℕ) → length b ≡ length c → Same asked_count (read_asked s b) (read_asked s c)
unfolding read_asked
same_asked s b c e =
    same_then asked_count (read_source s) b c _ _ λ source.
    same_in bytes_count asked_count (λ n. (source, n)) (λ n. refl) _ _ (same_last (behind_source source s) b c e)

same_list : (s b c : List ℕ) → length b ≡ length c → Same count_of (read_list s b) (read_list s c)
unfolding read_list
same_list s b c e =
    same_then count_of (read_source s) b c _ _ λ source.
    same_then count_of (read_sizes (behind_next (behind_source source s))) b c _ _ λ z.
    same_in bytes_count count_of (λ n. ListCall source n z) (λ n. refl) _ _ (same_bytes (next_field (behind_source source s)) b c e)

same_write : (size code : Result ℕ Fault) (b c : List ℕ) → Same count_of (read (size >>= λ n. code >>= λ x. Ok (Write n x)) b) (read (size >>= λ n. code >>= λ x. Ok (Write n x)) c)
same_write (Ok n) (Ok x) b c = record { answer = refl; front = refl }
same_write (Ok n) (Err fault) b c = same_fault count_of fault b c
same_write (Err fault) code b c = same_fault count_of fault b c

same_call : (line b c : List ℕ) → length b ≡ length c → Same count_of (read_call line b) (read_call line c)
unfolding read_call
same_call line b c e =
    let rest = behind_field line in
    let name = field_of line in
    same_either count_of (eqb (length line) 0) (same_fault count_of EmptyLine b c)
    (same_either count_of (is_name (text "L") name) (same_list (drop 1 rest) b c e)
    (same_either count_of (is_name (text "W") name) (same_write (read_number max_room (next_field rest)) (read_command_code (next_field (behind_next rest))) b c)
    (same_either count_of (is_name (text "LONG") name) (same_in asked_count count_of _ (λ p. refl) _ _ (same_asked (drop 1 rest) b c e))
    (same_in asked_count count_of _ (λ p. refl) _ _ (same_asked line b c e)))))

-- so its answer doesn't either
module _ (line b c text : List ℕ) where
  same_answer : (call : Result Call Fault) → IfOk call (λ a. take (count_of a) b ≡ take (count_of a) c) → AnswerText line call b text → AnswerText line call c text
  same_answer (Ok (Parse source n)) same answer =
      subst (λ (s : List ℕ). (p : ParserResult) × Account (payload_in source s) (body_at source) (reading_of source s) p × (text ≡ line_of (payload_in source s) p)) same answer
  same_answer (Ok (Long source n)) same answer = subst (λ (s : List ℕ). text ≡ long_line (reading_of source s)) same answer
  same_answer (Ok (ListCall source n z)) same answer = subst (λ (s : List ℕ). text ≡ list_answer (reading_of source s) z) same answer
  same_answer (Ok (Write size code)) same answer = answer
  same_answer (Err fault) same answer = answer

answer_kept : (line b c text : List ℕ) → length b ≡ length c → AnswerText line (read_call line b).answer (read_call line b).buffer text → AnswerText line (read_call line c).answer (read_call line c).buffer text
answer_kept line b c text e answer =
    let same = same_call line b c e in
    subst (λ (call : Result Call Fault). AnswerText line call (read_call line c).buffer text) same.answer
    (same_answer line (read_call line b).buffer (read_call line c).buffer text (read_call line b).answer same.front answer)

-- what is put of a line, by a buffer with room for the longest call
pub line_put : (line bytes : List ℕ) {a b : Output ℕ} → length bytes ≡ max_call_bytes → LinePut line bytes a b → (text : List ℕ) × CallText line text × Puts a b (text ++ (10 ∷ []))
line_put line bytes e told = (told.0, answer_kept (without_cr line) bytes (zeros max_call_bytes) told.0 (e ∙ sym (length-replicate {A = ℕ} max_call_bytes 0)) told.1, told.2)
