-- A call has no more bytes than the buffer that they were written to, which keeps its length, and lends no buffer that is too long.
-- Assumes nothing.
use Rattle.std.proofs.Common.{ℕ, ◌≤◌, ◌/◌, ◌≡◌, refl, sym, subst, arith, zero-le, Bool, true, false, cond, List, length, drop, eqb, length-append, length-drop}
use Rattle.std.proofs.lemmas.Bool.Decides.{nat_tests}
use Rattle.std.specs.Prelude.{Result, Ok, Err, IfOk}
use Rattle.felica_text.specs.Text.{text}
use Rattle.felica_calls.specs.Read.{Read, read, if_ok, read_in, ◌>>=◌}
use Rattle.felica_calls.specs.Field.{field_of, behind_field, next_field, behind_next, is_byte, is_name}
use Rattle.felica_calls.specs.Number.{read_number}
use Rattle.felica_calls.specs.Sizes.{max_lent, Lent, next_size, read_sizes}
use Rattle.felica_calls.specs.Bytes.{bytes_of, read_bytes, read_last}
use Rattle.felica_calls.specs.Source.{read_source, behind_source, read_command_code}
use Rattle.felica_calls.specs.Write.{max_room}
use Rattle.felica_calls.specs.Call.{read_asked, read_list, read_call, count_of}
use Rattle.felica_calls.specs.declared.fault.Fault.{Fault}
use Rattle.felica_calls.specs.declared.source.Source.{Source}
use Rattle.felica_calls.specs.declared.call.Call.{Call}
use Rattle.felica_calls.specs.declared.call.Call.TheVariants.{Parse, Long, List as ListCall, Write}
use Rattle.felica_calls.proofs.Reading.{length_bytes}

-- what holds of both answers of a test
either : {A : Type 0} (P : A → Type 0) (test : Bool) (a b : A) → P a → (test ≡ false → P b) → P (cond test a b)
either P true a b p q = p
either P false a b p q = q refl

-- a length is at most that of the longest buffer
abbrev Short : ℕ → Type 0
Short n = n ≤ max_lent

abbrev Below : Result ℕ Fault → Type 0
Below r = IfOk r Short

size_below : (s : List ℕ) → Below (next_size s)
unfolding read_number
size_below s = grind (arith, nat_tests)

-- what holds of the value of a `?` and, with it, of what follows
then_ok : {A B : Type 0} (P : A → Type 0) (Q : B → Type 0) (r : Result A Fault) (f : A → Result B Fault) → IfOk r P → ((a : A) → P a → IfOk (f a) Q) → IfOk (r >>= f) Q
then_ok P Q (Ok a) f p q = q a p
then_ok P Q (Err fault) f p q = tt

-- so are all five
sizes_below : (s : List ℕ) → IfOk (read_sizes s) Lent
unfolding read_sizes
sizes_below s =
    let s₁ = behind_next s in
    let s₂ = behind_next s₁ in
    let s₃ = behind_next s₂ in
    let s₄ = behind_next s₃ in
    then_ok Short Lent (next_size s) _ (size_below s) λ f a.
    then_ok Short Lent (next_size s₁) _ (size_below s₁) λ g b.
    then_ok Short Lent (next_size s₂) _ (size_below s₂) λ n c.
    then_ok Short Lent (next_size s₃) _ (size_below s₃) λ p d.
    then_ok Short Lent (next_size s₄) _ (size_below s₄) λ m e.
    either (λ r. IfOk {E = Fault} r Lent) (eqb (length (behind_next s₄)) 0) _ _ (a, b, c, d, e) λ _. tt

-- what holds of a value and what the buffer holds with it
abbrev Has : {A : Type 0} → (A → List ℕ → Type 0) → Read A → Type 0
Has P r = IfOk r.answer (λ a. P a r.buffer)

module _ {A B : Type 0} (Q : B → List ℕ → Type 0) where
  then_has : (P : A → Type 0) (r : Result A Fault) (held : List ℕ) (f : A → Read B) → IfOk r P → ((a : A) → P a → Has Q (f a)) → Has Q (if_ok r held f)
  then_has P (Ok a) held f p q = q a p
  then_has P (Err fault) held f p q = tt

  in_has : (P : A → List ℕ → Type 0) (f : A → B) (r : Result A Fault) (held : List ℕ) → IfOk r (λ a. P a held) → ((a : A) → P a held → Q (f a) held)
      → Has Q (read_in f (read r held))
  in_has P f (Ok a) held p q = q a p
  in_has P f (Err fault) held p q = tt

any : {A : Type 0} (r : Result A Fault) → IfOk r (λ _. Unit {0})
any (Ok a) = tt
any (Err fault) = tt

abbrev Fit : ℕ → List ℕ → Type 0
Fit n held = n ≤ length held

bytes_fit : (s held : List ℕ) → Has Fit (read_bytes s held)
unfolding read_bytes
bytes_fit s held = grind (arith, nat_tests, length-append (bytes_of s) (drop (length s / 2) held), length_bytes s, length-drop (length s / 2) held)

last_fit : (s held : List ℕ) → Has Fit (read_last s held)
unfolding read_last
last_fit s held = grind (arith, nat_tests, bytes_fit (drop 1 s) held)

abbrev AskedFit : Source × ℕ → List ℕ → Type 0
AskedFit p held = p.1 ≤ length held

asked_fit : (s held : List ℕ) → Has AskedFit (read_asked s held)
unfolding read_asked
asked_fit s held =
    then_has AskedFit (λ _. Unit {0}) (read_source s) held _ (any (read_source s)) λ source t.
    let d = read_last (behind_source source s) held in
    in_has AskedFit Fit _ d.answer d.buffer (last_fit (behind_source source s) held) λ n fit. fit

abbrev CallLends : Call → Type 0
CallLends (Parse source n) = Unit
CallLends (Long source n) = Unit
CallLends (ListCall source n z) = Lent z
CallLends (Write size c) = Unit

pub record Fits (call : Call) (held : List ℕ) : Type 0 where
  pub count : count_of call ≤ length held
  pub lends : CallLends call

list_fits : (s held : List ℕ) → Has Fits (read_list s held)
unfolding read_list
list_fits s held =
    then_has Fits (λ _. Unit {0}) (read_source s) held _ (any (read_source s)) λ source t.
    let rest = behind_source source s in
    then_has Fits Lent (read_sizes (behind_next rest)) held _ (sizes_below (behind_next rest)) λ z lent.
    let d = read_bytes (next_field rest) held in
    in_has Fits Fit _ d.answer d.buffer (bytes_fit (next_field rest) held) λ n fit. record { count = fit; lends = lent }

write_fits : (size code : Result ℕ Fault) (held : List ℕ) → Has Fits (read (size >>= λ n. code >>= λ c. Ok (Write n c)) held)
write_fits (Ok n) (Ok c) held = record { count = zero-le; lends = tt }
write_fits (Ok n) (Err fault) held = tt
write_fits (Err fault) code held = tt

asked_fits : (make : Source × ℕ → Call) → ((p : Source × ℕ) → count_of (make p) ≡ p.1) → ((p : Source × ℕ) → CallLends (make p)) → (s held : List ℕ)
    → Has Fits (read_in make (read_asked s held))
asked_fits make same lends s held =
    let d = read_asked s held in
    in_has Fits AskedFit make d.answer d.buffer (asked_fit s held) λ p fit. record { count = rw (same p) fit; lends = lends p }

call_fits : (line held : List ℕ) → Has Fits (read_call line held)
unfolding read_call
call_fits line held =
    let rest = behind_field line in
    either (Has Fits) (eqb (length line) 0) _ _ tt λ a.
    either (Has Fits) (is_byte 76 (field_of line)) _ _ (list_fits (drop 1 rest) held) λ b.
    either (Has Fits) (is_byte 87 (field_of line)) _ _ (write_fits (read_number max_room (next_field rest)) (read_command_code (next_field (behind_next rest))) held) λ c.
    either (Has Fits) (is_name (text "LONG") (field_of line)) _ _ (asked_fits (λ p. Long p.0 p.1) (λ p. refl) (λ p. tt) (drop 1 rest) held) λ d.
    asked_fits (λ p. Parse p.0 p.1) (λ p. refl) (λ p. tt) line held

pub call_within : (line held : List ℕ) {call : Call} {m : List ℕ} → read (Ok call) m ≡ read_call line held → Fits call m
call_within line held e = subst (Has Fits) (sym e) (call_fits line held)

-- the buffer keeps its length
abbrev Kept : {A : Type 0} → List ℕ → Read A → Type 0
Kept held r = length r.buffer ≡ length held

bytes_kept : (s held : List ℕ) → Kept held (read_bytes s held)
unfolding read_bytes
bytes_kept s held = grind (arith, nat_tests, length-append (bytes_of s) (drop (length s / 2) held), length_bytes s, length-drop (length s / 2) held)

last_kept : (s held : List ℕ) → Kept held (read_last s held)
unfolding read_last
last_kept s held = grind (arith, nat_tests, bytes_kept (drop 1 s) held)

then_kept : {A B : Type 0} (r : Result A Fault) (held : List ℕ) (f : A → Read B) → ((a : A) → Kept held (f a)) → Kept held (if_ok r held f)
then_kept (Ok a) held f h = h a
then_kept (Err fault) held f h = refl

asked_kept : (s held : List ℕ) → Kept held (read_asked s held)
unfolding read_asked
asked_kept s held = then_kept (read_source s) held _ λ source. last_kept (behind_source source s) held

list_kept : (s held : List ℕ) → Kept held (read_list s held)
unfolding read_list
list_kept s held =
    then_kept (read_source s) held _ λ source.
    then_kept (read_sizes (behind_next (behind_source source s))) held _ λ z. bytes_kept (next_field (behind_source source s)) held

pub call_kept : (line held : List ℕ) → length (read_call line held).buffer ≡ length held
unfolding read_call
call_kept line held =
    let rest = behind_field line in
    either (Kept held) (eqb (length line) 0) _ _ refl λ a.
    either (Kept held) (is_byte 76 (field_of line)) _ _ (list_kept (drop 1 rest) held) λ b.
    either (Kept held) (is_byte 87 (field_of line)) _ _ refl λ c.
    either (Kept held) (is_name (text "LONG") (field_of line)) _ _ (asked_kept (drop 1 rest) held) λ d.
    asked_kept line held
