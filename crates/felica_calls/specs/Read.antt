-- What a line or a field is read as, where its bytes go to a lent buffer.
-- Assumes nothing.
use Rattle.std.specs.Prelude.{ℕ, List, Result, Ok, Err}
use Rattle.felica_calls.specs.declared.fault.Fault.{Fault}

-- `?` in definitions: on with the value, or what is wrong
infixl 10 ◌>>=◌
abbrev pub ◌>>=◌ : {A B : Type 0} → Result A Fault → (A → Result B Fault) → Result B Fault
Ok a >>= f = f a
Err fault >>= f = Err fault

-- a value, or what is wrong, and what the buffer holds then
pub record Read (A : Type 0) : Type 0 where
  pub answer : Result A Fault
  pub buffer : List ℕ

abbrev pub read : {A : Type 0} → Result A Fault → List ℕ → Read A
read answer buffer = record { answer = answer; buffer = buffer }

-- on with the value, or what is wrong, and the buffer as it is
abbrev pub if_ok : {A B : Type 0} → Result A Fault → List ℕ → (A → Read B) → Read B
if_ok (Ok a) buffer f = f a
if_ok (Err fault) buffer f = read (Err fault) buffer

-- the same with the value in a larger one
abbrev pub read_in : {A B : Type 0} → (A → B) → Read A → Read B
read_in f r = read (r.answer >>= λ a. Ok (f a)) r.buffer
