-- The answer of each step: what it took, with the cursor behind it, or the reason why it refuses.
-- Assumes nothing.
use Rattle.std.specs.Prelude.{◌≡◌, ℕ, ◌+◌, List, drop, Result, Ok, Err}
use Rattle.felica_format.specs.Basic.{Step, taken, refuse}
use Rattle.felica_format.specs.Reasons.{number_of}
use Rattle.felica_format.specs.declared.error.Reason.{Reason}
use Rattle.felica_cursor.specs.declared.cursor.Cursor.{Cursor}

-- the bytes that are left
abbrev pub rest : Cursor → List ℕ
rest c = drop c.at c.payload.now

-- the cursor n bytes further
abbrev pub moved : Cursor → ℕ → Cursor
moved c n = record c { at = c.at + n }

-- a value that stands for itself
abbrev pub itself : {A : Type 0} → A → A
itself v = v

-- an answer as a step of the definitions, where `meant` says what the value stands for
abbrev pub as_step : {T A : Type 0} → (T → A) → Result (T × Cursor) Reason → Step A
as_step meant (Ok p) = taken (meant p.0) (rest p.1)
as_step meant (Err why) = refuse (number_of why)

-- what holds of the value and the cursor behind it, where there are any
abbrev pub Holds : {T : Type 0} → (T → Cursor → Type 0) → Result (T × Cursor) Reason → Type 0
Holds P (Ok p) = P p.0 p.1
Holds P (Err why) = Unit {0}

-- the cursor is this one, whatever was taken
abbrev pub To : {T : Type 0} → Cursor → T → Cursor → Type 0
To next v behind = behind ≡ next

-- the answer is this step of the definitions, and P holds of what was taken
pub record Takes {T A : Type 0} (meant : T → A) (step : Step A) (P : T → Cursor → Type 0) (answer : Result (T × Cursor) Reason) : Type 0 where
  pub read : step ≡ as_step meant answer
  pub placed : Holds P answer
