-- What the functions for C answer, and what the memory that they are lent holds then: 01's number and values for each case, as bytes and numbers.
-- Assumes nothing.
use Rattle.std.specs.Prelude.{ℕ, List, [], ◌∷◌}
use Rattle.std.specs.Prelude.{Option, None, Some}
use Rattle.felica_format.specs.Read.{Answer as Reading, gives, refused}
use Rattle.felica_command.specs.Places.{Places, read_places}
use Rattle.felica_command.specs.declared.fixed.Fixed.{Fixed}
use Rattle.felica_write.specs.Writing.{Answer as Writing, wrote, refused as not_written}
use Rattle.felica_c.specs.declared.answer.FelicaAnswer.{FelicaAnswer}
use Rattle.felica_c.specs.declared.answer.FelicaWritten.{FelicaWritten}

-- the memory that a parse is lent: `idm`, `challenge`, `fields` and `parts`
pub record Lent : Type 0 where
  pub idm : List ℕ
  pub challenge : List ℕ
  pub fields : List ℕ
  pub parts : List ℕ

abbrev pub lent : List ℕ → List ℕ → List ℕ → List ℕ → Lent
lent idm challenge fields parts = record { idm = idm; challenge = challenge; fields = fields; parts = parts }

-- the fixed fields of a command in the order of `fields`: selector, number, index, option, choice
abbrev pub fixed_fields : ℕ → ℕ → ℕ → ℕ → ℕ → List ℕ
fixed_fields selector number index option choice = selector ∷ number ∷ index ∷ option ∷ choice ∷ []

-- start and count of first codes, second codes, block list, data and package, in the order of `parts`
abbrev pub parts_of : Places → List ℕ
parts_of q =
    q.first.start ∷ q.first.count ∷ q.second.start ∷ q.second.count ∷ q.elements.start ∷ q.elements.count ∷ q.block_data.start ∷
    q.block_data.count ∷ q.issue_package.start ∷ q.issue_package.count ∷ []

-- a result, and the memory after the call
pub record Told : Type 0 where
  pub answer : FelicaAnswer
  pub memory : Lent

abbrev pub answer : ℕ → ℕ → ℕ → FelicaAnswer
answer number code long = record { refusal = number; code = code; long_count = long }

abbrev pub told : FelicaAnswer → Lent → Told
told a m = record { answer = a; memory = m }

-- the code of a refusal, 0 where it has none
abbrev pub code_or_zero : Option ℕ → ℕ
code_or_zero None = 0
code_or_zero (Some code) = code

-- The account of a parse, for what the bytes give in the payload s, whose body begins at `at`, and the memory before the call. A command has the number 0,
-- tells how many of its elements were long, and fills the memory; a refusal tells 0 of them and leaves it as it was.
abbrev pub telling : ℕ → List ℕ → Reading → Lent → Told
telling at s (gives c long) m =
    told (answer 0 c.code long)
    (lent c.idm c.challenge (fixed_fields c.selector c.number c.index c.option c.choice) (parts_of (read_places at s (gives c long))))
telling at s (refused n code) m = told (answer n (code_or_zero code) 0) m

-- the fixed fields that the writer is handed
abbrev pub fixed : List ℕ → List ℕ → ℕ → ℕ → ℕ → ℕ → ℕ → Fixed
fixed idm challenge selector number index option choice =
    record { idm = idm; selector = selector; number = number; index = index; option = option; choice = choice; challenge = challenge }

-- what the writer answers: the length with the number 0, or the length 0 with the number of the refusal
abbrev pub written_answer : Writing → FelicaWritten
written_answer (wrote n) = record { refusal = 0; length = n }
written_answer (not_written n code) = record { refusal = n; length = 0 }
