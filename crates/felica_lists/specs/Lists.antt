-- The list reader: what it answers, and what the five lent buffers hold then.
-- Assumes nothing.
use Rattle.std.specs.Prelude.{ℕ, Bool, true, false, List, ◌++◌, length, drop, leb}
use Rattle.std.specs.Prelude.{Some}
use Rattle.felica_format.specs.Basic.{◌and◌}
use Rattle.felica_format.specs.Command.{Command}
use Rattle.felica_format.specs.Read.{Answer as Reading, gives, refused}

-- "The list reader writes first codes, second codes, block numbers, service places and access modes to five lent buffers."
pub record Buffers : Type 0 where
  pub first : List ℕ
  pub second : List ℕ
  pub numbers : List ℕ
  pub places : List ℕ
  pub modes : List ℕ

abbrev pub buffers : List ℕ → List ℕ → List ℕ → List ℕ → List ℕ → Buffers
buffers first second numbers places modes = record { first = first; second = second; numbers = numbers; places = places; modes = modes }

-- the list of a command for each buffer
abbrev pub lists_of : Command → Buffers
lists_of c = buffers c.first c.second c.numbers c.places c.modes

-- no buffer is shorter than its list
unfoldable pub fits : Buffers → Buffers → Bool
fits lists b =
    leb (length lists.first) (length b.first) and leb (length lists.second) (length b.second)
    and leb (length lists.numbers) (length b.numbers) and leb (length lists.places) (length b.places)
    and leb (length lists.modes) (length b.modes)

-- "Elements past a list keep their values."
abbrev pub front : List ℕ → List ℕ → List ℕ
front list buffer = list ++ drop (length list) buffer

abbrev pub fronts : Buffers → Buffers → Buffers
fronts lists b =
    buffers (front lists.first b.first) (front lists.second b.second) (front lists.numbers b.numbers)
    (front lists.places b.places) (front lists.modes b.modes)

-- an answer, and the buffers behind the call
pub record Outcome : Type 0 where
  pub answer : Reading
  pub buffers : Buffers

abbrev pub outcome : Reading → Buffers → Outcome
outcome answer b = record { answer = answer; buffers = b }

-- "It parses first, then gives 21 exactly when a buffer is shorter than its list."
abbrev pub listed_if : Bool → Command → ℕ → Buffers → Outcome
listed_if true c long b = outcome (gives c long) (fronts (lists_of c) b)
listed_if false c long b = outcome (refused 21 (Some c.code)) b

-- the outcome for what the bytes give and the buffers before the call
abbrev pub listed : Reading → Buffers → Outcome
listed (gives c long) b = listed_if (fits (lists_of c) b) c long b
listed (refused n code) b = outcome (refused n code) b
