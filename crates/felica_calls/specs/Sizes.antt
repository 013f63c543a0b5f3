-- The five numbers behind a call of the list reader: the lengths of the buffers that it is lent.
-- Assumes nothing.
use Rattle.std.specs.Prelude.{ℕ, ◌≤◌, cond, List, length, eqb, Result, Ok, Err}
use Rattle.felica_calls.specs.Field.{next_field, behind_next}
use Rattle.felica_calls.specs.Number.{read_number}
use Rattle.felica_calls.specs.Read.{◌>>=◌}
use Rattle.felica_calls.specs.declared.fault.Fault.{Fault}
use Rattle.felica_calls.specs.declared.fault.Fault.TheVariants.{ExtraField}
use Rattle.felica_calls.specs.declared.sizes.Sizes.{Sizes}

-- the longest buffer that is lent
abbrev pub max_lent : ℕ
max_lent = 1024

-- no buffer is longer than that
abbrev pub Lent : Sizes → Type 0
Lent z = (z.first ≤ max_lent) × (z.second ≤ max_lent) × (z.numbers ≤ max_lent) × (z.places ≤ max_lent) × (z.modes ≤ max_lent)

-- the next length
abbrev pub next_size : List ℕ → Result ℕ Fault
next_size s = read_number max_lent (next_field s)

unfoldable pub read_sizes : List ℕ → Result Sizes Fault
read_sizes s = do
  first ← next_size s
  let s₁ = behind_next s
  second ← next_size s₁
  let s₂ = behind_next s₁
  numbers ← next_size s₂
  let s₃ = behind_next s₂
  places ← next_size s₃
  let s₄ = behind_next s₃
  modes ← next_size s₄
  cond (eqb (length (behind_next s₄)) 0) (Ok (record { first = first; second = second; numbers = numbers; places = places; modes = modes })) (Err ExtraField)
