-- The answer to a call of the list reader.
-- Assumes nothing.
use Rattle.std.specs.Prelude.{ℕ, List}
use Rattle.felica_format.specs.Basic.{zeros}
use Rattle.felica_format.specs.Read.{Answer as Reading}
use Rattle.felica_lists.specs.Lists.{Buffers, buffers, listed}
use Rattle.felica_calls.specs.declared.sizes.Sizes.{Sizes}
use Rattle.felica_answers.specs.Lists.{list_line}

-- buffers of the lengths of a call
abbrev pub lent : Sizes → Buffers
lent z = buffers (zeros z.first) (zeros z.second) (zeros z.numbers) (zeros z.places) (zeros z.modes)

-- the line of what the list reader answers, where the definitions read `reading`
abbrev pub list_answer : Reading → Sizes → List ℕ
list_answer reading z = list_line (listed reading (lent z)).answer
