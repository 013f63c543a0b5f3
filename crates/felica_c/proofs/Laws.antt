-- Laws of what a call puts and tells.
-- Assumes nothing.
use Rattle.std.proofs.Common.{ℕ, ◌≡◌, refl, ◌∙◌, List, Ok, Err}
use Rattle.felica_format.specs.Read.{Answer as Reading}
use Rattle.felica_command.specs.Meaning.{ParserResult, meaning}
use Rattle.felica_command.specs.Places.{places_of, read_places}
use Rattle.felica_command.specs.declared.command.Refusal.{Refusal}
use Rattle.felica_lists.specs.Lists.{buffers, Outcome, outcome}
use Rattle.felica_lists.specs.Lent.{held}
use Rattle.felica_lists.proofs.Lent.{buffers_of}
use Rattle.felica_lists.specs.declared.buffers.ListBuffers.{ListBuffers}
use Rattle.felica_write.specs.Writing as writer
use Rattle.felica_write.specs.Writing.{Written}
use Rattle.felica_c.specs.declared.answer.FelicaWritten.{FelicaWritten}
use Rattle.felica_c.specs.Boundary.{Lent, Told, telling, written_answer}
use Rattle.felica_c.specs.Fields.{tell, unwritten_by}

-- what is told of a result is told of what the bytes give
pub result_tells : (s : List ℕ) (at : ℕ) (reading : Reading) (r : ParserResult) (m : Lent) → meaning s r ≡ reading → places_of r ≡ read_places at s reading
    → tell r m ≡ telling at s reading m
result_tells s at reading (Ok p) m means placed = rw (← means) cc
result_tells s at reading (Err why) m means placed = cc

-- the same of the list reader's result p, with the lent buffers o
pub list_tells : (s : List ℕ) (at : ℕ) (all : Outcome) (p : ParserResult) (o : ListBuffers) (m : Lent) (t : Told) {first second numbers places modes : List ℕ}
    → outcome (meaning s p) (held o) ≡ all → places_of p ≡ read_places at s (meaning s p) → t ≡ tell p m
    → first ≡ o.first.now → second ≡ o.second.now → numbers ≡ o.numbers.now → places ≡ o.places.now → modes ≡ o.modes.now
    → (t ≡ telling at s all.answer m) × (buffers first second numbers places modes ≡ all.buffers)
list_tells s at all p o m t is placed tells e₁ e₂ e₃ e₄ e₅ =
    rw (← is) (tells ∙ result_tells s at _ p m refl placed, buffers_of o e₁ e₂ e₃ e₄ e₅)

-- the same of the writer's result w, with its buffer afterwards
pub length_tells : (o : writer.Outcome) (w : Written) (n : ℕ) (after : List ℕ) → writer.outcome (writer.meaning w) after ≡ o → w ≡ Ok n
    → (record { refusal = 0; length = n } ≡ written_answer o.answer) × (after ≡ o.buffer)
length_tells o w n after is wrote = rw (← is, wrote) (refl, refl)

pub refusal_tells : (o : writer.Outcome) (w : Written) (why : Refusal) (r : FelicaWritten) (after : List ℕ) → writer.outcome (writer.meaning w) after ≡ o
    → w ≡ Err why → r ≡ unwritten_by why → (r ≡ written_answer o.answer) × (after ≡ o.buffer)
refusal_tells o w why r after is refused same = rw (← is, refused) (same, refl)
