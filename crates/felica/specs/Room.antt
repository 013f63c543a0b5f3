-- The program's buffers.
-- Assumes nothing.
use Rattle.std.specs.Prelude.{ℕ, ◌≤◌, length}
use Rattle.felica_put.specs.declared.Output.{Output}
use Rattle.felica_stream.specs.Held.{IsWithin}
use Rattle.felica_answering.specs.Room.{answer_room}

-- the bytes that an input holds at most: one more than the longest line has
abbrev pub input_size : ℕ
input_size = 65536

-- an output with room for an answer, which holds no more than its room
pub record HasAnswerRoom (out : Output ℕ) : Type 0 where
  pub inside : IsWithin out
  pub answer : answer_room ≤ length out.room.now
