-- Input that is held from one read to the next, and output that waits.
-- Assumes nothing.
use Rattle.std.specs.Prelude.{ℕ, ◌+◌, ◌-◌, ◌≤◌, ◌≡◌, cond, List, leb, length, drop}
use Rattle.std.proofs.Math.Seq.{paste}
use Rattle.felica_put.specs.Put.{buffer}
use Rattle.felica_put.specs.Output.{held}
use Rattle.felica_put.specs.declared.Output.{Output}

-- the bytes from `from` up to `end` copied to the front, and all else as it was; unchanged where `end` is past the length
unfoldable pub moved : List ℕ → ℕ → ℕ → List ℕ
moved s from end = cond (leb end (length s)) (paste s 0 (drop from s) (end - from)) s

-- how many bytes wait in an output of some length where room is needed behind them: as many as before, or none, since they are written
abbrev pub still_waiting : ℕ → ℕ → ℕ → ℕ
still_waiting length waiting room = cond (leb (waiting + room) length) waiting 0

-- what an output holds is within its room
abbrev pub IsWithin : Output ℕ → Type 0
IsWithin out = out.len ≤ length out.room.now

-- b is a with room made behind what it holds, in the same buffer
pub record RoomMade (a b : Output ℕ) (room : ℕ) : Type 0 where
  pub same_reference : b.room.ghost_name ≡ a.room.ghost_name
  pub held : held b ≡ buffer a.room.now (still_waiting (length a.room.now) a.len room)
