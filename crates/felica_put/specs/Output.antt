-- An output and what is put into it.
-- Assumes nothing.
use Rattle.std.specs.Prelude.{◌≡◌, List}
use Rattle.felica_put.specs.Put.{BufferOf, buffer, put}
use Rattle.felica_put.specs.declared.Output.{Output}

abbrev pub held : {A : Type 0} → Output A → BufferOf A
held o = buffer o.room.now o.len

-- b is a with these items put into it, in the same room
pub record Puts {A : Type 0} (a b : Output A) (items : List A) : Type 0 where
  pub same_reference : b.room.ghost_name ≡ a.room.ghost_name
  pub held : held b ≡ put (held a) items
