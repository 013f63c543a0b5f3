-- The five lent buffers, and what they hold.
-- Assumes nothing.
use Rattle.std.specs.Prelude.{◌≡◌}
use Rattle.felica_lists.specs.Lists.{Buffers, buffers}
use Rattle.felica_lists.specs.declared.buffers.ListBuffers.{ListBuffers}

abbrev pub held : ListBuffers → Buffers
held b = buffers b.first.now b.second.now b.numbers.now b.places.now b.modes.now

-- they stay the buffers that were lent
pub record SameReferences (a b : ListBuffers) : Type 0 where
  pub first : b.first.ghost_name ≡ a.first.ghost_name
  pub second : b.second.ghost_name ≡ a.second.ghost_name
  pub numbers : b.numbers.ghost_name ≡ a.numbers.ghost_name
  pub places : b.places.ghost_name ≡ a.places.ghost_name
  pub modes : b.modes.ghost_name ≡ a.modes.ghost_name
