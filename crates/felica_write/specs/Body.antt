-- What the putting of a body asks of what was handed in; `body_ok` of felica_format gives it (`ready` in proofs/Ready.antt).
-- Assumes nothing.
use Rattle.std.specs.Prelude.{ℕ, ◌≤◌, ◌≡◌, true, List, length}
use Rattle.felica_format.specs.Basic.{all_below}
use Rattle.felica_format.specs.Command.{Command, Element}

abbrev pub element : ℕ → ℕ → ℕ → Element
element number place mode = record { number = number; place = place; mode = mode }

-- as many entries as a count byte can tell
abbrev pub IsFew : List ℕ → Type 0
IsFew list = length list ≤ 255

pub record Ready (c : Command) : Type 0 where
  pub few_first : IsFew c.first
  pub few_second : IsFew c.second
  pub few_blocks : IsFew c.numbers
  pub places_long : length c.places ≡ length c.numbers
  pub modes_long : length c.modes ≡ length c.numbers
  pub places_small : all_below 16 c.places ≡ true
  pub modes_small : all_below 8 c.modes ≡ true
  pub few_data : length c.block_data ≤ 4080
