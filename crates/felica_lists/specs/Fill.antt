-- The steps of the list reader: the lists of a command's parts, written where every buffer has room, and the result that goes with them.
-- Assumes nothing.
use Rattle.std.specs.Prelude.{ℕ, Bool, ◌&&◌, cond, List, map, length, leb, Some, Result, Ok, Err}
use Rattle.felica_command.specs.Meaning.{codes_at, elements_at, fields_of, ParserResult, refusal}
use Rattle.felica_command.specs.Places.{CodesInside, ElementsInside}
use Rattle.felica_command.specs.Lists.{lists_in}
use Rattle.felica_command.specs.declared.command.Part.{Part}
use Rattle.felica_format.specs.declared.error.Reason.{Reason}
use Rattle.felica_format.specs.declared.error.Reason.TheVariants.{BufferTooSmall}
use Rattle.felica_command.specs.declared.lists.Lists.{Lists}
use Rattle.felica_lists.specs.Lists.{Buffers, buffers, fits, fronts}

-- of a block list, one value of each element
abbrev pub numbers_at : List ℕ → Part → List ℕ
numbers_at s p = map (λ e. e.number) (elements_at s p)

abbrev pub places_at : List ℕ → Part → List ℕ
places_at s p = map (λ e. e.place) (elements_at s p)

abbrev pub modes_at : List ℕ → Part → List ℕ
modes_at s p = map (λ e. e.mode) (elements_at s p)

-- what the lists of a command hold in the payload s
abbrev pub lists_at : List ℕ → Lists → Buffers
lists_at s l =
    buffers (codes_at s l.first_codes) (codes_at s l.second_codes) (numbers_at s l.block_list) (places_at s l.block_list)
    (modes_at s l.block_list)

-- all lists of a command lie inside the payload s
abbrev pub ListsInside : List ℕ → Lists → Type 0
ListsInside s l = CodesInside s l.first_codes × CodesInside s l.second_codes × ElementsInside s l.block_list

-- no buffer is shorter than its list
abbrev pub room_for : Lists → Buffers → Bool
room_for l b =
    leb l.first_codes.count (length b.first) && (leb l.second_codes.count (length b.second) && (leb l.block_list.count (length b.numbers)
    && (leb l.block_list.count (length b.places) && leb l.block_list.count (length b.modes))))

-- whether all lists are written, and the buffers
pub record Filled : Type 0 where
  pub done : Result (Unit {0}) Reason
  pub buffers : Buffers

abbrev pub filled : Result (Unit {0}) Reason → Buffers → Filled
filled done b = record { done = done; buffers = b }

abbrev pub fill : Buffers → Buffers → Filled
fill lists b = cond (fits lists b) (filled (Ok tt) (fronts lists b)) (filled (Err BufferTooSmall) b)

-- a result, and the buffers that go with it
pub record Given : Type 0 where
  pub result : ParserResult
  pub buffers : Buffers

abbrev pub given : ParserResult → Buffers → Given
given result b = record { result = result; buffers = b }

-- what the list reader makes of a result of the parser
abbrev pub give : List ℕ → ParserResult → Buffers → Given
give s (Ok p) b =
    let lists = lists_at s (lists_in (fields_of p.command)) in
    cond (fits lists b) (given (Ok p) (fronts lists b)) (given (Err (refusal BufferTooSmall (Some (fields_of p.command).code))) b)
give s (Err why) b = given (Err why) b
