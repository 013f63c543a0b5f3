-- An element for each turn, its values to three buffers: storing the rest from here gives what storing all from the start gives.
-- Assumes nothing.
use Rattle.std.proofs.Common.{◌≡◌, ◌+◌, ◌-◌, ◌≤◌, length, drop}
use Rattle.std.proofs.lemmas.List.Edits.{sets}
use Rattle.felica_command.specs.Meaning.{part}
use Rattle.felica_command.specs.Places.{elements_size}
use Rattle.felica_lists.specs.Fill.{numbers_at, places_at, modes_at}
use Rattle.felica_lists.proofs.fill.fill_blocks.Given as goal

abbrev pub invariant-loop-i : goal.invariant-loop-i
invariant-loop-i l =
    let s = l.payload in
    let list = l.fn.list in
    let rest = part l.cursor.at (list.count - l.i) in
    record {
      payload : l.cursor.payload.now ≡ s;
      inside : l.cursor.at + elements_size (list.count - l.i) (drop l.cursor.at s) ≤ length s;
      numbers : sets l.numbers l.i (numbers_at s rest) ≡ sets l.initial.numbers 0 (numbers_at s list);
      places : sets l.places l.i (places_at s rest) ≡ sets l.initial.places 0 (places_at s list);
      modes : sets l.modes l.i (modes_at s rest) ≡ sets l.initial.modes 0 (modes_at s list);
    }
