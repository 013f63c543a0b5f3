-- A code for each turn: storing the rest from here gives what storing all from the start gives.
-- Assumes nothing.
use Rattle.std.proofs.Common.{◌≡◌, drop}
use Rattle.std.proofs.lemmas.List.Edits.{sets}
use Rattle.felica_command.specs.Meaning.{codes_at}
use Rattle.felica_lists.proofs.fill.fill_codes.Given as goal

abbrev pub invariant-loop-i : goal.invariant-loop-i
invariant-loop-i l =
    let codes = codes_at l.payload l.fn.list in
    sets l.out l.i (drop l.i codes) ≡ sets l.initial.out 0 codes
