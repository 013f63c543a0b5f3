-- `felica_named::notes::note_all` meets its contract: field after field.
-- Assumes nothing.
use Rattle.std.proofs.Common.{◌≡◌, ◌≤◌, length, drop}
use Rattle.std.specs.Slice.Iter.{chunk_by_rest}
use Rattle.felica_named.specs.Names.{names}
use Rattle.felica_named.specs.Notes.{note_from}
use Rattle.felica_named.proofs.Noting.{Walks}
use Rattle.felica_named.proofs.notes.note_all.Given as goal

abbrev pub invariant-loop-field : goal.invariant-loop-field
invariant-loop-field l = record {
  inside : l.at ≤ length l.text;
  left : chunk_by_rest l.field-iterator ≡ drop l.at l.text;
  walks : Walks names l.text l.at l.starts (note_from (length l.text) names l.text 0 l.initial.starts);
}
