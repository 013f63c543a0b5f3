-- Fields noted on a walk along the text.
-- Assumes nothing.
use Rattle.std.proofs.Common.{ℕ, zero, suc, ◌+◌, ◌≤◌, ◌<◌, ◌≡◌, refl, sym, ◌∙◌, List, length, drop, length-drop, arith}
use Rattle.std.specs.Prelude.{Result, Ok, Err}
use Rattle.std.proofs.lemmas.Bool.{le-leb, lt-leb}
use Rattle.std.proofs.lemmas.List.{length-take-le}
use Rattle.felica_text.specs.Text.{before}
use Rattle.felica_calls.specs.declared.fault.Fault.{Fault}
use Rattle.felica_text.proofs.Before.{before_within}
use Rattle.felica_named.specs.Notes.{Starts, field_at, note, noted_at, note_from}
use Rattle.felica_named.specs.declared.fault.FieldFault.{FieldFault}

-- a field is within the text, and has at least the space
pub record Inside (s : List ℕ) (at n : ℕ) : Type 0 where
  pub some : 0 < n
  pub inside : at + n ≤ length s

pub field_inside : (s : List ℕ) (at : ℕ) → at < length s → Inside s at (length (field_at s at))
field_inside s at h =
    let n = length (before 32 (drop (at + 1) s)) in
    let e = length-take-le (1 + n) (drop at s) (omega (arith, before_within 32 (drop (at + 1) s), length-drop (at + 1) s, length-drop at s)) in
    record {
      some = omega (arith, e);
      inside = omega (arith, e, before_within 32 (drop (at + 1) s), length-drop (at + 1) s);
    }

-- the walk from here on gives what it gives from the start
pub record Walks (table s : List ℕ) (at : ℕ) (starts : Starts) (all : Result Starts FieldFault) : Type 0 where
  pub turns : ℕ
  pub room : length s ≤ at + turns
  pub same : note_from turns table s at starts ≡ all

module _ (table s : List ℕ) (at : ℕ) (starts : Starts) where
  walk_step : (turns : ℕ) → at < length s
      → note_from (suc turns) table s at starts ≡ noted_at at (note table (field_at s at) at starts) (note_from turns table s (at + length (field_at s at)))
  unfolding note_from
  walk_step turns h = rw (lt-leb _ _ h)

  none_left : (turns : ℕ) → length s ≤ at → note_from turns table s at starts ≡ Ok starts
  unfolding note_from
  none_left zero h = refl
  none_left (suc turns) h = rw (le-leb _ _ h)

  pub walk_end : {all : Result Starts FieldFault} → Walks table s at starts all → length s ≤ at → all ≡ Ok starts
  walk_end w h = sym w.same ∙ none_left w.turns h

  wrong_after : {all : Result Starts FieldFault} {fault : Fault} → note table (field_at s at) at starts ≡ Err fault → at < length s → (turns : ℕ) → length s ≤ at + turns
      → note_from turns table s at starts ≡ all → all ≡ Err (record { fault = fault; at = at })
  wrong_after is h zero room same = absurd (omega arith)
  wrong_after is h (suc turns) room same = sym same ∙ walk_step turns h ∙ rw is

  pub walk_wrong : {all : Result Starts FieldFault} {fault : Fault} → note table (field_at s at) at starts ≡ Err fault → at < length s → Walks table s at starts all → all ≡ Err (record { fault = fault; at = at })
  walk_wrong is h w = wrong_after is h w.turns w.room w.same

  -- the fields behind it are left
  left_after : {all : Result Starts FieldFault} {after : Starts} → note table (field_at s at) at starts ≡ Ok after → at < length s → (turns : ℕ) → length s ≤ at + turns
      → note_from turns table s at starts ≡ all → Walks table s (at + length (field_at s at)) after all
  left_after is h zero room same = absurd (omega arith)
  left_after is h (suc turns) room same = record {
    turns = turns;
    room = omega (arith, (field_inside s at h).some);
    same = sym (walk_step turns h ∙ rw is) ∙ same;
  }

  pub walk_on : {all : Result Starts FieldFault} {after : Starts} → note table (field_at s at) at starts ≡ Ok after → at < length s → Walks table s at starts all
      → Walks table s (at + length (field_at s at)) after all
  walk_on is h w = left_after is h w.turns w.room w.same
