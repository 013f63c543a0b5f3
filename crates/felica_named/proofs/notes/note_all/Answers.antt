-- `felica_named::notes::note_all` meets its contract: field after field.
-- Assumes nothing.
use Rattle.std.proofs.Common.{◌≤◌, ◌<◌, ◌≡◌, ap, sym, refl, length, length-drop, length-append, arith, rules, tests}
use Rattle.std.specs.Prelude.{Ok, Err}
use Rattle.std.specs.Slice.Iter.{chunk_by_rest}
use Rattle.std.proofs.lemmas.Fn.{always_returns_same}
use Rattle.felica_named.specs.Names.{names}
use Rattle.felica_named.specs.Notes.{field_at, note}
use Rattle.felica_named.proofs.Chunks.{goes_on, chunk_field, chunk_rest}
use Rattle.felica_named.proofs.Noting.{field_inside, walk_end, walk_wrong, walk_on}
use Rattle.felica_named.proofs.notes.note_all.Goals as goal
use Rattle.felica_named.proofs.notes.note_all.Goals.{In-Some, In-None}

pub loop-field-init : goal.loop-field-init
unfolding names
loop-field-init c = record { inside = omega arith; left = cc; walks = record { turns = length c.args.text.now; room = omega arith; same = refl } }

some_left : (c : In-Some) → c.loop-field.at < length c.args.text.now
some_left c =
    let steps = c.in-Some.ensures.steps in
    let left = ap length c.loop-field.invariant.left in
    omega (arith, steps.1, ap length steps.0, left, length-append c.in-Some.field.now (chunk_by_rest c.next.new.self), length-drop c.loop-field.at c.args.text.now)

its_field : (c : In-Some) → c.in-Some.field.now ≡ field_at c.args.text.now c.loop-field.at
its_field c =
    let steps = c.in-Some.ensures.steps in
    let first = (steps.2 goes_on (always_returns_same _ _ _ (λ a r f k. search (rules, tests)))).1 in
    chunk_field _ _ (some_left c) c.in-Some.field.now _ c.loop-field.invariant.left steps.0 steps.1 first

pub returns-in-Err : goal.returns-in-Err
returns-in-Err c =
    let l = c.loop-field in
    let d = (goal.at.returns-in-Err c).In-Some in
    let wrong : note names (field_at c.args.text.now l.at) l.at l.starts ≡ Err c.in-Err.fault = cc (its_field d, c.in-Err.ensures) in
    sym (walk_wrong names c.args.text.now _ _ wrong (some_left d) l.invariant.walks)

pub loop-field-preserved : goal.loop-field-preserved
loop-field-preserved c =
    let l = c.loop-field in
    let d = (goal.at.loop-field-preserved c).In-Some in
    let f = its_field d in
    let whole : note names (field_at c.args.text.now l.at) l.at l.starts ≡ Ok c.note.new.starts = cc (f, c.in_default.ensures) in
    record {
      inside = rw f (field_inside c.args.text.now l.at (some_left d)).inside;
      left = chunk_rest c.args.text.now l.at c.in-Some.field.now l.invariant.left c.in-Some.ensures.steps.0;
      walks = rw f (walk_on names c.args.text.now _ _ whole (some_left d) l.invariant.walks);
    }

none_left : (c : In-None) → length c.args.text.now ≤ c.loop-field.at
none_left c = omega (arith, c.in-None.ensures.steps.0, ap length c.loop-field.invariant.left, length-drop c.loop-field.at c.args.text.now)

pub returns : goal.returns
returns c = let e = none_left ((goal.at.returns c).In-None) in sym (walk_end names c.args.text.now _ _ c.loop-field.invariant.walks e)
