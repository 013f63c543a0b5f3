-- `felica_write::body::put_elements` meets its contract.
-- Assumes nothing.
use Rattle.std.proofs.Common.{◌≡◌, length, inl, inr, arith, rules}
use Rattle.std.specs.Iterator.Adapters.{zip_first, zip_second}
use Rattle.std.specs.Slice.Iter.{iter_rest}
use Rattle.felica_put.proofs.Laws.{puts_then}
use Rattle.felica_put.proofs.Lists.{leads_start}
use Rattle.felica_write.proofs.Elements.{first_below, left_turn, left_end, counted}
use Rattle.felica_write.proofs.body.put_elements.Goals as goal

pub loop-number-init : goal.loop-number-init
loop-number-init c =
    let z = c.into_iter-number-iterator.result in
    let numbers : iter_rest (zip_first (zip_first z)) ≡ c.args.command.numbers.now = search rules in
    let places : iter_rest (zip_second (zip_first z)) ≡ c.args.command.places.now = search rules in
    let modes : iter_rest (zip_second z) ≡ c.args.command.modes.now = search rules in
    rw (numbers, places, modes)
    (record {
      leads = leads_start;
      places_long = c.requires.places_long;
      modes_long = c.requires.modes_long;
      places_small = c.requires.places_small;
      modes_small = c.requires.modes_small;
    })

pub put_element-requires : goal.put_element-requires
put_element-requires c =
    let l = c.loop-number.invariant in
    let h = c.in-Some.ensures.steps in
    record {
      place_small = first_below 16 _ _ _ h.0.1 l.places_small;
      mode_small = first_below 8 _ _ _ h.1 l.modes_small;
    }

pub loop-number-preserved : goal.loop-number-preserved
loop-number-preserved c =
    let h = c.in-Some.ensures.steps in
    left_turn _ _ _ _ _ _ (rw (h.0.0, h.0.1, h.1) at c.loop-number.invariant) c.put_element.ensures

pub returns : goal.returns
returns c =
    let l = c.loop-number.invariant in
    let spent : length (iter_rest (zip_first (zip_first c.loop-number.number-iterator))) ≡ 0 =
    elim c.in-None.ensures.steps [
      | inl x ↦ elim x.1 [ inl y ↦ y.1.0 | inr y ↦ omega (arith, y.1.0, l.places_long) ]
      | inr y ↦ omega (arith, y.1.0, l.modes_long)
    ] in
    rw (← counted c.args.present c.args.command.numbers.now c.args.command.places.now c.args.command.modes.now c.if-not-present.false) (puts_then c.put.ensures (left_end l spent))
