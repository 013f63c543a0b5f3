-- `fill_blocks` meets its contract: an element for each turn, its values to three buffers.
-- Assumes nothing.
use Rattle.std.proofs.Common.{◌≡◌, suc, ◌+◌, ◌-◌, ◌≤◌, length, drop, map, arith, refl, ap, ◌∙◌, sym}
use Rattle.felica_format.specs.Basic.{refuse}
use Rattle.felica_format.specs.Command.{Element}
use Rattle.felica_format.specs.Read.{read_element}
use Rattle.felica_format.specs.Reasons.{number_of}
use Rattle.felica_command.specs.Places.{elements_size}
use Rattle.felica_command.proofs.Inside.{values_counted}
use Rattle.felica_cursor.specs.Steps.{formed_is}
use Rattle.felica_cursor.proofs.Laws.{size_more}
use Rattle.felica_cursor.proofs.Step.{stepped}
use Rattle.felica_lists.specs.Fill.{numbers_at, places_at, modes_at}
use Rattle.felica_lists.proofs.Laws.{store_more, store_done, none_refused, elements_next, no_elements}
use Rattle.felica_lists.proofs.fill.fill_blocks.Goals as goal

pub loop-i-init : goal.loop-i-init
loop-i-init c =
    let all : c.args.list.count - 0 ≡ c.args.list.count = omega arith in
    rw all (record { payload = refl; inside = c.requires.0; numbers = refl; places = refl; modes = refl })

pub unreachable-requires : goal.unreachable-requires
unreachable-requires c =
    let l = c.loop-i in
    let s = c.args.payload.now in
    let left = c.args.list.count - l.i in
    let stops : read_element (drop l.cursor.at s) ≡ refuse (number_of c.in_default.field-0) =
    ap (λ x. read_element (drop l.cursor.at x)) (sym l.invariant.payload) ∙ c.in_default.ensures.read in
    none_refused s l.cursor.at left (left - 1) _ (omega arith) l.invariant.inside stops

pub loop-i-preserved : goal.loop-i-preserved
loop-i-preserved c =
    let l = c.loop-i in
    let s = c.args.payload.now in
    let left = c.args.list.count - (l.i + 1) in
    let one : c.args.list.count - l.i ≡ suc left = omega arith in
    let next = c.in-Ok.behind.at in
    let step = stepped s l.cursor c.in-Ok.behind c.in-Ok.taken l.invariant.payload c.in-Ok.ensures in
    let inside : next + elements_size left (drop next s) ≤ length s =
    omega (arith, l.invariant.inside, size_more s l.cursor.at next (c.args.list.count - l.i) left one step.at) in
    let more = elements_next s l.cursor.at next (c.args.list.count - l.i) left (formed_is c.in-Ok.taken) one step.took inside in
    record {
      payload = step.payload;
      inside = inside;
      numbers = store_more l.numbers l.i (ap (map (λ (e : Element). e.number)) more) refl l.invariant.numbers;
      places = store_more l.places l.i (ap (map (λ (e : Element). e.place)) more) refl l.invariant.places;
      modes = store_more l.modes l.i (ap (map (λ (e : Element). e.mode)) more) refl l.invariant.modes;
    }

pub returns : goal.returns
returns c =
    let l = c.loop-i in
    let a = c.args in
    let s = a.payload.now in
    let left : a.list.count - l.i ≡ 0 = omega arith in
    let none = no_elements s l.cursor.at (a.list.count - l.i) left in
    let inside = c.requires.0 in (
      store_done l.numbers l.i a.numbers.now (numbers_at s a.list) (ap (map (λ (e : Element). e.number)) none) (rw (values_counted s a.list (λ (e : Element). e.number) inside) (omega arith)) l.invariant.numbers,
      store_done l.places l.i a.places.now (places_at s a.list) (ap (map (λ (e : Element). e.place)) none) (rw (values_counted s a.list (λ (e : Element). e.place) inside) (omega arith)) l.invariant.places,
      store_done l.modes l.i a.modes.now (modes_at s a.list) (ap (map (λ (e : Element). e.mode)) none) (rw (values_counted s a.list (λ (e : Element). e.mode) inside) (omega arith)) l.invariant.modes,
    )
