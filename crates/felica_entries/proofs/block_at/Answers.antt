-- `block_at` meets its contract: the elements in front are walked over.
-- Assumes nothing.
use Rattle.std.proofs.Common.{◌≡◌, suc, ◌+◌, ◌-◌, arith, drop, sym, ap, ◌∙◌}
use Rattle.felica_cursor.specs.Taken.{rest}
use Rattle.felica_entries.specs.Entries.{value_of, element_behind}
use Rattle.felica_entries.proofs.OneEntry.{no_element, one_element_read, behind_none, behind_more, behind_refused, ok_taken, ok_refused}
use Rattle.felica_entries.proofs.block_at.Goals as goal

pub returns-then-list-i : goal.returns-then-list-i
returns-then-list-i c = let a = c.args in sym (no_element a.payload.now a.list a.i c.if-list-i.true)

pub loop-element-init : goal.loop-element-init
loop-element-init c =
    let all : c.args.i ≡ c.args.i - 0 = omega arith in
    ap (λ n. element_behind n (drop c.args.list.start c.args.payload.now)) all

pub returns-in_err-behind : goal.returns-in_err-behind
returns-in_err-behind c =
    let a = c.args in
    let left = a.i - c.loop-element._element in
    let more : left ≡ suc (left - 1) = omega arith in
    let refused = ok_refused _ (sym c.ok.ensures.value ∙ c.in_err-behind.was) in
    let stopped = behind_refused left (left - 1) _ more (ap value_of c.take_element.ensures.read ∙ refused) in
    rw c.from_residual.ensures (sym (one_element_read a.payload.now a.list a.i (omega arith) ∙ ap value_of c.loop-element.invariant ∙ stopped))

pub loop-element-preserved : goal.loop-element-preserved
loop-element-preserved c =
    let more : c.args.i - c.loop-element._element ≡ suc (c.args.i - (c.loop-element._element + 1)) = omega arith in
    let took = ok_taken _ _ _ (sym c.ok.ensures.value ∙ c.in_ok-behind.was) in
    c.loop-element.invariant ∙ behind_more _ _ _ _ _ more (c.take_element.ensures.read ∙ took)

pub returns-in_err-element : goal.returns-in_err-element
returns-in_err-element c =
    let a = c.args in
    let none : a.i - c.loop-element._element ≡ 0 = omega arith in
    let here = ap (λ n. element_behind n (rest c.loop-element.cursor)) none ∙ behind_none (rest c.loop-element.cursor) in
    let refused = ok_refused _ (sym c.ok-2.ensures.value ∙ c.in_err-element.was) in
    rw c.from_residual-in_err-element.ensures
    (sym (one_element_read a.payload.now a.list a.i (omega arith) ∙ ap value_of (c.loop-element.invariant ∙ here ∙ c.take_element-2.ensures.read) ∙ refused))

pub returns : goal.returns
returns c =
    let a = c.args in
    let none : a.i - c.loop-element._element ≡ 0 = omega arith in
    let here = ap (λ n. element_behind n (rest c.loop-element.cursor)) none ∙ behind_none (rest c.loop-element.cursor) in
    let took = ok_taken _ _ _ (sym c.ok-2.ensures.value ∙ c.in_ok-element.was) in
    sym (one_element_read a.payload.now a.list a.i (omega arith) ∙ ap value_of (c.loop-element.invariant ∙ here ∙ c.take_element-2.ensures.read ∙ took))
