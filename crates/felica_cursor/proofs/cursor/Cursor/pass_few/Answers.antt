-- `Cursor::pass_few` meets its contract: the walk passes over whole elements, or stands one behind the payload's end, behind a long one that lacks its third byte.
-- Assumes nothing.
use Rattle.std.proofs.Common.{ℕ, ◌≡◌, suc, ◌+◌, ◌-◌, ◌≤◌, length, get_or, arith, sym, ap, inl, subst, Ok}
use Rattle.felica_format.specs.Reasons.{number_of}
use Rattle.felica_command.specs.Places.{element_size}
use Rattle.felica_cursor.specs.Steps.{Passes}
use Rattle.felica_cursor.proofs.Blocks.{Walk, whole_none, walk_more, walk_cut, walk_past, walk_done, passes_whole}
use Rattle.felica_cursor.proofs.cursor.Cursor.pass_few.Goals as goal

pub loop-element-init : goal.loop-element-init
loop-element-init c = inl (whole_none c.args.self.payload.now c.args.self.at)

pub returns-then-limit-at : goal.returns-then-limit-at
returns-then-limit-at c =
    let l = c.loop-element in
    let more = c.args.count - l._element - 1 in
    let all : l._element + suc more ≡ c.args.count = omega arith in
    walk_cut c.args.self.payload.now c.args.self.at c.args.count l._element l.at more all (number_of c.cut_off.result) c.cut_off.ensures.past c.cut_off.ensures.inside l.invariant

pub loop-element-preserved : goal.loop-element-preserved
loop-element-preserved c =
    let l = c.loop-element in
    let s = c.args.self.payload.now in
    let more = c.args.count - l._element - 1 in
    let all : l._element + suc more ≡ c.args.count = omega arith in
    let two : l.at + 2 ≤ length s = omega arith in
    let next : l.at + element_size (get_or s l.at 0) ≡ l.at + c.element_size-at.result = ap (λ (k : ℕ). l.at + k) (sym c.element_size-at.ensures) in
    subst (λ (at : ℕ). Walk s c.args.self.at c.args.count (l._element + 1) at) next (walk_more s c.args.self.at c.args.count l._element l.at more all two l.invariant)

pub returns-then-is_past_end : goal.returns-then-is_past_end
returns-then-is_past_end c =
    let (inside, beyond) = c.is_past_end.ensures.past c.if-is_past_end.true in
    walk_past c.args.self.payload.now c.args.self.at c.args.count c.loop-element._element c.loop-element.at inside beyond c.loop-element.invariant

pub returns : goal.returns
returns c =
    let l = c.loop-element in
    let all : l._element ≡ c.args.count = omega arith in
    let whole = walk_done c.args.self.payload.now c.args.self.at c.args.count l._element l.at (c.is_past_end.ensures.inside c.if-is_past_end.false) l.invariant in
    subst (λ (n : ℕ). Passes n c.args.self (Ok (record c.args.self { at = l.at }))) all (passes_whole l._element c.args.self l.at whole)
