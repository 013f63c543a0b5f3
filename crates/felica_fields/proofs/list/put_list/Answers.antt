-- `felica_fields::list::put_list` meets its contract: the first entry, then each behind its comma.
-- Assumes nothing.
use Rattle.std.proofs.Common.{ap, arith, ◌≡◌, ◌-◌, ◌+◌}
use Rattle.felica_text.specs.Text.{behind_commas, parted}
use Rattle.felica_put.proofs.Laws.{puts_then}
use Rattle.felica_put.proofs.Lists.{leads_turn, leads_end}
use Rattle.felica_fields.proofs.Entries.{texts_next, texts_end, texts_none}
use Rattle.felica_fields.proofs.list.put_list.Goals as goal

pub returns-then-list-eq0 : goal.returns-then-list-eq0
unfolding parted
returns-then-list-eq0 g c = rw (texts_none g.E.Entry.read _ _ c.if-list-eq0.true) c.put.ensures

pub returns-in_default : goal.returns-in_default
unfolding parted
returns-in_default g c =
    let e = rw c.in_default.is at c.entry_at.ensures in
    rw (texts_end g.E.Entry.read _ c.args.list.count e) c.put-in_default.ensures

pub returns-in_default-entry_at : goal.returns-in_default-entry_at
unfolding parted
returns-in_default-entry_at g c =
    let none = rw c.in_default-entry_at.is at c.entry_at-in-loop.ensures in
    let some = c.in-Some.ensures in
    rw (texts_next g.E.Entry.read _ c.args.list.count (omega arith) some)
    (puts_then c.put-2.ensures (leads_end c.loop.invariant (ap (behind_commas (λ text. text)) (texts_end g.E.Entry.read _ _ none))))

pub loop-preserved : goal.loop-preserved
loop-preserved g c =
    let some = c.in-Some-entry_at.ensures in
    let left : c.args.list.count - (c.loop.counter + 1) ≡ c.args.list.count - c.loop.counter - 1 = omega arith in
    rw left
    (leads_turn _ _ c.loop.invariant
    (ap (behind_commas (λ text. text)) (texts_next g.E.Entry.read _ _ (omega arith) some))
    (puts_then c.put-in-loop.ensures c.put-in-loop-2.ensures))

pub returns : goal.returns
unfolding parted
returns g c =
    let some = c.in-Some.ensures in
    rw (texts_next g.E.Entry.read _ c.args.list.count (omega arith) some)
    (puts_then c.put-2.ensures (leads_end c.loop.invariant (ap (behind_commas (λ text. text)) (texts_none g.E.Entry.read _ _ (omega arith)))))
