-- `felica_text::put::put_parted` meets its contract: the first entry, then each behind its comma.
-- Assumes nothing.
use Rattle.std.proofs.Common.{◌≡◌, ◌∷◌}
use Rattle.std.proofs.lemmas.List.{nil_from_length}
use Rattle.felica_put.proofs.Laws.{puts_then, puts_nothing}
use Rattle.felica_put.proofs.Lists.{puts_turn, puts_all}
use Rattle.felica_text.specs.Text.{parted}
use Rattle.felica_text.proofs.put.put_parted.Goals as goal

pub returns-in_default : goal.returns-in_default
unfolding parted
returns-in_default g c = rw (nil_from_length c.args.entries.now c.in_default.ensures.cases) c.put.ensures

pub loop-entry-init : goal.loop-entry-init
loop-entry-init g c = puts_nothing

pub loop-entry-preserved : goal.loop-entry-preserved
loop-entry-preserved g c =
    puts_turn (λ a. 44 ∷ g.entry a) _ _ c.entry-item.result c.loop-entry-test.true c.loop-entry.invariant
    (puts_then c.put-in-loop-entry.ensures (rw c.entry-item.is at (c.requires.1.1.1 _ _ _ c.put_entry-in-loop-entry.ensures)))

pub returns : goal.returns
unfolding parted
returns g c =
    let e : c.args.entries.now ≡ c.in-Some.first.now ∷ c.in-Some.rest.now = c.in-Some.ensures.cases.0 in
    rw e
    (puts_then (c.requires.1.1.1 _ _ _ c.put_entry.ensures) (puts_all (λ a. 44 ∷ g.entry a) _ _ c.loop-entry-test.false c.loop-entry.invariant))
