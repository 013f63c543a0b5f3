-- `felica_fields::list::put_list` meets its contract: the first entry, then each behind its comma.
-- Assumes nothing.
use Rattle.std.proofs.Common.{◌-◌, drop}
use Rattle.felica_put.proofs.Lists.{Leads}
use Rattle.felica_text.specs.Text.{behind_commas}
use Rattle.felica_fields.specs.Entries.{texts_of}
use Rattle.felica_fields.proofs.list.put_list.Given as goal

abbrev pub invariant-loop : goal.invariant-loop
invariant-loop g l =
    Leads l.initial.out l.out
    (behind_commas (λ text. text) (texts_of g.E.Entry.read (l.end - l.counter) (drop l.place l.payload)))
    (behind_commas (λ text. text) (texts_of g.E.Entry.read (l.end - 1) (drop l.initial.place l.payload)))
