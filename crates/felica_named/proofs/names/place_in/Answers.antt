-- `felica_named::names::place_in` meets its contract.
-- Assumes nothing.
use Rattle.std.proofs.Common.{◌≡◌, true, false, drop, rules, tests}
use Rattle.std.proofs.lemmas.Iterator.{first_from_Range}
use Rattle.felica_put.proofs.Laws.{take_rest}
use Rattle.felica_named.specs.Names.{begins_with}
use Rattle.felica_named.proofs.Placed.{place_first}
use Rattle.felica_named.proofs.names.place_in.Goals as goal

pub returns-clause-place : goal.returns-clause-place
returns-clause-place c =
    let a = c.args in
    place_first a.key.now a.table.now c.find.result
    (first_from_Range _ _ _ _ (λ i. begins_with a.key.now (drop i a.table.now) ≡ true) (λ i. begins_with a.key.now (drop i a.table.now) ≡ false) c.find.ensures.ran
    (λ i q k. rw (← take_rest i a.table.now) (search (rules, tests))) (λ i q k. rw (← take_rest i a.table.now) (search (rules, tests))))
