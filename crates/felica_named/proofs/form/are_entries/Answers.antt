-- `felica_named::form::are_entries` meets its contract.
-- Assumes nothing.
use Rattle.std.proofs.Common.{eqb, rules, tests}
use Rattle.std.proofs.lemmas.Iterator.Splits.{YieldsList-from_slice_split}
use Rattle.std.proofs.lemmas.Iterator.Search.{all_from_yields_List}
use Rattle.felica_named.specs.Form.{entry_well}
use Rattle.felica_named.proofs.form.are_entries.Goals as goal

pub returns : goal.returns
returns c =
    let a = c.args in
    all_from_yields_List (entry_well a.least a.most) _ _ _ c.all.ensures.ran
    (YieldsList-from_slice_split _ (λ d. eqb d 44) a.value.now c.split.ensures.rest c.split.ensures.done c.split.ensures.closure (λ x b q k. search (rules, tests)))
    (λ d b q k. search (rules, tests))
