-- `felica_writable::fields::all_zero` meets its contract.
-- Assumes nothing.
use Rattle.std.proofs.Common.{◌∙◌, ◌==◌, ◌&&◌, true, rules, tests}
use Rattle.std.proofs.lemmas.Iterator.{YieldsList-from_slice}
use Rattle.std.proofs.lemmas.Iterator.Consumers.{fold_from_yields_List}
use Rattle.felica_writable.proofs.Laws.{each_zero}
use Rattle.felica_writable.proofs.fields.all_zero.Goals as goal

pub returns : goal.returns
returns c =
    let bytes = c.args.bytes.now in
    fold_from_yields_List _ (λ clear x. clear && (x == 0)) true _ c.fold.ensures.ran (YieldsList-from_slice bytes cc) (λ a x b q k. search (rules, tests))
    ∙ each_zero bytes
