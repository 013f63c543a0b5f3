-- `felica_text::find::find` meets its contract.
-- Assumes nothing.
use Rattle.std.proofs.Common.{rules, tests, ◌∙◌, ◌==◌}
use Rattle.std.proofs.lemmas.Iterator.{YieldsList-from_slice}
use Rattle.std.proofs.lemmas.Iterator.Search.{position_from_yields_List}
use Rattle.felica_text.proofs.Before.{place_found}
use Rattle.felica_text.proofs.find.find.Goals as goal

pub returns : goal.returns
returns c =
    let a = c.args in
    position_from_yields_List (λ x. x == a.byte) _ _ _ c.position.ensures.ran (YieldsList-from_slice a.text.now cc) (λ x b q k. search (rules, tests))
    ∙ place_found a.byte a.text.now
