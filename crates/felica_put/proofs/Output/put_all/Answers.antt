-- `Output::put_all` meets its contract.
-- Assumes nothing.
use Rattle.std.proofs.Common.{◌∙◌, refl, arith}
use Rattle.felica_put.proofs.Laws.{put_over, put_first}
use Rattle.felica_put.proofs.Output.put_all.Goals as goal

pub returns-then-self : goal.returns-then-self
returns-then-self g c = record { same_reference = refl; held = put_over _ _ _ (λ some. c.if-self.true) }

pub returns-else-items-left : goal.returns-else-items-left
returns-else-items-left g c =
    let put = c.copy-else-items-left.ensures in
    record { same_reference = put.same_reference; held = put.held ∙ put_first _ _ _ _ (omega arith) (omega arith) }
