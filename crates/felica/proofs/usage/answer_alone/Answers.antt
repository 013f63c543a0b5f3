-- `answer_alone` writes the answer to the line, and nothing else.
-- Assumes nothing.
use Rattle.std.proofs.Common.{[], refl}
use Rattle.std.proofs.lemmas.Result.{on_ok_weaker}
use Rattle.felica.proofs.Held.{takes_answer}
use Rattle.felica.proofs.usage.answer_alone.Goals as goal

pub returns : goal.returns
returns g c =
    on_ok_weaker _ (takes_answer c.args.line.now _ _ _ _ _ c.requires.1 (c.in_ok-answer_next.ensures [] refl)) (rw c.filled.ensures at c.write_all.ensures.bytes)
