-- `answer_all` meets its contract: all is read, its lines are answered, and what waits is written.
-- Assumes nothing.
use Rattle.std.proofs.lemmas.Result.{on_ok_weaker}
use Rattle.felica_stream.proofs.Reading.{from_ok, ok_as}
use Rattle.felica.proofs.Reading.{takes_answers}
use Rattle.felica.proofs.answer_all.Goals as goal

pub returns : goal.returns
returns g c =
    let last = rw (from_ok _ _ _ c.map_err.ensures.cases c.map_err.ensures.variant c.in_ok-map_err.was) at c.answer_last.ensures in
    ok_as _ _ _ c.map_err-2.ensures.variant
    (on_ok_weaker _ (takes_answers _ _ _ _ _ _ _ _ _ _ c.in_ok-feed.ensures.all last) (rw c.filled.ensures at c.write_all.ensures.bytes))
