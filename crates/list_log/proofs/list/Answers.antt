-- `list` meets its contract: all is read, and its listing is written.
-- Assumes nothing.
use Rattle.std.proofs.lemmas.Result.{on_ok_weaker}
use Rattle.felica_put.specs.Output.{held}
use Rattle.felica_stream.proofs.Reading.{ok_as}
use Rattle.list_log.proofs.Held.{takes_listing}
use Rattle.list_log.proofs.list.Goals as goal

pub returns : goal.returns
returns g c =
    let fed = c.in_ok-feed.ensures in
    ok_as _ _ _ c.map_err.ensures.variant (on_ok_weaker _ (takes_listing _ _ _ _ _ _ (held c.feed.new.listing.out) _ fed.none_left fed.all) c.finish.ensures.bytes)
