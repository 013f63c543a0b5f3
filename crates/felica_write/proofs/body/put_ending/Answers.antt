-- `felica_write::body::put_ending` meets its contract.
-- Assumes nothing.
use Rattle.std.proofs.Common.{◌≡◌, Some, take_all, arith, rules}
use Rattle.felica_format.specs.Write.{ending_bytes}
use Rattle.felica_layout.specs.declared.Ending.TheVariants.{Bytes}
use Rattle.felica_write.proofs.body.put_ending.Goals as goal

pub returns-in-Some-Bytes-eq16 : goal.returns-in-Some-Bytes-eq16
unfolding ending_bytes
returns-in-Some-Bytes-eq16 c =
    let is : c.args.ending ≡ Some (Bytes 16) = search rules in
    rw (is, take_all 16 c.args.fixed.challenge (omega (arith, c.well_formed))) c.put_all-in-Some-Bytes-eq16.ensures
