-- `felica_write::size::short_size` meets its contract.
-- Assumes nothing.
use Rattle.std.proofs.Common.{◌≡◌, rules, arith}
use Rattle.felica_write.specs.Size.{short_size}
use Rattle.felica_write.proofs.Elements.{size_bound}
use Rattle.felica_write.proofs.size.short_size.Goals as goal

pub returns-clause-bound : goal.returns-clause-bound
returns-clause-bound c =
    let size : c.sum.result ≡ short_size c.args.numbers.now = search rules in
    omega (arith, size_bound c.args.numbers.now)
