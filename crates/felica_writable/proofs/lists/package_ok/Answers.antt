-- `felica_writable::lists::package_ok` meets its contract.
-- Assumes nothing.
use Rattle.std.proofs.Common.{◌≡◌, Some, rules}
use Rattle.felica_format.specs.Writable.{package_ok}
use Rattle.felica_layout.specs.declared.Behind.TheVariants.{Package}
use Rattle.felica_writable.proofs.Laws.{all_small}
use Rattle.felica_writable.proofs.lists.package_ok.Goals as goal

pub returns-in-Some-Package : goal.returns-in-Some-Package
unfolding package_ok
returns-in-Some-Package c =
    let is : c.args.behind ≡ Some Package = search rules in
    rw (is, all_small 256 c.args.package.now (λ i. (c.type_inv.package i).fits))
