-- `felica_writable::fields::idm_ok` meets its contract.
-- Assumes nothing.
use Rattle.std.proofs.Common.{◌≡◌, ap, ◌∙◌, length, arith, rules}
use Rattle.felica_format.specs.Basic.{zeros}
use Rattle.felica_format.specs.Writable.{same_list, idm_ok}
use Rattle.felica_writable.proofs.Laws.{known_tests, all_small}
use Rattle.felica_writable.proofs.fields.idm_ok.Goals as goal

pub returns-then-present : goal.returns-then-present
unfolding idm_ok
returns-then-present c = grind (arith, known_tests, c.well_formed, all_small 256 c.args.idm (λ i. search rules))

pub returns-else-present : goal.returns-else-present
unfolding idm_ok
returns-else-present c =
    let long : length c.args.idm ≡ 8 = omega (arith, c.well_formed) in
    rw c.if-present.false (c.all_zero.ensures ∙ ap (λ n. same_list c.args.idm (zeros n)) long)
