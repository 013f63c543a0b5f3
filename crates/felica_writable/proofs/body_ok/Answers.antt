-- `felica_writable::body_ok` meets its contract.
-- Assumes nothing.
use Rattle.std.proofs.Common.{arith}
use Rattle.felica_layout.specs.Layout.{layout_meant}
use Rattle.felica_writable.specs.Handed.{handed_by}
use Rattle.felica_writable.proofs.Laws.{known_tests, tests}
use Rattle.felica_writable.proofs.body_ok.Goals as goal

pub returns-then-end_fields_ok : goal.returns-then-end_fields_ok
returns-then-end_fields_ok c = grind (arith, known_tests, tests (layout_meant c.args.layout) (handed_by c.args.command))

pub returns-else-end_fields_ok : goal.returns-else-end_fields_ok
returns-else-end_fields_ok c = grind (arith, known_tests, tests (layout_meant c.args.layout) (handed_by c.args.command))
