-- `felica_named::notes::form_of` meets its contract.
-- Assumes nothing.
use Rattle.std.proofs.Common.{◌≡◌, ap, ◌∙◌, get_or, drop, arith}
use Rattle.felica_put.proofs.Laws.{take_rest}
use Rattle.felica_named.specs.Form.{form_of_letter}
use Rattle.felica_named.proofs.notes.form_of.Goals as goal

pub returns-in_err-get : goal.returns-in_err-get
unfolding form_of_letter
returns-in_err-get c =
    let none : 0 ≡ get_or (drop c.args.place c.args.table.now) c.args.behind 0 = rw take_rest at (c.in_err-get.ensures.lookup.4 (omega arith) 0) in
    c.from_residual.ensures ∙ ap form_of_letter none
