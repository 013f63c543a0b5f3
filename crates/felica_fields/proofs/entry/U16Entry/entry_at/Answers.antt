-- A code of a list is read as the definitions read it.
-- Assumes nothing.
use Rattle.std.proofs.Common.{◌≡◌, refl, ◌<◌, ◌∙◌, drop, length, length-drop, arith}
use Rattle.std.proofs.lemmas.List.{drop-drop}
use Rattle.felica_put.proofs.Laws.{take_rest}
use Rattle.felica_fields.proofs.Entries.{code_cut, code_whole}
use Rattle.felica_fields.proofs.entry.U16Entry.entry_at.Goals as goal

pub returns-in_err-rest : goal.returns-in_err-rest
returns-in_err-rest c =
    let s = c.args.payload.now in
    let short : length (drop c.args.at s) < 2 = omega (arith, length-drop c.args.at s, c.in_err-rest.ensures.lookup.0) in
    rw (c.from_residual.ensures, code_cut (drop c.args.at s) short) refl

pub returns-in_default : goal.returns-in_default
returns-in_default c =
    let s = c.args.payload.now in
    let is : c.in_ok-rest.rest.now ≡ drop c.args.at s = c.in_ok-rest.ensures.lookup.0.2 ∙ take_rest c.args.at s in
    rw (code_cut (drop c.args.at s) (rw is at c.in_default.len_below)) refl

pub returns : goal.returns
returns c =
    let s = c.args.payload.now in
    let is : c.in_ok-rest.rest.now ≡ drop c.args.at s = c.in_ok-rest.ensures.lookup.0.2 ∙ take_rest c.args.at s in
    rw (code_whole (drop c.args.at s) (rw is at c.in-len2-up.len_at_least), drop-drop 2 c.args.at s, c.word_of.ensures, is) refl
