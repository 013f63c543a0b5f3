-- `list_input` meets its contract.
-- Assumes nothing.
use Rattle.std.proofs.Common.{◌-◌, ◌≤◌, ap, ◌∙◌, arith, take, length-take-le}
use Rattle.felica_stream.proofs.Held.{rest_moved}
use Rattle.list_log.proofs.list_input.Goals as goal

pub returns-clause-listed : goal.returns-clause-listed
returns-clause-listed g c =
    let input = c.args.input.now in
    let used = c.in_ok-used.used in
    let listed = c.in_ok-used.ensures.listed in
    let inside : used ≤ input.held = omega (arith, listed.0, length-take-le input.held input.room.now input.inside) in
    (used, listed.1, ap (take (input.held - used)) c.keep_rest.ensures ∙ rest_moved input.room.now used input.held inside input.inside)

pub returns-clause-short : goal.returns-clause-short
returns-clause-short g c =
    let input = c.args.input.now in
    let all = length-take-le input.held input.room.now input.inside in
    λ few. omega (arith, c.in_ok-used.ensures.short few, c.in_ok-used.ensures.listed.0, all)
