-- `answer_lines` answers the lines that end.
-- Assumes nothing.
use Rattle.std.proofs.Common.{◌+◌, [], refl, sym, ◌∙◌, arith}
use Rattle.felica_put.proofs.Laws.{take_rest}
use Rattle.felica.proofs.Lines.{line_inside}
use Rattle.felica.proofs.Held.{answered_start, answered_line, rest_start, rest_next}
use Rattle.felica.proofs.waiting.answer_lines.Goals as goal

pub loop-end-init : goal.loop-end-init
loop-end-init g c = record { answered = λ before is. (before, is, answered_start _ _ before c.args.input.now); rest = rest_start c.args.input.now; inside = omega arith }

pub loop-end-preserved : goal.loop-end-preserved
loop-end-preserved g c =
    let loop = c.loop-end in
    let place = sym c.find.ensures ∙ c.in-Some.is in
    let rest = take_rest (c.in-Some.end + 1) loop.rest.now in
    let next = rest_next c.args.input.now loop.rest.now _ c.in-Some.end loop.invariant.rest loop.invariant.inside rest (line_inside loop.rest.now c.in-Some.end place) in
    record {
      answered = λ before is.
          let done = loop.invariant.answered before is in
          ([], refl, answered_line _ _ before c.args.input.now _ _ done.0 loop.rest.now done.2 c.in-Some.end _ _ _ rest place (c.in_ok-answer_next.ensures done.0 done.1));
      rest = next.0;
      inside = next.1;
    }
