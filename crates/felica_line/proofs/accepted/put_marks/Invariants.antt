-- `put_marks` meets its contract: a code for each turn.
-- Assumes nothing.
use Rattle.std.proofs.Common.{take}
use Rattle.felica_command.specs.Meaning.{codes_at}
use Rattle.felica_put.specs.Output.{Puts}
use Rattle.felica_line.specs.Line.{marks_text}
use Rattle.felica_line.proofs.accepted.put_marks.Given as goal

abbrev pub invariant-loop-code : goal.invariant-loop-code
invariant-loop-code l = Puts l.initial.out l.out (marks_text (take l.code-index (codes_at l.payload l.fn.list)))
