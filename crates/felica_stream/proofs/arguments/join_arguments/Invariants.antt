-- `join_arguments` stays within the line.
-- Assumes nothing.
use Rattle.std.proofs.Common.{◌≤◌, IfSome, length}
use Rattle.felica_stream.proofs.arguments.join_arguments.Given as goal

abbrev pub invariant-loop-i : goal.invariant-loop-i
invariant-loop-i g l = IfSome l.end (λ end. end ≤ length l.line)
