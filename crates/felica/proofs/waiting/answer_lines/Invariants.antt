-- `answer_lines` answers line after line.
-- Assumes nothing.
use Rattle.std.proofs.Common.{◌-◌, ◌≤◌, ◌≡◌, List, ℕ, length, drop}
use Rattle.felica_put.specs.Output.{held}
use Rattle.felica.specs.Held.{Passed, AnsweredUpTo}
use Rattle.felica.proofs.waiting.answer_lines.Given as goal

abbrev pub invariant-loop-end : goal.invariant-loop-end
invariant-loop-end g l = record {
  answered : (before : List ℕ) → Passed l.initial.too_long before
      → (passed : List ℕ) × Passed l.too_long passed × AnsweredUpTo (g.W.Write.contents l.initial.writer) (held l.initial.waiting.out) before l.input (g.W.Write.contents l.writer) (held l.waiting.out) passed l.rest;
  rest : l.rest ≡ drop (length l.input - length l.rest) l.input;
  inside : length l.rest ≤ length l.input;
}

abbrev pub decreases-loop-end : goal.decreases-loop-end
decreases-loop-end g l = length l.rest
