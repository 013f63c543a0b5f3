-- `answer_line` puts the answer to the line, and a line feed.
-- Assumes nothing.
use Rattle.std.proofs.Common.{ℕ, ◌≡◌, List, [], ◌∷◌}
use Rattle.felica_put.specs.declared.Output.{Output}
use Rattle.felica_put.specs.Output.{Puts}
use Rattle.felica_put.proofs.Laws.{puts_then}
use Rattle.felica_calls.specs.Call.{without_cr}
use Rattle.felica_answering.specs.Answers.{CallPut, LinePut}
use Rattle.felica_answering.proofs.answer_line.Goals as goal

-- a line feed behind the answer to what stands before a CR
line_ends : (line call bytes : List ℕ) {a b c : Output ℕ} → call ≡ without_cr line → CallPut call bytes a b → Puts b c (10 ∷ []) → LinePut line bytes a c
line_ends line call bytes e answer feed = let told = rw e at answer in (told.0, told.1, puts_then told.2 feed)

pub returns : goal.returns
returns c = line_ends c.args.line.now c.without_cr.result.now c.args.bytes.now c.without_cr.ensures c.answer_call.ensures c.put.ensures
