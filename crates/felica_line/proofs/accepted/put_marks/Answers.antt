-- `put_marks` meets its contract: a code for each turn.
-- Assumes nothing.
use Rattle.std.proofs.Common.{◌≡◌, ◌<◌, ◌≤◌, ◌∙◌, ap, arith, length, get_or}
use Rattle.felica_command.specs.Meaning.{codes_at}
use Rattle.felica_cursor.proofs.Codes.{codes_paired}
use Rattle.felica_put.proofs.Laws.{puts_nothing}
use Rattle.felica_put.proofs.Lists.{puts_same, puts_turn, puts_all}
use Rattle.felica_line.specs.Line.{mark_text}
use Rattle.felica_line.proofs.accepted.put_marks.Goals as goal

pub loop-code-init : goal.loop-code-init
loop-code-init c = puts_nothing

pub loop-code-preserved : goal.loop-code-preserved
loop-code-preserved c =
    let a = c.args in
    let i = c.loop-code.code-index in
    let codes = codes_at a.payload.now a.list in
    let pairs = codes_paired a.payload.now a.list c.requires c.as_chunks.ensures.front in
    let more : i < length codes = omega (arith, pairs.long, c.loop-code-test.true) in
    let code : c.from_le_bytes.result ≡ get_or codes i 0 = omega (arith, c.from_le_bytes.ensures, pairs.each i) in
    puts_turn mark_text codes i 0 more c.loop-code.invariant (puts_same c.put.ensures (c.mark_of.ensures ∙ ap mark_text code))

pub returns : goal.returns
returns c =
    let a = c.args in
    let codes = codes_at a.payload.now a.list in
    let pairs = codes_paired a.payload.now a.list c.requires c.as_chunks.ensures.front in
    let all : length codes ≤ c.loop-code.code-index = omega (arith, pairs.long, c.loop-code-test.false) in
    puts_all mark_text codes c.loop-code.code-index all c.loop-code.invariant
