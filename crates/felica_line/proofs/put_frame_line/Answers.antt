-- `put_frame_line` meets its contract.
-- Assumes nothing.
use Rattle.std.proofs.Common.{ℕ, sym, ap, ◌∙◌, subst, List}
use Rattle.felica_command.specs.Places.{places_of, Inside}
use Rattle.felica_put.proofs.Laws.{puts_then}
use Rattle.felica_put.proofs.Lists.{puts_same}
use Rattle.felica_line.specs.Line.{frame_text, record_line, accepted_blocks}
use Rattle.felica_line.proofs.Result.{frame_says}
use Rattle.felica_line.proofs.put_frame_line.Goals as goal

pub put_result-blocks-requires : goal.put_result-blocks-requires
put_result-blocks-requires c =
    subst (λ (s : List ℕ). Inside s (places_of c.parse_frame.result)) (sym c.payload_of.ensures) c.parse_frame.ensures.3

pub returns : goal.returns
unfolding record_line
returns c =
    let gives = frame_says _ _ c.parse_frame.result c.payload_of.ensures c.parse_frame.ensures.0 in
    let result = c.put_result-blocks.ensures in
    record {
      line = puts_then c.put_decimal.ensures (puts_then c.put.ensures (puts_then (puts_same result.text (ap frame_text gives)) c.put-2.ensures));
      blocks = result.blocks ∙ ap accepted_blocks gives;
    }
