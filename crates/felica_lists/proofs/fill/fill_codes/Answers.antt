-- `fill_codes` meets its contract: a code for each turn.
-- Assumes nothing.
use Rattle.std.proofs.Common.{◌≡◌, ◌<◌, ◌≤◌, arith, refl, length, get_or}
use Rattle.std.proofs.lemmas.List.{drop_all}
use Rattle.felica_command.specs.Meaning.{codes_at}
use Rattle.felica_command.proofs.Inside.{words_of_length}
use Rattle.felica_cursor.proofs.Codes.{codes_paired}
use Rattle.felica_cursor.proofs.Laws.{front_at}
use Rattle.felica_lists.proofs.Laws.{store_more, store_done}
use Rattle.felica_lists.proofs.fill.fill_codes.Goals as goal

pub loop-i-init : goal.loop-i-init
loop-i-init c = refl

pub loop-i-preserved : goal.loop-i-preserved
loop-i-preserved c =
    let l = c.loop-i in
    let a = c.args in
    let codes = codes_at a.payload.now a.list in
    let pairs = codes_paired a.payload.now a.list c.requires.0 c.as_chunks.ensures.front in
    let more : l.i < length codes = omega (arith, pairs.long, c.loop-i-test.true) in
    let code : c.from_le_bytes.result ≡ get_or codes l.i 0 = omega (arith, c.from_le_bytes.ensures, pairs.each l.i) in
    store_more l.out l.i (front_at codes l.i more) code l.invariant

pub returns : goal.returns
returns c =
    let l = c.loop-i in
    let a = c.args in
    let codes = codes_at a.payload.now a.list in
    let pairs = codes_paired a.payload.now a.list c.requires.0 c.as_chunks.ensures.front in
    let none : length codes ≤ l.i = omega (arith, pairs.long, c.loop-i-test.false) in
    store_done l.out l.i a.out.now codes (drop_all l.i codes none) (rw words_of_length (omega arith)) l.invariant
