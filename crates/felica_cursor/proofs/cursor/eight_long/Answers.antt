-- `eight_long` meets its contract: each chunk that it tests is an element of 3 bytes.
-- Assumes nothing.
use Rattle.std.proofs.Common.{◌∙◌, sym, true, get_or, arith, rules, tests, ltb, ◌&&◌}
use Rattle.std.proofs.lemmas.Iterator.{YieldsList-from_slice}
use Rattle.std.proofs.lemmas.Iterator.Consumers.{fold_from_yields_List}
use Rattle.felica_cursor.proofs.Blocks.{front_sized, long_told}
use Rattle.felica_cursor.proofs.cursor.eight_long.Goals as goal

pub returns : goal.returns
returns c = λ all.
    let first = c.in-Some.ensures.cases in
    let chunks = c.as_chunks.ensures in
    let ran = fold_from_yields_List _ (λ a x. a && ltb (get_or x 0 0) 128) true c.fold.result c.fold.ensures.ran (YieldsList-from_slice c.in-Some.eight.now cc) (λ a x b q k. search (rules, tests)) in (
      front_sized 3 (λ head. ltb head 128) (omega arith) long_told _ _ c.args.bytes.now _ _ chunks.front first.same first.enough chunks.front_len (sym ran ∙ all),
      omega (arith, first.enough, chunks.front_len),
    )
