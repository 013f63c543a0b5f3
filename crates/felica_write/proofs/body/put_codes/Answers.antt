-- `felica_write::body::put_codes` meets its contract.
-- Assumes nothing.
use Rattle.std.proofs.Common.{◌≡◌, refl, sym, false, Option, None, Some, is_none, ℕ, List, ◌∷◌, length, arith, rules}
use Rattle.felica_format.specs.declared.constants.Bounds.{Bounds}
use Rattle.felica_format.specs.Basic.{word_bytes}
use Rattle.felica_format.specs.Write.{words_bytes, codes_bytes}
use Rattle.felica_layout.specs.Layout.{codes_meant}
use Rattle.felica_put.proofs.Laws.{puts_then, puts_nothing}
use Rattle.felica_put.proofs.Lists.{puts_same, puts_turn, puts_all}
use Rattle.felica_write.proofs.Elements.{words_flat}
use Rattle.felica_write.proofs.body.put_codes.Goals as goal

counted : (codes : Option Bounds) (ns : List ℕ) → is_none codes ≡ false → codes_bytes (codes_meant codes) ns ≡ length ns ∷ words_bytes ns
unfolding codes_bytes
counted None ns e = cc
counted (Some bounds) ns e = refl

pub loop-code-init : goal.loop-code-init
loop-code-init c = puts_nothing

pub loop-code-preserved : goal.loop-code-preserved
loop-code-preserved c = let l = c.loop-code in puts_turn word_bytes c.args.list.now l.code-index 0 (omega arith) l.invariant c.put_word.ensures

pub returns : goal.returns
returns c =
    let l = c.args.list.now in
    let there : is_none c.args.codes ≡ false = search rules in
    rw (counted c.args.codes l there)
    (puts_then c.put.ensures (puts_same (puts_all word_bytes l c.loop-code.code-index (omega arith) c.loop-code.invariant) (sym (words_flat l))))
