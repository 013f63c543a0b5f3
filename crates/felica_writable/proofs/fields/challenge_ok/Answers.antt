-- `felica_writable::fields::challenge_ok` meets its contract.
-- Assumes nothing.
use Rattle.std.proofs.Common.{ℕ, ◌≡◌, sym, ap, ◌∙◌, List, length, drop, take_all, length-drop, arith, rules}
use Rattle.std.proofs.lemmas.Grind.{common_steps}
use Rattle.std.proofs.Math.ListN.{drop_of_length-le}
use Rattle.felica_format.specs.Basic.{zeros}
use Rattle.felica_format.specs.Writable.{same_list, ranges_of}
use Rattle.felica_layout.specs.Layout.{ending_meant}
use Rattle.felica_writable.proofs.Laws.{all_small, zeros_from}
use Rattle.felica_writable.proofs.fields.challenge_ok.Goals as goal

pub returns-in-Some-Bytes-eq8 : goal.returns-in-Some-Bytes-eq8
returns-in-Some-Bytes-eq8 c =
    let ch = c.args.challenge in
    let filled : (ranges_of (ending_meant c.args.ending)).filled ≡ 8 = search rules in
    let long : length ch ≡ 16 = omega (arith, c.well_formed) in
    let rest = take_all 8 (drop 8 ch) (omega (arith, length-drop 8 ch)) in
    rw filled (c.all_zero.ensures ∙ rw rest (zeros_from 16 ch 8 long (all_small 256 ch (λ i. search rules))))

pub returns-in-Some-Bytes-eq16 : goal.returns-in-Some-Bytes-eq16
returns-in-Some-Bytes-eq16 c =
    let ch = c.args.challenge in
    let filled : (ranges_of (ending_meant c.args.ending)).filled ≡ 16 = search rules in
    let long : length ch ≡ 16 = omega (arith, c.well_formed) in
    rw filled
    (ap (λ (s : List ℕ). same_list s (zeros (length s))) (sym (drop_of_length-le ch {i = 16} (omega arith))) ∙ zeros_from 16 ch 16 long (all_small 256 ch (λ i. search rules)))

pub returns-in-Some-Bytes : goal.returns-in-Some-Bytes
returns-in-Some-Bytes c =
    let ch = c.args.challenge in
    let n = c.in-Some-Bytes.filled in
    let filled : (ranges_of (ending_meant c.args.ending)).filled ≡ n = search rules in
    let long : length ch ≡ 16 = omega (arith, c.well_formed) in
    let rest : c.unwrap_or.result.now ≡ drop n ch = grind (arith, common_steps) in
    rw filled (c.all_zero-in-Some-Bytes.ensures ∙ rw rest (zeros_from 16 ch n long (all_small 256 ch (λ i. search rules))))

pub returns-in_default : goal.returns-in_default
returns-in_default c =
    let ch = c.args.challenge in
    let filled : (ranges_of (ending_meant c.args.ending)).filled ≡ 0 = search rules in
    let long : length ch ≡ 16 = omega (arith, c.well_formed) in
    rw filled (c.all_zero-in_default.ensures ∙ zeros_from 16 ch 0 long (all_small 256 ch (λ i. search rules)))
