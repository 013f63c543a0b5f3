-- The part that a step names is the part that the layout names.
-- Assumes nothing.
use Rattle.std.proofs.Common.{ℕ, ◌*◌, ◌≤◌, arith, ◌≡◌, ap, ◌∙◌, true, List, length, take, drop, take_all, length-take-le, ltb-false}
use Rattle.felica_format.specs.Basic.{taken}
use Rattle.felica_format.specs.Read.{read_data}
use Rattle.felica_format.proofs.Steps.{refuse_if_passed}
use Rattle.felica_command.specs.Meaning.{part, bytes_at}
use Rattle.felica_command.specs.Places.{places}
use Rattle.felica_command.specs.declared.command.Part.{Part}

pub places_eq : {f f' g g' e e' d d' p p' : Part} → f ≡ f' → g ≡ g' → e ≡ e' → d ≡ d' → p ≡ p' → places f g e d p ≡ places f' g' e' d' p'
places_eq a b c d e = rw (a, b, c, d, e)

pub part_eq : (p : Part) (n m : ℕ) → p.start ≡ n → p.count ≡ m → p ≡ part n m
part_eq p n m a b = ap (λ (x : ℕ). part x p.count) a ∙ ap (part n) b

-- data that were taken are all there
pub data_whole : (s : List ℕ) (p : Part) (at blocks : ℕ) {v r : List ℕ} → read_data true blocks (drop at s) ≡ taken v r → p ≡ part at (16 * blocks)
    → length (bytes_at s p) ≡ 16 * blocks
unfolding read_data
data_whole s p at blocks took is =
    let fits : 16 * blocks ≤ length (drop at s) = ltb-false _ _ (refuse_if_passed _ 17 (taken (take (16 * blocks) (drop at s)) (drop (16 * blocks) (drop at s))) took) in
    rw is (length-take-le (16 * blocks) (drop at s) fits)

-- the package is all that is left
pub package_whole : (s : List ℕ) (at : ℕ) → bytes_at s (part at (length (drop at s))) ≡ drop at s
package_whole s at = take_all (length (drop at s)) (drop at s) (omega arith)
