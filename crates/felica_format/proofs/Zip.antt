-- A block list as elements and as three lists: one is made of the other and back.
-- Assumes nothing.
use Rattle.std.proofs.Common.{ℕ, arith, ◌≡◌, refl, ap, true, List, [], ◌∷◌, map, length}
use Rattle.felica_format.specs.Command.{Command, Element, zip_elements, elements_of}
use Rattle.felica_format.specs.Writable.{same_length, one_length}
use Rattle.felica_format.proofs.Tests.{tests, and_left, and_right}

pub zip_lists : (es : List Element) → zip_elements (map (λ e. e.number) es) (map (λ e. e.place) es) (map (λ e. e.mode) es) ≡ es
unfolding zip_elements
zip_lists [] = refl
zip_lists (e ∷ es) = ap (λ (r : List Element). e ∷ r) (zip_lists es)

numbers_zip : (ns ps ms : List ℕ) → map (λ e. e.number) (zip_elements ns ps ms) ≡ ns
unfolding zip_elements
numbers_zip [] ps ms = refl
numbers_zip (n ∷ ns) ps ms = ap (λ (r : List ℕ). n ∷ r) (numbers_zip ns _ _)

places_zip : (ns ps ms : List ℕ) → length ps ≡ length ns → map (λ e. e.place) (zip_elements ns ps ms) ≡ ps
unfolding zip_elements
places_zip [] [] ms h = refl
places_zip [] (p ∷ ps) ms h = absurd (omega arith)
places_zip (n ∷ ns) [] ms h = absurd (omega arith)
places_zip (n ∷ ns) (p ∷ ps) ms h = ap (λ (r : List ℕ). p ∷ r) (places_zip ns ps _ (omega arith))

modes_zip : (ns ps ms : List ℕ) → length ms ≡ length ns → map (λ e. e.mode) (zip_elements ns ps ms) ≡ ms
unfolding zip_elements
modes_zip [] ps [] h = refl
modes_zip [] ps (m ∷ ms) h = absurd (omega arith)
modes_zip (n ∷ ns) ps [] h = absurd (omega arith)
modes_zip (n ∷ ns) ps (m ∷ ms) h = ap (λ (r : List ℕ). m ∷ r) (modes_zip ns _ ms (omega arith))

-- the three lists of a command are those of its elements
pub record Zipped (c : Command) : Type 0 where
  pub numbers : map (λ e. e.number) (elements_of c) ≡ c.numbers
  pub places : map (λ e. e.place) (elements_of c) ≡ c.places
  pub modes : map (λ e. e.mode) (elements_of c) ≡ c.modes

pub zipped : (c : Command) → one_length c ≡ true → Zipped c
unfolding same_length
zipped c ok =
    let p = and_left _ _ ok in
    let m = and_right _ _ ok in
    record {
      numbers = numbers_zip c.numbers c.places c.modes;
      places = places_zip c.numbers c.places c.modes (omega tests);
      modes = modes_zip c.numbers c.places c.modes (omega tests);
    }
