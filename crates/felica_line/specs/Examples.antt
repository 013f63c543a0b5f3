-- Codes and their marks; computed in proofs/Examples.antt.
-- Assumes nothing.
use Rattle.std.specs.Prelude.{ℕ, ◌≡◌, List, [], ◌∷◌, map}
-- the type of text literals, for which std has no name
use Prim.Native.String.{String}
use Rattle.felica_text.specs.Text.{text}
use Rattle.felica_line.specs.Line.{mark_text}

pub record Example : Type 0 where
  pub code : ℕ
  pub mark : String

infix 5 ◌gets_mark◌
abbrev pub ◌gets_mark◌ : ℕ → String → Example
code gets_mark mark = record { code = code; mark = mark }

unfoldable pub AllMarked : List Example → Type 0
AllMarked examples = map (λ x. mark_text x.code) examples ≡ map (λ x. text x.mark) examples

unfoldable pub marks : List Example
marks =
    -- areas: attribute 0, and attribute 1, where "the lowest bit says only that no sub-area may be made"
    (0x0000 gets_mark "a")
    ∷ (0x0001 gets_mark "a")
    ∷ (0x0040 gets_mark "a")
    ∷ (0x0041 gets_mark "a")
    ∷ (0xFFC1 gets_mark "a")
    -- the system, and its neighbour
    ∷ (0xFFFF gets_mark "s")
    ∷ (0xFFFE gets_mark "k")
    -- services, the least and the greatest attribute that is no area's among them
    ∷ (0x1009 gets_mark "o")
    ∷ (0x100B gets_mark "o")
    ∷ (0x1008 gets_mark "k")
    ∷ (0x0002 gets_mark "k")
    ∷ (0x0003 gets_mark "o")
    ∷ (0x003F gets_mark "o")
    ∷ []
