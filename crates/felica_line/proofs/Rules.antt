-- The rules of the marks, from their definition.
-- Assumes nothing.
use Rattle.std.proofs.Common.{ℕ, zero, suc, ◌%◌, ◌≤◌, ◌<◌, ◌≡◌, ◌≢◌, ◌⊎◌, inl, inr, refl, Bool, true, false, cond, List, [], ◌∷◌, arith}
use Rattle.std.proofs.Math.Dec.{eqb}
use Rattle.std.proofs.lemmas.Bool.{eqb-true, ltb-true, eq-eqb, ne_eqb, lt-ltb, le-ltb}
use Rattle.felica_text.specs.Text.{text}
use Rattle.felica_line.specs.Line.{key_text, is_system, is_area, mark_text}
use Rattle.felica_line.specs.Rules.{SystemExactly, AreaExactly, OthersKept}

pub system_marked : (code : ℕ) → code ≡ 0xFFFF → mark_text code ≡ text "s"
system_marked code is = rw (eq-eqb code 0xFFFF is)

-- FFFF is no area: its low six bits are 63
pub area_marked : (code : ℕ) → code % 64 < 2 → mark_text code ≡ text "a"
area_marked code low = rw (ne_eqb code 0xFFFF λ is. omega arith, lt-ltb (code % 64) 2 low)

pub other_marked : (code : ℕ) → code ≢ 0xFFFF → 2 ≤ code % 64 → mark_text code ≡ key_text code
other_marked code other high = rw (ne_eqb code 0xFFFF other, le-ltb (code % 64) 2 high)

-- what holds of the four marks holds of every code's; `s` and `a` come with what they tell of the code
pub each_mark : (code : ℕ) (P : List ℕ → Type 0) → (code ≡ 0xFFFF → P (text "s")) → (code % 64 < 2 → P (text "a")) → P (text "o") → P (text "k") → P (mark_text code)
each_mark code P system area o k = go (is_system code) refl (is_area code) refl (eqb (code % 2) 1)
  where
    go : (x : Bool) → is_system code ≡ x → (y : Bool) → is_area code ≡ y → (odd : Bool) → P (cond x (text "s") (cond y (text "a") (cond odd (text "o") (text "k"))))
    go true is y low odd = system (eqb-true code 0xFFFF is)
    go false is true low odd = area (ltb-true (code % 64) 2 low)
    go false is false low true = o
    go false is false low false = k

same_byte : {a b : ℕ} → a ∷ [] ≡ b ∷ [] → a ≡ b
same_byte h = cc

pub system_exactly : SystemExactly
system_exactly code = (
  each_mark code (λ mark. mark ≡ text "s" → code ≡ 0xFFFF) (λ is h. is)
      (λ low h. absurd (omega (arith, same_byte h)))
      (λ h. absurd (omega (arith, same_byte h)))
      (λ h. absurd (omega (arith, same_byte h))),
  system_marked code,
)

zero_or_one : (n : ℕ) → n < 2 → (n ≡ 0) ⊎ (n ≡ 1)
zero_or_one zero h = inl refl
zero_or_one (suc zero) h = inr refl
zero_or_one (suc (suc n)) h = absurd (omega arith)

pub area_exactly : AreaExactly
area_exactly code = (
  each_mark code (λ mark. mark ≡ text "a" → (code % 64 ≡ 0) ⊎ (code % 64 ≡ 1))
      (λ is h. absurd (omega (arith, same_byte h)))
      (λ low h. zero_or_one (code % 64) low)
      (λ h. absurd (omega (arith, same_byte h)))
      (λ h. absurd (omega (arith, same_byte h))),
  λ low. area_marked code (omega (arith, low)),
)

pub others_kept : OthersKept
others_kept code other not_0 not_1 = other_marked code other (omega arith)
