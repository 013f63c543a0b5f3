-- The bytes before the first one that equals a given byte are the first ones, as many as the place at which it stands.
-- Assumes nothing.
use Rattle.std.proofs.Common.{ℕ, ◌≡◌, ◌==◌, ◌≤◌, refl, sym, ap, ◌∙◌, List, [], ◌∷◌, length, take, length-take, position, arith}
use Rattle.std.specs.List.{position_or_len}
use Rattle.std.proofs.lemmas.Bool.Decides.{nat_tests}
use Rattle.std.proofs.lemmas.List.{take_all}
use Rattle.std.proofs.lemmas.List.Recursion.{is_position_or_len}
use Rattle.felica_text.specs.Text.{before, place_of}

module _ (b : ℕ) where
  count : (s : List ℕ) → length (before b s) ≡ position_or_len (λ x. x == b) s
  unfolding before
  count = is_position_or_len (λ s. length (before b s)) (λ x. x == b) refl (λ x xs. grind (arith, nat_tests))

  pub place_found : (s : List ℕ) → position (λ x. x == b) s ≡ place_of b s
  place_found s = rw (count s) refl

  pub take_before : (s : List ℕ) → take (length (before b s)) s ≡ before b s
  unfolding before
  take_before [] = refl
  take_before (x ∷ xs) = grind (arith, nat_tests, take_before xs)

  pub before_within : (s : List ℕ) → length (before b s) ≤ length s
  before_within s = omega (arith, length-take (length (before b s)) s, ap length (take_before s))

  -- all of them where no such byte stands
  pub before_all : (s : List ℕ) → length s ≤ length (before b s) → before b s ≡ s
  before_all s h = sym (take_before s) ∙ take_all (length (before b s)) s h
