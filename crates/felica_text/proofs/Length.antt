-- How long the texts of bytes and of lists are.
-- Assumes nothing.
use Rattle.std.proofs.Common.{ℕ, suc, ◌+◌, ◌*◌, ◌≤◌, ◌≡◌, refl, List, [], ◌∷◌, length, length-append, arith}
use Rattle.std.proofs.Math.Nat.{mul-suc}
use Rattle.felica_text.specs.Text.{digits_text, bytes_text, behind_commas, parted}

digits_length : (s : List ℕ) → length (digits_text s) ≡ 2 * length s
digits_length [] = refl
digits_length (b ∷ s) = let rest = digits_length s in omega arith

-- two digits a byte, and `-` for none
pub bytes_length : (s : List ℕ) → length (bytes_text s) ≤ 2 * length s + 1
unfolding bytes_text
bytes_length [] = omega arith
bytes_length (b ∷ s) = let all = digits_length (b ∷ s) in omega arith

module _ {A : Type 0} (entry : A → List ℕ) (k : ℕ) (each : (a : A) → length (entry a) ≡ k) where
  behind_length : (l : List A) → length (behind_commas entry l) ≡ suc k * length l
  behind_length [] = omega (arith, mul-suc)
  behind_length (a ∷ l) =
      let rest = behind_length l in
      let turn = mul-suc (suc k) (length l) in
      rw (length-append (entry a) (behind_commas entry l), each a, turn) (omega arith)

  -- entries of k characters each, parted by commas, and `-` for none
  pub parted_length : (l : List A) → length (parted entry l) ≤ suc k * length l + 1
  unfolding parted
  parted_length [] = omega arith
  parted_length (a ∷ l) =
      let rest = behind_length l in
      let turn = mul-suc (suc k) (length l) in
      rw (length-append (entry a) (behind_commas entry l), each a, turn) (omega arith)
