-- Digits and bytes, and the parts of a line.
-- Assumes nothing.
use Rattle.std.proofs.Common.{ℕ, zero, suc, ◌/◌, ◌%◌, ◌≤◌, ◌<◌, ◌≡◌, refl, ap, ◌∙◌, true, false, List, [], ◌∷◌, ◌++◌, length, get_or, drop, arith, ne_eqb, le-ltb}
use Rattle.std.proofs.lemmas.Bool.Decides.{nat_tests}
use Rattle.std.specs.Prelude.{Ok}
use Rattle.std.specs.List.{flat_map}
use Rattle.std.specs.Simd.{first_chunks}
use Rattle.felica_text.specs.Text.{digit_of}
use Rattle.felica_put.specs.Put.{buffer, put}
use Rattle.felica_put.proofs.Laws.{put_front}
use Rattle.felica_calls.specs.Field.{is_byte}
use Rattle.felica_calls.specs.Read.{read}
use Rattle.felica_calls.specs.Bytes.{value_of, byte_of, bytes_of, all_digits, has_zero_x, read_bytes}

-- a digit's value is below 16
pub value_small : (d : ℕ) → value_of (digit_of d) < 16
value_small d = grind (arith, nat_tests)

pub length_bytes : (s : List ℕ) → length (bytes_of s) ≡ length s / 2
unfolding bytes_of
length_bytes [] = refl
length_bytes (d ∷ []) = refl
length_bytes (d ∷ e ∷ s) = omega (arith, length_bytes s)

-- the byte of two digits, as what a turn puts
abbrev pub pair_bytes : List ℕ → List ℕ
pair_bytes pair = byte_of (get_or pair 0 0) (get_or pair 1 0) ∷ []

-- the pairs of digits, each as its byte
pub bytes_of_pairs : (n : ℕ) (s : List ℕ) → length s / 2 ≡ n → flat_map pair_bytes (first_chunks 2 n s) ≡ bytes_of s
unfolding bytes_of
bytes_of_pairs zero [] h = refl
bytes_of_pairs zero (d ∷ []) h = refl
bytes_of_pairs zero (d ∷ e ∷ s) h = absurd (omega arith)
bytes_of_pairs (suc n) [] h = absurd (omega arith)
bytes_of_pairs (suc n) (d ∷ []) h = absurd (omega arith)
bytes_of_pairs (suc n) (high ∷ low ∷ s) h = ap (◌∷◌ (byte_of high low)) (bytes_of_pairs n s (omega (arith, h)))

-- the bytes decoded to a buffer with room for them
pub bytes_read : (s l : List ℕ) {m : List ℕ} {n : ℕ} → (length s ≡ 0 → ⊥) → is_byte 45 s ≡ false → has_zero_x s ≡ false → all_digits s ≡ true → (length s % 2 ≡ 1 → ⊥) → length s / 2 ≤ length l
    → buffer m n ≡ put (buffer l 0) (bytes_of s) → read (Ok (length s / 2)) m ≡ read_bytes s l
unfolding read_bytes
bytes_read s l some other bare digits even room e =
    let front = ap (λ b. b.bytes) (e ∙ put_front (bytes_of s) l (omega (arith, length_bytes s))) ∙ ap (λ n. bytes_of s ++ drop n l) (length_bytes s) in
    rw (ne_eqb _ _ some, other, bare, digits, ne_eqb _ _ even, le-ltb _ _ room, front)
