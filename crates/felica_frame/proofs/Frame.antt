-- A frame by its length byte.
-- Assumes nothing.
use Rattle.std.proofs.Common.{◌≡◌, ℕ, suc, List, [], ◌∷◌, length, None, refl, arith, eq-eqb, ne_eqb}
use Rattle.felica_format.specs.Read.{refused, read_payload, read_frame}

pub frame_empty : (s : List ℕ) → length s ≡ 0 → read_frame s ≡ refused 1 None
unfolding read_frame
frame_empty [] h = refl
frame_empty (x ∷ xs) h = absurd (omega arith)

pub frame_length : (n : ℕ) (payload : List ℕ) → (n ≡ suc (length payload) → ⊥) → read_frame (n ∷ payload) ≡ refused 2 None
unfolding read_frame
frame_length n payload wrong = rw (ne_eqb n (suc (length payload)) wrong)

pub frame_payload : (n : ℕ) (payload : List ℕ) → n ≡ suc (length payload) → read_frame (n ∷ payload) ≡ read_payload payload
unfolding read_frame
frame_payload n payload right = rw (eq-eqb n (suc (length payload)) right)
