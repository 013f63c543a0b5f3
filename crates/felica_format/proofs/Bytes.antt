-- Lists whose numbers are below a bound; below 256, they are lists of bytes.
-- Assumes nothing.
use Rattle.std.proofs.Common.{ℕ, zero, suc, ◌+◌, ◌≤◌, ◌<◌, add-zero, zero-add, arith, ◌≡◌, refl, sym, ap, ◌∙◌, Bool, true, List, [], ◌∷◌, ◌++◌, length, get_or, take, drop, drop-cons, ltb, ltb-true}
use Rattle.felica_format.specs.Basic.{◌and◌, all_below, Bytes, zeros}
use Rattle.felica_format.proofs.Tests.{and_left, and_right, and_both, and_assoc}

pub all_below_append : (k : ℕ) (a b : List ℕ) → all_below k (a ++ b) ≡ (all_below k a and all_below k b)
unfolding ◌and◌
all_below_append k [] b = refl
all_below_append k (x ∷ a) b = ap (λ (t : Bool). ltb x k and t) (all_below_append k a b) ∙ sym (and_assoc (ltb x k) (all_below k a) (all_below k b))

pub bytes_right : (a b : List ℕ) → Bytes (a ++ b) → Bytes b
bytes_right [] b p = p
bytes_right (x ∷ a) b p = bytes_right a b (and_right _ _ p)

pub bytes_take : (n : ℕ) (s : List ℕ) → Bytes s → Bytes (take n s)
bytes_take zero s p = refl
bytes_take (suc n) [] p = refl
bytes_take (suc n) (x ∷ s) p = and_both (and_left _ _ p) (bytes_take n s (and_right _ _ p))

pub bytes_zeros : (n : ℕ) → Bytes (zeros n)
bytes_zeros zero = refl
bytes_zeros (suc n) = and_both refl (bytes_zeros n)

pub head_below : (k x : ℕ) (s : List ℕ) → all_below k (x ∷ s) ≡ true → x < k
head_below k x s p = ltb-true x k (and_left _ _ p)

pub tail_below : (k x : ℕ) (s : List ℕ) → all_below k (x ∷ s) ≡ true → all_below k s ≡ true
tail_below k x s p = and_right _ _ p

-- 0 is below too, so every place holds a byte
pub byte_below : (i : ℕ) (s : List ℕ) → Bytes s → get_or s i 0 < 256
byte_below i [] p = omega arith
byte_below zero (x ∷ s) p = head_below 256 x s p
byte_below (suc i) (x ∷ s) p = byte_below i s (and_right _ _ p)

-- a list that is long enough, taken apart into its first n numbers and the rest
abbrev pub firsts : ℕ → List ℕ → ℕ → List ℕ
firsts zero s at = []
firsts (suc n) s at = get_or s at 0 ∷ firsts n s (suc at)

firsts_from : (n at : ℕ) (s : List ℕ) → at + n ≤ length s → drop at s ≡ firsts n s at ++ drop (at + n) s
firsts_from zero at s h = rw add-zero
firsts_from (suc n) at s h =
    let ih = firsts_from n (suc at) s (omega arith) in
    let e : suc at + n ≡ at + suc n = omega arith in
    drop-cons s at 0 (omega arith) ∙ ap (λ (r : List ℕ). get_or s at 0 ∷ r) (rw e at ih)

pub firsts_drop : (n : ℕ) (s : List ℕ) → n ≤ length s → s ≡ firsts n s 0 ++ drop n s
firsts_drop n s h = rw zero-add at (firsts_from n 0 s (omega arith))
