-- Words that the format is written in: bytes, two-byte numbers, and the answer of one step.
-- Assumes nothing.
use Rattle.std.specs.Prelude.{ℕ, suc, ◌+◌, ◌*◌, ◌/◌, ◌%◌, ◌≡◌, Bool, true, false, ◌||◌, List, [], ◌∷◌, get_or, replicate, ltb, eqb}

-- Both tests are true. (Unlike mathlib's `&&` it computes only where a proof says so; `bind` and `refuse_if` below are alike.)
infixr 35 ◌and◌
unfoldable pub ◌and◌ : Bool → Bool → Bool
true and b = b
false and b = false

-- each number is below the bound
abbrev pub all_below : ℕ → List ℕ → Bool
all_below k [] = true
all_below k (x ∷ xs) = ltb x k and all_below k xs

-- a list of bytes is a list of numbers below 256
abbrev pub Bytes : List ℕ → Type 0
Bytes s = all_below 256 s ≡ true

-- the number is among those listed
abbrev pub is_one_of : List ℕ → ℕ → Bool
is_one_of [] x = false
is_one_of (y ∷ ys) x = eqb x y || is_one_of ys x

abbrev pub zeros : ℕ → List ℕ
zeros n = replicate n 0

-- "Two-byte numbers have the low byte first": the number of two bytes, the number at a place, the bytes of a number
abbrev pub word_of : ℕ → ℕ → ℕ
word_of low high = low + 256 * high

abbrev pub word_at : List ℕ → ℕ → ℕ
word_at s at = word_of (get_or s at 0) (get_or s (suc at) 0)

abbrev pub word_bytes : ℕ → List ℕ
word_bytes n = n % 256 ∷ n / 256 ∷ []

-- the answer of a step: what it took, with the bytes behind it; or the number of the ground on which it refuses
pub data Step (A : Type 0) : Type 0 where
  taken : A → List ℕ → Step A
  refuse : ℕ → Step A

-- "The first step that refuses ends the walk, and its number is the answer."
unfoldable pub bind : {A B : Type 0} → Step A → (A → List ℕ → Step B) → Step B
bind (taken a rest) next = next a rest
bind (refuse n) next = refuse n

-- the refusal n where the test is true, else the step
unfoldable pub refuse_if : {A : Type 0} → Bool → ℕ → Step A → Step A
refuse_if true n step = refuse n
refuse_if false n step = step
