-- A lent buffer that numbers are put into, of any kind. Where it is full the rest is left out.
-- Assumes nothing.
use Rattle.std.specs.Prelude.{ℕ, ◌+◌, cond, List, [], ◌∷◌, length, set, ltb}

-- what it holds, and the place of the next number
pub record BufferOf (A : Type 0) : Type 0 where
  pub bytes : List A
  pub next : ℕ

-- one of bytes, or of other unsigned numbers
abbrev pub Buffer : Type 0
Buffer = BufferOf ℕ

abbrev pub buffer : {A : Type 0} → List A → ℕ → BufferOf A
buffer bytes next = record { bytes = bytes; next = next }

abbrev pub put_byte : {A : Type 0} → BufferOf A → A → BufferOf A
put_byte b v = cond (ltb b.next (length b.bytes)) (buffer (set b.bytes b.next v) (b.next + 1)) b

-- the buffer with a list put into it
unfoldable pub put : {A : Type 0} → BufferOf A → List A → BufferOf A
put b [] = b
put b (v ∷ vs) = put (put_byte b v) vs
