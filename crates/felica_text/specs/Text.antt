-- Text as the bytes of its characters, and numbers as text.
-- Assumes nothing.
use Rattle.std.specs.Prelude.{ℕ, zero, suc, ◌+◌, ◌-◌, ◌/◌, ◌%◌, cond, List, [], ◌∷◌, ◌++◌, length, ltb, leb, eqb, Option, Some, None}
use Rattle.std.specs.List.{flat_map}
-- the codes of a text's characters
pub use Rattle.std.specs.Prelude.{codes as text}

-- Hexadecimal: the digit of a number below 16, in capitals, and the number of a digit of either case. 48 to 57 are the codes of 0 to 9, 65 to 70 of A to F, 97 to 102 of a to f.
abbrev pub digit_text : ℕ → ℕ
digit_text n = cond (ltb n 10) (48 + n) (55 + n)

abbrev pub digit_of : ℕ → Option ℕ
digit_of d =
    cond (ltb d 48) None
    (cond (leb d 57) (Some (d - 48))
    (cond (ltb d 65) None
    (cond (leb d 70) (Some (d - 55))
    (cond (ltb d 97) None
    (cond (leb d 102) (Some (d - 87))
    None)))))

-- a byte in two digits, a two-byte number in four
abbrev pub byte_text : ℕ → List ℕ
byte_text b = digit_text (b / 16 % 16) ∷ digit_text (b % 16) ∷ []

abbrev pub word_text : ℕ → List ℕ
word_text w = byte_text (w / 256) ++ byte_text (w % 256)

-- bytes in two digits each
abbrev pub digits_text : List ℕ → List ℕ
digits_text = flat_map byte_text

-- `-` is no bytes
unfoldable pub bytes_text : List ℕ → List ℕ
bytes_text [] = text "-"
bytes_text (b ∷ bs) = digits_text (b ∷ bs)

-- a number below 16 in one digit
abbrev pub nibble_text : ℕ → List ℕ
nibble_text n = digit_text (n % 16) ∷ []

module _ {A : Type 0} (entry : A → List ℕ) where
  -- entries, each behind a comma, whose code is 44
  abbrev pub behind_commas : List A → List ℕ
  behind_commas = flat_map (λ a. 44 ∷ entry a)

  -- a list: entries parted by commas, and `-` for none
  unfoldable pub parted : List A → List ℕ
  parted [] = text "-"
  parted (a ∷ rest) = entry a ++ behind_commas rest

-- a number's decimal digits, from the first; the count is at least the number. std's `decimal` has at most 64 digits.
unfoldable pub decimal_digits : ℕ → ℕ → List ℕ
decimal_digits zero n = (48 + n) ∷ []
decimal_digits (suc k) n = cond (ltb n 10) ((48 + n) ∷ []) (decimal_digits k (n / 10) ++ ((48 + n % 10) ∷ []))

unfoldable pub decimal_text : ℕ → List ℕ
decimal_text n = decimal_digits n n

-- the bytes before the first one that equals b
unfoldable pub before : ℕ → List ℕ → List ℕ
before b [] = []
before b (x ∷ xs) = cond (eqb x b) [] (x ∷ before b xs)

-- how many those are, and so the place of that byte, where there is one
abbrev pub place_of : ℕ → List ℕ → Option ℕ
place_of b s = cond (ltb (length (before b s)) (length s)) (Some (length (before b s))) None
