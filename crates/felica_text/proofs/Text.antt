-- Text of bytes, and the decimal digits of a number by its last digit.
-- Assumes nothing.
use Rattle.std.proofs.Common.{ℕ, zero, suc, ◌+◌, ◌-◌, ◌*◌, ◌/◌, ◌%◌, ◌≤◌, ◌<◌, ◌≡◌, refl, sym, ap, ◌∙◌, List, [], ◌∷◌, ◌++◌, length, drop, set, arith, length-append, length-drop, append_assoc}
use Rattle.std.proofs.Math.Nat.{not-suc-le-zero}
use Rattle.std.proofs.lemmas.List.{drop-set}
use Rattle.std.proofs.lemmas.Bool.{lt-ltb, le-ltb}
use Rattle.std.proofs.lemmas.Bool.Decides.{nat_tests}
use Rattle.felica_text.specs.Text.{text, digits_text, bytes_text, decimal_digits, decimal_text}

pub bytes_none : (s : List ℕ) → length s ≡ 0 → text "-" ≡ bytes_text s
unfolding bytes_text
bytes_none [] h = refl
bytes_none (b ∷ s) h = absurd (omega arith)

pub bytes_some : (s : List ℕ) → (length s ≡ 0 → ⊥) → digits_text s ≡ bytes_text s
unfolding bytes_text
bytes_some [] h = absurd (h refl)
bytes_some (b ∷ s) h = refl

small : (k n : ℕ) → n < 10 → decimal_digits k n ≡ (48 + n) ∷ []
unfolding decimal_digits
small zero n h = refl
small (suc k) n h = rw (lt-ltb _ _ h)

more : (k n : ℕ) → 10 ≤ n → decimal_digits (suc k) n ≡ decimal_digits k (n / 10) ++ ((48 + n % 10) ∷ [])
unfolding decimal_digits
more k n h = rw (le-ltb _ _ h)

-- any count that is large enough gives the same
same : (f g n : ℕ) → n ≤ f → n ≤ g → decimal_digits f n ≡ decimal_digits g n
unfolding decimal_digits
same zero g n hf hg = small zero n (omega arith) ∙ sym (small g n (omega arith))
same (suc f) zero n hf hg = small (suc f) n (omega arith) ∙ sym (small zero n (omega arith))
same (suc f) (suc g) n hf hg = grind (arith, nat_tests, same f g (n / 10))

pub decimal_small : (n : ℕ) → n < 10 → decimal_text n ≡ (48 + n) ∷ []
unfolding decimal_text
decimal_small n h = small n n h

pub decimal_more : (n : ℕ) → 10 ≤ n → decimal_text n ≡ decimal_text (n / 10) ++ ((48 + n % 10) ∷ [])
unfolding decimal_text
decimal_more zero h = absurd (not-suc-le-zero h)
decimal_more (suc n) h =
    more n (suc n) h ∙ ap (λ (r : List ℕ). r ++ ((48 + suc n % 10) ∷ [])) (same n (suc n / 10) (suc n / 10) (omega arith) (omega arith))

-- the digits of what is left of a number once its last ones are taken: none of 0
unfoldable pub digits_left : ℕ → List ℕ
digits_left zero = []
digits_left (suc n) = decimal_text (suc n)

pub none_left : (n : ℕ) → n ≡ 0 → digits_left n ≡ []
unfolding digits_left
none_left n e = rw e

pub all_left : (n : ℕ) → 0 < n → digits_left n ≡ decimal_text n
unfolding digits_left
all_left zero h = absurd (omega arith)
all_left (suc n) h = refl

last_left : (n : ℕ) → 0 < n → digits_left n ≡ digits_left (n / 10) ++ ((48 + n % 10) ∷ [])
last_left n h = grind (arith, all_left n, all_left (n / 10), none_left (n / 10), decimal_small n, decimal_more n)

-- while digits are left, those that stand in an array from i on do not fill it, if it has room for all
pub room_left : (n i : ℕ) (s : List ℕ) {t : List ℕ} → 0 < n → digits_left n ++ drop i s ≡ t → length t ≤ length s → 0 < i
room_left n i s h is fits =
    let all = simp (length-append, length-drop) at (ap length is) in
    let some = simp length-append at (ap length (last_left n h)) in
    omega (arith, all, some)

-- the last digit that is left is taken, and goes in front of them
pub digit_taken : (n i : ℕ) (s : List ℕ) {t : List ℕ} → 0 < n → 0 < i → i ≤ length s → digits_left n ++ drop i s ≡ t
    → digits_left (n / 10) ++ drop (i - 1) (set s (i - 1) (48 + n % 10)) ≡ t
digit_taken n i s h p k is =
    let next : (i - 1) + 1 ≡ i = omega arith in
    rw (drop-set s (i - 1) _ (omega arith), next) (sym (append_assoc (digits_left (n / 10)) _ _) ∙ ap (λ (r : List ℕ). r ++ drop i s) (sym (last_left n h)) ∙ is)

-- a number below a power of ten has no more digits than that has noughts
abbrev pub tens : ℕ → ℕ
tens zero = 10
tens (suc k) = 10 * tens k

pub decimal_length : (k n : ℕ) → n < tens k → length (decimal_text n) ≤ suc k
decimal_length zero n h = rw (decimal_small n h) (omega arith)
decimal_length (suc k) n h = grind (arith, nat_tests, decimal_small n, decimal_more n, decimal_length k (n / 10), length-append {A = ℕ})
