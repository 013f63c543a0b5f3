-- Decimal digits on a walk along a field, and the number that they come to.
-- Assumes nothing.
use Rattle.std.proofs.Common.{ℕ, ◌+◌, ◌-◌, ◌*◌, ◌≤◌, ◌<◌, ◌≡◌, true, List, [], ◌∷◌, length, get_or, drop, arith, lt-ltb, ne_eqb}
use Rattle.std.specs.Prelude.{Err}
use Rattle.std.proofs.Math.ListN.{drop_of_length-le}
use Rattle.std.proofs.lemmas.Bool.Decides.{nat_tests}
use Rattle.std.proofs.lemmas.List.{drop_more}
use Rattle.felica_calls.specs.Number.{all_decimal, decimal_from, read_number}
use Rattle.felica_calls.specs.declared.fault.Fault.TheVariants.{BufferTooLong}

module _ (s : List ℕ) (i : ℕ) (h : i < length s) where
  -- what is known of a digit, and of those behind it
  pub digit_is : all_decimal (drop i s) ≡ true → (48 ≤ get_or s i 0) × (get_or s i 0 ≤ 57) × (all_decimal (drop (i + 1) s) ≡ true)
  unfolding all_decimal
  digit_is e =
      let e₁ = rw (drop_more s i 0 h) at e in
      grind (arith, nat_tests, e₁)

  pub decimal_next : (n : ℕ) → decimal_from n (drop i s) ≡ decimal_from (10 * n + (get_or s i 0 - 48)) (drop (i + 1) s)
  unfolding decimal_from
  decimal_next n = rw (drop_more s i 0 h)

pub decimal_end : (s : List ℕ) (i n : ℕ) → length s ≤ i → decimal_from n (drop i s) ≡ n
unfolding decimal_from
decimal_end s i n h = rw (drop_of_length-le s h)

decimal_least : (n : ℕ) (s : List ℕ) → n ≤ decimal_from n s
unfolding decimal_from
decimal_least n [] = omega arith
decimal_least n (d ∷ s) = omega (arith, decimal_least (10 * n + (d - 48)) s)

-- a digit with which it passes the greatest
pub number_past : (most : ℕ) (s : List ℕ) (i n : ℕ) → i < length s → all_decimal s ≡ true → decimal_from n (drop i s) ≡ decimal_from 0 s
    → most < 10 * n + (get_or s i 0 - 48) → read_number most s ≡ Err BufferTooLong
unfolding read_number
number_past most s i n h digits same past =
    let some : (length s ≡ 0 → ⊥) = λ e. omega arith in
    let long : most < decimal_from 0 s = omega (arith, same, decimal_next s i h n, decimal_least (10 * n + (get_or s i 0 - 48)) (drop (i + 1) s)) in
    rw (ne_eqb _ _ some, digits, lt-ltb _ _ long)
