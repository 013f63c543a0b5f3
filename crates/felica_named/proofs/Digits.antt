-- Numbers of a list put on a walk along its text.
-- Assumes nothing.
use Rattle.std.proofs.Common.{ℕ, ◌+◌, ◌*◌, ◌%◌, ◌≤◌, ◌<◌, ◌≡◌, ◌∙◌, List, [], ◌∷◌, map, length, get_or, drop, eq-eqb, ne_eqb, arith}
use Rattle.std.proofs.Math.Nat.{mod-lt}
use Rattle.std.proofs.Math.ListN.{drop_of_length-le}
use Rattle.felica_put.specs.Put.{BufferOf, put}
use Rattle.felica_put.proofs.Laws.{drop_next}
use Rattle.felica_text.specs.Text.{digit_of}
use Rattle.felica_calls.specs.Bytes.{value_of}
use Rattle.felica_named.specs.Values.{numbers_from}

module _ {A : Type 0} (f : ℕ → A) (kept : ℕ) (s : List ℕ) (i n : ℕ) (b : BufferOf A) {all : BufferOf A} where
  pub comma_put : {c : BufferOf A} → i < length s → get_or s i 0 ≡ 44 → c ≡ put b (f n ∷ []) → put b (map f (numbers_from kept n (drop i s))) ≡ all
      → put c (map f (numbers_from kept 0 (drop (i + 1) s))) ≡ all
  unfolding numbers_from put
  comma_put h comma first e = rw first (rw (drop_next s i 0 h, eq-eqb _ _ comma) at e)

  pub digit_put : {v : ℕ} → i < length s → (get_or s i 0 ≡ 44 → ⊥) → v ≡ value_of (digit_of (get_or s i 0)) → put b (map f (numbers_from kept n (drop i s))) ≡ all
      → put b (map f (numbers_from kept (n % kept * 16 + v) (drop (i + 1) s))) ≡ all
  unfolding numbers_from
  digit_put h other digit e = rw digit (rw (drop_next s i 0 h, ne_eqb _ _ other) at e)

  pub last_put : {c : BufferOf A} → length s ≤ i → c ≡ put b (f n ∷ []) → put b (map f (numbers_from kept n (drop i s))) ≡ all → c ≡ all
  unfolding numbers_from
  last_put h last e = last ∙ rw (drop_of_length-le s h) at e

-- a number that takes another digit stays within its type
pub still_small : (kept n v : ℕ) → 0 < kept → v < 16 → n % kept * 16 + v < 16 * kept
still_small kept n v some digit = omega (arith, mod-lt n some)
