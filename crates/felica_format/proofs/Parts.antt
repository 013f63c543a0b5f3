-- The laws of IDm, selector, code lists and data, each there or not.
-- Assumes nothing.
use Rattle.std.proofs.Common.{ℕ, zero, suc, ◌+◌, ◌*◌, ◌/◌, ◌%◌, ◌≤◌, ◌<◌, arith, ◌≡◌, refl, ap, Bool, true, false, List, [], ◌∷◌, ◌++◌, length, drop, length-append, drop_at, ltb, leb, eqb, ltb-true, ltb-false, eqb-true}
use Rattle.felica_format.specs.Basic.{◌and◌, all_below, Bytes, zeros, refuse_if}
use Rattle.felica_format.specs.Layout.{Selector, no_selector, type_byte, any_byte, Codes, no_codes, ◌to◌, bounds_of}
use Rattle.felica_format.specs.Read.{read_idm, read_selector, words_of, read_words, read_codes, read_data}
use Rattle.felica_format.specs.Write.{idm_bytes, selector_bytes, words_bytes, codes_bytes, data_bytes}
use Rattle.felica_format.specs.Writable.{same_list, is_empty, idm_ok, selector_ok, codes_ok, data_ok}
use Rattle.felica_format.proofs.Tests.{tests, and_left, and_right, and_both, same_list_true, same_list_refl, is_empty_true}
use Rattle.felica_format.proofs.Bytes.{head_below}
use Rattle.felica_format.proofs.Steps.{taken_value, taken_rest, refuse_if_passed, refuse_if_taken, refuse_if_pass}
use Rattle.felica_format.proofs.Laws.{Laws, absent_laws, bytes_laws, byte_laws, counted_laws}

pub idm_laws : (there : Bool) → Laws (read_idm there) (idm_bytes there) (idm_ok there)
unfolding read_idm idm_bytes idm_ok
idm_laws true = bytes_laws 8 6
idm_laws false = absent_laws (zeros 8) (λ a. same_list a (zeros 8)) (same_list_refl (zeros 8)) (λ a h. same_list_true a (zeros 8) h)

pub data_laws : (there : Bool) (m : ℕ) → Laws (read_data there m) (data_bytes there) (data_ok there m)
unfolding read_data data_bytes data_ok
data_laws true m = bytes_laws (16 * m) 17
data_laws false m = absent_laws [] is_empty refl (λ a h. is_empty_true a h)

pub selector_laws : (selector : Selector) → Laws (read_selector selector) (selector_bytes selector) (selector_ok selector)
unfolding read_selector selector_bytes selector_ok refuse_if
selector_laws no_selector = absent_laws 0 (λ b. eqb b 0) refl (λ b h. eqb-true b 0 h)
selector_laws type_byte = byte_laws (read_selector type_byte) 7 19 (λ b. ltb 1 b) (λ b. leb b 1) refl (λ b s. refl)
    (λ b h. (omega tests, omega tests)) (λ b small h. omega tests)
selector_laws any_byte = byte_laws (read_selector any_byte) 7 0 (λ b. false) (λ b. ltb b 256) refl (λ b s. refl)
    (λ b h. (refl, omega tests)) (λ b small h. omega tests)

-- n two-byte numbers
abbrev words_ok : ℕ → List ℕ → Bool
words_ok n ns = eqb (length ns) n and all_below 65536 ns

words_bytes_length : (ns : List ℕ) → length (words_bytes ns) ≡ 2 * length ns
unfolding words_bytes
words_bytes_length [] = refl
words_bytes_length (n ∷ ns) = let ih = words_bytes_length ns in omega arith

words_bytes_small : (ns : List ℕ) → all_below 65536 ns ≡ true → Bytes (words_bytes ns)
unfolding words_bytes
words_bytes_small [] e = refl
words_bytes_small (n ∷ ns) e =
    let h : n < 65536 = head_below 65536 n ns e in
    and_both (omega tests) (and_both (omega tests) (words_bytes_small ns (and_right _ _ e)))

words_of_back : (ns rest : List ℕ) → all_below 65536 ns ≡ true → words_of (length ns) (words_bytes ns ++ rest) ≡ ns
unfolding words_of words_bytes
words_of_back [] rest e = refl
words_of_back (n ∷ ns) rest e =
    let h : n % 256 + 256 * (n / 256) ≡ n = omega arith in
    let ih = words_of_back ns rest (and_right _ _ e) in
    cc

words_of_only : (n : ℕ) (s : List ℕ) → 2 * n ≤ length s → Bytes s
    → (words_ok n (words_of n s) ≡ true) × (s ≡ words_bytes (words_of n s) ++ drop (2 * n) s)
unfolding words_of words_bytes
words_of_only zero s enough small = (and_both refl refl, refl)
words_of_only (suc n) [] enough small = absurd (omega arith)
words_of_only (suc n) (a ∷ []) enough small = absurd (omega arith)
words_of_only (suc n) (a ∷ b ∷ s) enough small =
    let ih = words_of_only n s (omega arith) (and_right _ _ (and_right _ _ small)) in
    let ha : a < 256 = ltb-true _ _ (and_left _ _ small) in
    let hb : b < 256 = ltb-true _ _ (and_left _ _ (and_right _ _ small)) in
    let two : 2 * suc n ≡ suc (suc (2 * n)) = omega arith in
    let low : (a + 256 * b) % 256 ≡ a = omega arith in
    let high : (a + 256 * b) / 256 ≡ b = omega arith in
    let len : length (words_of n s) ≡ n = eqb-true _ _ (and_left _ _ ih.0) in (
      and_both (omega tests) (and_both (omega tests) (and_right _ _ ih.0)),
      rw (two, low, high) (ap (λ (r : List ℕ). a ∷ b ∷ r) ih.1),
    )

words_laws : (n : ℕ) → Laws (read_words n) words_bytes (words_ok n)
unfolding read_words
words_laws n = record {
  back = λ ns rest ok.
      let h : length ns ≡ n = eqb-true _ _ (and_left _ _ ok) in
      let w = words_bytes_length ns in
      let l : length (words_bytes ns ++ rest) ≡ length (words_bytes ns) + length rest = length-append (words_bytes ns) rest in
      let enough : ltb (length (words_bytes ns ++ rest)) (2 * n) ≡ false = omega tests in
      rw (refuse_if_pass, drop_at (words_bytes ns) rest (2 * n) (omega arith), ← h, words_of_back ns rest (and_right _ _ ok));
  only = λ s ns rest small e.
      let enough : 2 * n ≤ length s = ltb-false _ _ (refuse_if_passed _ _ _ e) in
      let t = refuse_if_taken _ _ _ e in
      let o = words_of_only n s enough small in
      (rw (← taken_value t) o.0, rw (← taken_value t, ← taken_rest t) o.1);
  small = λ ns ok. words_bytes_small ns (and_right _ _ ok);
}

pub codes_laws : (missing outside : ℕ) (codes : Codes) → (bounds_of codes).greatest < 256
    → Laws (read_codes missing outside codes) (codes_bytes codes) (codes_ok codes)
unfolding read_codes codes_bytes codes_ok
codes_laws missing outside no_codes narrow = absent_laws [] is_empty refl (λ ns h. is_empty_true ns h)
codes_laws missing outside (least to greatest) narrow =
    counted_laws missing outside least greatest narrow read_words words_bytes (λ ns. all_below 65536 ns) words_laws
