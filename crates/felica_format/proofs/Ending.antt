-- The laws of the fixed bytes that end a body, and of what stands behind them.
-- Assumes nothing.
use Rattle.std.proofs.Common.{ℕ, ◌+◌, ◌/◌, ◌%◌, ◌-◌, ◌≤◌, ◌<◌, lt_of_lt_of_le, arith, ◌≡◌, refl, sym, ap, ◌∙◌, subst₂, Bool, true, false, List, [], ◌++◌, append-nil, length, get_or, take, drop, length-append, take-append-drop, lit≤, take_at, drop_at, length-take-le, ltb-true, ltb-false, leb-true, eqb-true, lt-ltb, le-ltb, le-leb, eq-eqb}
use Rattle.std.proofs.lemmas.Bool.{not-false}
use Rattle.std.proofs.lemmas.List.{length-replicate}
use Rattle.felica_format.specs.Basic.{◌and◌, Bytes, zeros, word_of, word_at, taken, refuse_if}
use Rattle.felica_format.specs.Command.{EndFields, end_fields}
use Rattle.felica_format.specs.Layout.{Ending, bytes, word, words, reserved, polling, parameter, Behind, nothing, ignored_bytes, a_package}
use Rattle.felica_format.specs.Read.{size_of, is_time_slots, zero_at, read_values, too_long, read_ending, read_package}
use Rattle.felica_format.specs.Write.{ending_bytes, package_bytes}
use Rattle.felica_format.specs.Writable.{Ranges, ranges, ranges_of, end_fields_ok, package_ok, is_empty}
use Rattle.felica_format.proofs.Tests.{tests, and_left, and_right, and_both, same_list_true, same_list_refl, is_empty_true, length_zero}
use Rattle.felica_format.proofs.Bytes.{all_below_append, bytes_right, bytes_take, bytes_zeros, byte_below, firsts_drop}
use Rattle.felica_format.proofs.Steps.{taken_value, taken_rest, refuse_if_passed, refuse_if_taken}

same_taken : {n n' i i' o o' c c' : ℕ} {b b' r r' : List ℕ} → n ≡ n' → i ≡ i' → o ≡ o' → c ≡ c' → b ≡ b' → r ≡ r'
    → taken (end_fields n i o c b) r ≡ taken (end_fields n' i' o' c' b') r'
same_taken p q r s t u = λ k. taken (record { number = p k; index = q k; option = r k; choice = s k; challenge = t k }) (u k)

-- what its ranges say of each fixed field
record In (r : Ranges) (f : EndFields) : Type 0 where
  number : f.number < r.numbers
  index : f.index < r.indices
  option : f.option < r.options
  choice : r.choices f.choice ≡ true
  size : length f.challenge ≡ 16
  small : Bytes f.challenge
  blank : drop r.filled f.challenge ≡ zeros (16 - r.filled)

fields_in : (r : Ranges) (f : EndFields) → end_fields_ok r f ≡ true → In r f
unfolding end_fields_ok
fields_in r f ok =
    let ok₁ = and_right _ _ (and_right _ _ (and_right _ _ ok)) in
    let ok₂ = and_right _ _ ok₁ in
    record {
      number = ltb-true _ _ (and_left _ _ ok);
      index = ltb-true _ _ (and_left _ _ (and_right _ _ ok));
      option = ltb-true _ _ (and_left _ _ (and_right _ _ (and_right _ _ ok)));
      choice = and_left _ _ ok₁;
      size = eqb-true _ _ (and_left _ _ (and_left _ _ ok₂));
      small = and_right _ _ (and_left _ _ ok₂);
      blank = same_list_true _ _ (and_right _ _ ok₂);
    }

in_fields : (r : Ranges) (f : EndFields) → In r f → end_fields_ok r f ≡ true
unfolding end_fields_ok
in_fields r f h =
    and_both (lt-ltb _ _ h.number) (and_both (lt-ltb _ _ h.index) (and_both (lt-ltb _ _ h.option) (and_both h.choice
    (and_both (and_both (eq-eqb _ _ h.size) h.small) (rw h.blank (same_list_refl (zeros (16 - r.filled))))))))

-- what was written
values_back : (e : Ending) (f : EndFields) (rest : List ℕ) → size_of e ≤ 16 → In (ranges_of e) f → read_values e (ending_bytes e f ++ rest) ≡ taken f rest
unfolding read_values ending_bytes refuse_if ◌and◌
values_back (bytes n) f rest short h =
    let c : f.choice ≡ 0 = eqb-true _ _ h.choice in
    let len : length (take n f.challenge) ≡ n = length-take-le n f.challenge (omega (arith, h.size)) in
    same_taken (omega arith) (omega arith) (omega arith) (omega arith)
    (rw (take_at (take n f.challenge) rest n len, ← h.blank) (take-append-drop n f.challenge))
    (drop_at (take n f.challenge) rest n len)
values_back word f rest short h =
    let c : f.choice ≡ 0 = eqb-true _ _ h.choice in
    same_taken (omega arith) (omega arith) (omega arith) (omega arith) (sym h.blank) refl
values_back words f rest short h =
    let c : f.choice ≡ 0 = eqb-true _ _ h.choice in
    same_taken (omega arith) (omega arith) (omega arith) (omega arith) (sym h.blank) refl
values_back reserved f rest short h =
    let c : f.choice ≡ 0 = eqb-true _ _ h.choice in
    same_taken (omega arith) (omega arith) (omega arith) (omega arith) (sym h.blank) refl
values_back polling f rest short h =
    rw (le-ltb 2 f.option (omega arith), h.choice)
    (same_taken (omega arith) (omega arith) refl refl (sym h.blank) refl)
values_back parameter f rest short h =
    let c : f.choice ≤ 1 = leb-true _ _ h.choice in
    rw (le-ltb 1 f.option (omega arith), le-ltb 1 f.choice (omega arith))
    (same_taken (omega arith) (omega arith) refl refl (sym h.blank) refl)

ending_length : (e : Ending) (f : EndFields) → size_of e ≤ 16 → In (ranges_of e) f → length (ending_bytes e f) ≡ size_of e
unfolding ending_bytes
ending_length (bytes n) f short h = length-take-le n f.challenge (omega (arith, h.size))
ending_length word f short h = refl
ending_length words f short h = refl
ending_length reserved f short h = refl
ending_length polling f short h = refl
ending_length parameter f short h = refl

slots_byte : (x : ℕ) → is_time_slots x ≡ true → x < 256
unfolding is_time_slots
slots_byte x e = lt_of_lt_of_le (ltb-true _ _ (and_left _ _ e)) (lit≤ tt)

values_small : (e : Ending) (f : EndFields) → In (ranges_of e) f → Bytes (ending_bytes e f)
unfolding ending_bytes
values_small (bytes n) f h = bytes_take n f.challenge h.small
values_small word f h = and_both (omega tests) (and_both (omega tests) refl)
values_small words f h = and_both (omega tests) (and_both (omega tests) (and_both (omega tests) (and_both (omega tests) refl)))
values_small reserved f h = bytes_zeros 2
values_small polling f h =
    let c = slots_byte f.choice h.choice in
    and_both (omega tests) (and_both (omega tests) (and_both (omega tests) (and_both (omega tests) refl)))
values_small parameter f h =
    let c : f.choice ≤ 1 = leb-true _ _ h.choice in
    and_both refl (and_both refl (and_both refl (and_both refl (and_both (omega tests) (and_both (omega tests) (bytes_zeros 2))))))

-- what was read
Values : Ending → List ℕ → EndFields → List ℕ → Type 0
Values e s f rest = In (ranges_of e) f × (s ≡ ending_bytes e f ++ rest)

values_as : (e : Ending) (s : List ℕ) {f g : EndFields} {r t : List ℕ} → taken g t ≡ taken f r → Values e s g t → Values e s f r
values_as e s q h = subst₂ (λ (x : EndFields) (y : List ℕ). Values e s x y) (taken_value q) (taken_rest q) h

-- no challenge
in_blank : {n i o c ns is os : ℕ} {cs : ℕ → Bool} → n < ns → i < is → o < os → cs c ≡ true → In (ranges ns is os cs 0) (end_fields n i o c (zeros 16))
in_blank p q r t = record { number = p; index = q; option = r; choice = t; size = refl; small = bytes_zeros 16; blank = refl }

values_only : (e : Ending) (s : List ℕ) (f : EndFields) (rest : List ℕ) → size_of e ≤ 16 → size_of e ≤ length s → Bytes s → read_values e s ≡ taken f rest → Values e s f rest
unfolding read_values ending_bytes Values
values_only (bytes n) s f rest short enough small r =
    let len : length (take n s) ≡ n = length-take-le n s enough in
    let all : length (take n s ++ zeros (16 - n)) ≡ length (take n s) + length (zeros (16 - n)) = length-append (take n s) (zeros (16 - n)) in
    let left : length (zeros (16 - n)) ≡ 16 - n = length-replicate (16 - n) 0 in
    values_as (bytes n) s r (
      record {
        number = omega arith;
        index = omega arith;
        option = omega arith;
        choice = refl;
        size = omega arith;
        small = rw all_below_append (and_both (bytes_take n s small) (bytes_zeros (16 - n)));
        blank = drop_at (take n s) (zeros (16 - n)) n len;
      },
      rw (take_at (take n s) (zeros (16 - n)) n len) (sym (take-append-drop n s)),
    )
values_only word s f rest short enough small r =
    let a = byte_below 0 s small in
    let b = byte_below 1 s small in
    let low : word_at s 0 % 256 ≡ get_or s 0 0 = omega arith in
    let high : word_at s 0 / 256 ≡ get_or s 1 0 = omega arith in
    values_as word s r (in_blank (omega arith) (omega arith) (omega arith) refl, rw (low, high) (firsts_drop 2 s enough))
values_only words s f rest short enough small r =
    let a = byte_below 0 s small in
    let b = byte_below 1 s small in
    let c = byte_below 2 s small in
    let d = byte_below 3 s small in
    let low : word_at s 0 % 256 ≡ get_or s 0 0 = omega arith in
    let high : word_at s 0 / 256 ≡ get_or s 1 0 = omega arith in
    let low₂ : word_at s 2 % 256 ≡ get_or s 2 0 = omega arith in
    let high₂ : word_at s 2 / 256 ≡ get_or s 3 0 = omega arith in
    values_as words s r (in_blank (omega arith) (omega arith) (omega arith) refl, rw (low, high, low₂, high₂) (firsts_drop 4 s enough))
values_only reserved s f rest short enough small r =
    let z : zero_at 2 s 0 ≡ true = not-false _ (refuse_if_passed _ _ _ r) in
    let a : get_or s 0 0 ≡ 0 = eqb-true _ _ (and_left _ _ z) in
    let b : get_or s 1 0 ≡ 0 = eqb-true _ _ (and_left _ _ (and_right _ _ z)) in
    values_as reserved s (refuse_if_taken _ _ _ r) (in_blank (omega arith) (omega arith) (omega arith) refl, rw (a, b) at (firsts_drop 2 s enough))
values_only polling s f rest short enough small r =
    let o : get_or s 2 0 ≤ 2 = ltb-false _ _ (refuse_if_passed _ _ _ r) in
    let r₁ = refuse_if_taken _ _ _ r in
    let c : is_time_slots (get_or s 3 0) ≡ true = not-false _ (refuse_if_passed _ _ _ r₁) in
    let a = byte_below 0 s small in
    let b = byte_below 1 s small in
    let low : word_of (get_or s 1 0) (get_or s 0 0) % 256 ≡ get_or s 1 0 = omega arith in
    let high : word_of (get_or s 1 0) (get_or s 0 0) / 256 ≡ get_or s 0 0 = omega arith in
    values_as polling s (refuse_if_taken _ _ _ r₁) (in_blank (omega arith) (omega arith) (omega arith) c, rw (low, high) (firsts_drop 4 s enough))
values_only parameter s f rest short enough small r =
    let r₁ = refuse_if_taken _ _ _ r in
    let r₂ = refuse_if_taken _ _ _ r₁ in
    let r₃ = refuse_if_taken _ _ _ r₂ in
    let p₀ = refuse_if_passed _ _ _ r in
    let p₁ = refuse_if_passed _ _ _ r₁ in
    let p₂ = refuse_if_passed _ _ _ r₂ in
    let p₃ = refuse_if_passed _ _ _ r₃ in
    let z : zero_at 4 s 0 ≡ true = search (not-false, p₀, p₁, p₂, p₃) in
    let y : zero_at 2 s 6 ≡ true = search (not-false, p₀, p₁, p₂, p₃) in
    let c : get_or s 5 0 ≤ 1 = omega tests in
    let d0 : get_or s 0 0 ≡ 0 = eqb-true _ _ (and_left _ _ z) in
    let d1 : get_or s 1 0 ≡ 0 = eqb-true _ _ (and_left _ _ (and_right _ _ z)) in
    let d2 : get_or s 2 0 ≡ 0 = eqb-true _ _ (and_left _ _ (and_right _ _ (and_right _ _ z))) in
    let d3 : get_or s 3 0 ≡ 0 = eqb-true _ _ (and_left _ _ (and_right _ _ (and_right _ _ (and_right _ _ z)))) in
    let d6 : get_or s 6 0 ≡ 0 = eqb-true _ _ (and_left _ _ y) in
    let d7 : get_or s 7 0 ≡ 0 = eqb-true _ _ (and_left _ _ (and_right _ _ y)) in
    values_as parameter s (refuse_if_taken _ _ _ r₃)
    (in_blank (omega arith) (omega arith) (omega tests) (le-leb _ _ c), rw (d0, d1, d2, d3, d6, d7) at (firsts_drop 8 s enough))

-- What may be left behind a body: bytes where they are ignored, else nothing.
unfoldable pub Left : Behind → List ℕ → Type 0
Left nothing rest = rest ≡ []
Left ignored_bytes rest = Bytes rest
Left a_package rest = rest ≡ []

pub left_none : (b : Behind) → Left b []
unfolding Left
left_none nothing = refl
left_none ignored_bytes = refl
left_none a_package = refl

pub left_small : (b : Behind) (rest : List ℕ) → Left b rest → Bytes rest
unfolding Left
left_small nothing rest h = rw h
left_small ignored_bytes rest h = h
left_small a_package rest h = rw h

-- it does not make the body too long
left_fits : (b : Behind) (pack rest : List ℕ) (n : ℕ) → package_ok b pack ≡ true → Left b rest → too_long b n (n + length (package_bytes b pack ++ rest)) ≡ false
unfolding package_bytes Left
left_fits nothing pack rest n ok h = let e : length rest ≡ 0 = ap length h in omega tests
left_fits ignored_bytes pack rest n ok h = refl
left_fits a_package pack rest n ok h = refl

pub ending_back : (e : Ending) (b : Behind) (f : EndFields) (pack rest : List ℕ) → size_of e ≤ 16 → end_fields_ok (ranges_of e) f ≡ true → package_ok b pack ≡ true → Left b rest
    → read_ending e b (ending_bytes e f ++ (package_bytes b pack ++ rest)) ≡ taken f (package_bytes b pack ++ rest)
unfolding read_ending refuse_if
ending_back e b f pack rest short ok pok left =
    let h = fields_in (ranges_of e) f ok in
    let after : List ℕ = package_bytes b pack ++ rest in
    let size = ending_length e f short h in
    let len : length (ending_bytes e f ++ after) ≡ size_of e + length after = rw (length-append (ending_bytes e f) after, size) in
    rw (len, le-ltb (size_of e + length after) (size_of e) (omega arith), left_fits b pack rest (size_of e) pok left) (values_back e f after short h)

pub package_back : (b : Behind) (pack rest : List ℕ) → package_ok b pack ≡ true → Left b rest → read_package b (package_bytes b pack ++ rest) ≡ taken pack rest
unfolding read_package package_bytes package_ok Left
package_back nothing pack rest ok left = rw (is_empty_true pack ok)
package_back ignored_bytes pack rest ok left = rw (is_empty_true pack ok)
package_back a_package pack rest ok left = rw (left, append-nil)

pub package_small : (b : Behind) (pack : List ℕ) → package_ok b pack ≡ true → Bytes (package_bytes b pack)
unfolding package_bytes package_ok
package_small nothing pack ok = refl
package_small ignored_bytes pack ok = refl
package_small a_package pack ok = ok

pub ending_small : (e : Ending) (f : EndFields) → end_fields_ok (ranges_of e) f ≡ true → Bytes (ending_bytes e f)
ending_small e f ok = values_small e f (fields_in (ranges_of e) f ok)

package_only : (b : Behind) (n : ℕ) (after pack rest : List ℕ) → Bytes after → too_long b n (n + length after) ≡ false
    → read_package b after ≡ taken pack rest → (package_ok b pack ≡ true) × Left b rest × (after ≡ package_bytes b pack ++ rest)
unfolding read_package package_bytes package_ok Left
package_only nothing n after pack rest small fits r =
    let none : is_empty after ≡ true = length_zero after (omega tests) in
    (rw (← taken_value r), sym (taken_rest r) ∙ is_empty_true after none, taken_rest r)
package_only ignored_bytes n after pack rest small fits r = (rw (← taken_value r), rw (← taken_rest r) small, taken_rest r)
package_only a_package n after pack rest small fits r = (rw (← taken_value r) small, sym (taken_rest r), rw (← taken_value r, ← taken_rest r) (sym (append-nil after)))

pub ending_only : (e : Ending) (b : Behind) (s : List ℕ) (f : EndFields) (after pack rest : List ℕ) → size_of e ≤ 16 → Bytes s
    → read_ending e b s ≡ taken f after → read_package b after ≡ taken pack rest
    → (end_fields_ok (ranges_of e) f ≡ true) × (package_ok b pack ≡ true) × Left b rest × (s ≡ ending_bytes e f ++ (package_bytes b pack ++ rest))
unfolding read_ending Values
ending_only e b s f after pack rest short small r q =
    let enough : size_of e ≤ length s = ltb-false _ _ (refuse_if_passed _ _ _ r) in
    let r₁ = refuse_if_taken _ _ _ r in
    let fits : too_long b (size_of e) (length s) ≡ false = refuse_if_passed _ _ _ r₁ in
    let v = values_only e s f after short enough small (refuse_if_taken _ _ _ r₁) in
    let len : length s ≡ size_of e + length after = ap length v.1 ∙ rw (length-append, ending_length e f short v.0) in
    let p = package_only b (size_of e) after pack rest (bytes_right (ending_bytes e f) after (rw v.1 at small)) (rw len at fits) q in
    (in_fields (ranges_of e) f v.0, p.0, p.1, v.1 ∙ ap (λ (t : List ℕ). ending_bytes e f ++ t) p.2)
