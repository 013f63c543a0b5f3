-- Tests that are true or false, and what that says.
-- Assumes nothing.
use Rattle.std.proofs.Common.{ℕ, ◌≤◌, ◌<◌, arith, ◌≡◌, refl, sym, Bool, true, false, ◌||◌, true≢false, List, [], ◌∷◌, length, ltb-true, ltb-false, leb-true, leb-false, eqb-true, lt-ltb, le-ltb, le-leb, eq-eqb, ne_eqb}
use Rattle.std.proofs.lemmas.Bool.{lt-leb}
use Rattle.felica_format.specs.Basic.{◌and◌, all_below, is_one_of}
use Rattle.felica_format.specs.Writable.{same_list, is_empty}

-- `omega tests` reads tests on numbers among the hypotheses, and proves one
pub ruleset tests = (arith, ltb-true, ltb-false, leb-true, leb-false, eqb-true, lt-ltb, le-ltb, le-leb, lt-leb, eq-eqb)

pub and_left : (a b : Bool) → (a and b) ≡ true → a ≡ true
unfolding ◌and◌
and_left true b e = refl
and_left false b e = e

pub and_right : (a b : Bool) → (a and b) ≡ true → b ≡ true
unfolding ◌and◌
and_right true b e = e
and_right false b e = absurd (true≢false (sym e))

pub and_both : {a b : Bool} → a ≡ true → b ≡ true → (a and b) ≡ true
unfolding ◌and◌
and_both {a} {b} p q = rw (p, q)

pub and_assoc : (a b c : Bool) → ((a and b) and c) ≡ (a and (b and c))
unfolding ◌and◌
and_assoc true b c = refl
and_assoc false b c = refl

pub or_none : (a b : Bool) → (a || b) ≡ false → (a ≡ false) × (b ≡ false)
or_none true b e = absurd (true≢false e)
or_none false b e = (refl, e)

pub same_list_true : (a b : List ℕ) → same_list a b ≡ true → a ≡ b
same_list_true [] [] e = refl
same_list_true [] (y ∷ ys) e = absurd (true≢false (sym e))
same_list_true (x ∷ xs) [] e = absurd (true≢false (sym e))
same_list_true (x ∷ xs) (y ∷ ys) e =
    let p : x ≡ y = eqb-true x y (and_left _ _ e) in
    let q : xs ≡ ys = same_list_true xs ys (and_right _ _ e) in
    cc

pub same_list_refl : (a : List ℕ) → same_list a a ≡ true
same_list_refl [] = refl
same_list_refl (x ∷ xs) = and_both (eq-eqb x x refl) (same_list_refl xs)

pub is_empty_true : {A : Type 0} (l : List A) → is_empty l ≡ true → l ≡ []
is_empty_true [] e = refl
is_empty_true (x ∷ xs) e = absurd (true≢false (sym e))

pub length_zero : {A : Type 0} (l : List A) → length l ≤ 0 → is_empty l ≡ true
length_zero [] h = refl
length_zero (x ∷ l) h = absurd (omega arith)

-- what is not below a bound is none of a list that is
pub none_of : (k : ℕ) (ys : List ℕ) (x : ℕ) → all_below k ys ≡ true → k ≤ x → is_one_of ys x ≡ false
none_of k [] x small h = refl
none_of k (y ∷ ys) x small h =
    let below : y < k = ltb-true _ _ (and_left _ _ small) in
    rw (ne_eqb x y (λ e. omega arith), none_of k ys x (and_right _ _ small) h)
