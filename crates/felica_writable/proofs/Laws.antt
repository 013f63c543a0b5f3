-- Tests, one behind the other, as one; the three lists of a block list as its elements.
-- Assumes nothing.
use Rattle.std.proofs.Common.{ℕ, suc, ◌-◌, ◌*◌, ◌/◌, ◌%◌, ◌<◌, ◌==◌, ◌&&◌, ◌≡◌, refl, sym, ap, ◌∙◌, Bool, true, false, cond, List, [], ◌∷◌, arith}
use Rattle.std.proofs.Common.{length, get_or, drop, length-drop, nat_lt, fold}
use Rattle.std.specs.List.{list_all}
use Rattle.std.proofs.Math.Dec.{ltb, leb, eqb}
use Rattle.std.proofs.lemmas.Bool.{lt-ltb, eq-eqb, ne_eqb, eqb-true, eqb-false}
use Rattle.std.proofs.lemmas.Bool.Decides.{nat_tests}
use Rattle.felica_format.specs.Basic.{◌and◌, all_below, zeros}
use Rattle.felica_format.specs.Command.{Command, zip_elements, elements_of, end_fields_of}
use Rattle.felica_format.specs.Layout.{Layout}
use Rattle.felica_format.specs.Writable.{same_list, is_empty, are_bytes, idm_ok, selector_ok, codes_ok, same_length, each_ok, elements_ok, data_ok}
use Rattle.felica_format.specs.Writable.{ranges_of, end_fields_ok, package_ok, body_ok}
use Rattle.felica_format.proofs.Tests.{and_left, and_right, and_both, and_assoc}

-- `and` at a test that is known, for `grind`
pub and_true : (b : Bool) → (true and b) ≡ b
unfolding ◌and◌
and_true b = refl

pub and_false : (b : Bool) → (false and b) ≡ false
unfolding ◌and◌
and_false b = refl

pub ruleset known_tests = (and_true, and_false, nat_tests)

-- the code's test of each entry
pub each_below : (bound : ℕ) (s : List ℕ) → list_all (λ x. nat_lt x bound) s ≡ all_below bound s
unfolding ◌and◌
each_below bound [] = refl
each_below bound (x ∷ xs) = elim (ltb x bound) as (λ b. (b && list_all (λ y. nat_lt y bound) xs) ≡ (b and all_below bound xs)) [
  | true ↦ each_below bound xs
  | false ↦ refl
]

-- every entry is below the bound
pub all_small : (bound : ℕ) (s : List ℕ) → ((i : ℕ) → get_or s i 0 < bound) → all_below bound s ≡ true
all_small bound [] h = refl
all_small bound (x ∷ xs) h = and_both (lt-ltb x bound (h 0)) (all_small bound xs (λ i. h (suc i)))

-- the code's test of all of them, which goes on behind one that fails
zeros_so_far : (clear : Bool) (s : List ℕ) → fold (λ c x. c && (x == 0)) clear s ≡ (clear and same_list s (zeros (length s)))
unfolding ◌and◌
zeros_so_far true [] = refl
zeros_so_far false [] = refl
zeros_so_far true (x ∷ xs) = zeros_so_far (x == 0) xs
zeros_so_far false (x ∷ xs) = zeros_so_far false xs

pub each_zero : (s : List ℕ) → fold (λ c x. c && (x == 0)) true s ≡ same_list s (zeros (length s))
unfolding ◌and◌
each_zero s = zeros_so_far true s

-- as many elements as block numbers
pub zip_length : (ns ps ms : List ℕ) → length (zip_elements ns ps ms) ≡ length ns
unfolding zip_elements
zip_length [] ps ms = refl
zip_length (n ∷ ns) ps ms = ap suc (zip_length ns (drop 1 ps) (drop 1 ms))

-- two tests of each element, as two tests of the lists
both : (a b x y : Bool) → ((a and x) and (b and y)) ≡ ((a and b) and (x and y))
unfolding ◌and◌
both true true x y = refl
both true false true y = refl
both true false false y = refl
both false b x y = refl

-- the elements of three lists of one length are in range where places and modes are
pub each_small : (ns ps ms : List ℕ) → length ps ≡ length ns → length ms ≡ length ns → all_below 65536 ns ≡ true
    → each_ok (zip_elements ns ps ms) ≡ (all_below 16 ps and all_below 8 ms)
unfolding zip_elements each_ok ◌and◌
each_small [] [] [] p m small = refl
each_small [] (x ∷ ps) ms p m small = absurd (omega arith)
each_small [] [] (x ∷ ms) p m small = absurd (omega arith)
each_small (n ∷ ns) [] ms p m small = absurd (omega arith)
each_small (n ∷ ns) (x ∷ ps) [] p m small = absurd (omega arith)
each_small (n ∷ ns) (x ∷ ps) (y ∷ ms) p m small =
    let q : length ps ≡ length ns = omega arith in
    let r : length ms ≡ length ns = omega arith in
    let here : ltb n 65536 ≡ true = and_left (ltb n 65536) (all_below 65536 ns) small in
    let later : all_below 65536 ns ≡ true = and_right (ltb n 65536) (all_below 65536 ns) small in
    rw (here, each_small ns ps ms q r later) (both (ltb x 16) (all_below 16 ps) (ltb y 8) (all_below 8 ms))

-- a list that must be empty
empty_count : {A : Type 0} (s : List A) → is_empty s ≡ eqb (length s) 0
empty_count [] = refl
empty_count (x ∷ xs) = sym (ne_eqb (suc (length xs)) 0 (λ z. omega arith))

-- so many bytes are those of m blocks
pub whole_blocks : (n m : ℕ) → n % 16 ≡ 0 → eqb (n / 16) m ≡ eqb n (16 * m)
whole_blocks n m whole = go (eqb (n / 16) m) refl
  where
    go : (b : Bool) → eqb (n / 16) m ≡ b → b ≡ eqb n (16 * m)
    go true e = sym (eq-eqb n (16 * m) (omega (arith, eqb-true (n / 16) m e)))
    go false e = sym (ne_eqb n (16 * m) (λ h. eqb-false (n / 16) m e (omega arith)))

-- a chain of tests: one that fails ends it, one that holds leaves the rest
pub stop : (a b : Bool) → a ≡ false → false ≡ (a and b)
unfolding ◌and◌
stop a b e = rw e

pub pass : (a b : Bool) → a ≡ true → b ≡ (a and b)
unfolding ◌and◌
pass a b e = rw e

-- the tests of three lists of one length, as those of the elements
elements_test : (present : Bool) (ns ps ms : List ℕ) → length ps ≡ length ns → length ms ≡ length ns → all_below 65536 ns ≡ true
    → elements_ok present (zip_elements ns ps ms)
    ≡ cond present ((leb 1 (length ns) and leb (length ns) 255) and (all_below 16 ps and all_below 8 ms)) (eqb (length ns) 0)
unfolding elements_ok
elements_test true ns ps ms p m small = rw (zip_length ns ps ms, each_small ns ps ms p m small) (sym (and_assoc _ _ _))
elements_test false ns ps ms p m small = empty_count (zip_elements ns ps ms) ∙ ap (λ (n : ℕ). eqb n 0) (zip_length ns ps ms)

pub lists_test : (present : Bool) (ns ps ms : List ℕ) → length ps ≡ length ns → length ms ≡ length ns → all_below 65536 ns ≡ true
    → (same_length ns ps ms and elements_ok present (zip_elements ns ps ms))
    ≡ cond present ((leb 1 (length ns) and leb (length ns) 255) and (all_below 16 ps and all_below 8 ms)) (eqb (length ns) 0)
unfolding same_length ◌and◌
lists_test present ns ps ms p m small = rw (eq-eqb _ _ p, eq-eqb _ _ m) (elements_test present ns ps ms p m small)

-- n bytes that are zeros from a place on
pub zeros_from : (n : ℕ) (s : List ℕ) (from : ℕ) → length s ≡ n → all_below 256 s ≡ true
    → same_list (drop from s) (zeros (length (drop from s))) ≡ (are_bytes n s and same_list (drop from s) (zeros (n - from)))
unfolding ◌and◌
zeros_from n s from e small =
    let left : length (drop from s) ≡ n - from = omega (arith, length-drop from s) in
    rw (eq-eqb _ _ e, small, left) refl

-- the tests of a body, with those of the three lists of a block list in one
pub tests : (l : Layout) (c : Command)
    → (idm_ok l.idm c.idm
    and selector_ok l.selector c.selector
    and codes_ok l.first c.first
    and codes_ok l.second c.second
    and (same_length c.numbers c.places c.modes and elements_ok l.elements (elements_of c))
    and data_ok l.block_data (length c.numbers) c.block_data
    and end_fields_ok (ranges_of l.ending) (end_fields_of c)
    and package_ok l.behind c.issue_package) ≡ body_ok l c
unfolding body_ok
tests l c = rw (zip_length c.numbers c.places c.modes) (simp and_assoc)
