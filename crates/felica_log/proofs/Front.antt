-- What stands at the front of a log, by its first byte and its length.
-- Assumes nothing.
use Rattle.std.proofs.Common.{ℕ, zero, suc, ◌+◌, ◌-◌, ◌≤◌, ◌<◌, arith, ◌≡◌, refl, Bool, true, false, cond, List, [], ◌∷◌, ◌++◌, leb, length, get_or, take, drop, length-take, length-drop, le-leb}
use Rattle.std.proofs.lemmas.Bool.{lt-leb}
use Rattle.felica_text.specs.Text.{text}
use Rattle.felica_totals.specs.declared.Totals.{Totals}
use Rattle.felica_log.specs.Listing.{cut_by, frame_then, front, at_front, line_end, cut_line, records_left}
use Rattle.felica_log.specs.Step.{rest_line}

pub front_whole : (size : ℕ) (s : List ℕ) → size ≤ length s → front (size ∷ s) ≡ frame_then (take size s) (drop size s)
unfolding front
front_whole size s h = rw (le-leb size (length s) h)

pub front_cut : (size : ℕ) (s : List ℕ) → length s < size → front (size ∷ s) ≡ cut_by (size - length s)
unfolding front
front_cut size s h = rw (lt-leb size (length s) h)

-- where a byte is there, something stands at the front
pub front_some : {A : Type 0} (size : ℕ) (s : List ℕ) (a b : A) → at_front (front (size ∷ s)) a (λ missing. b) (λ frame rest. b) ≡ b
unfolding front
front_some size s a b = go (leb size (length s))
  where
    go : (fits : Bool) → at_front (cond fits (frame_then (take size s) (drop size s)) (cut_by (size - length s))) a (λ missing. b) (λ frame rest. b) ≡ b
    go true = refl
    go false = refl

-- how many records may still be read
pub none_left : (t : Totals) → 1000000 ≤ t.records → records_left t ≡ 0
none_left t h = omega arith

pub one_left : (t : Totals) → t.records < 1000000 → records_left t ≡ suc (1000000 - (t.records + 1))
one_left t h = omega arith

-- the bytes behind the first, as a slice is cut
pub length_behind : (s : List ℕ) → length (take (length s - 1) (drop 1 s)) ≡ length s - 1
length_behind s = omega (arith, length-take (length s - 1) (drop 1 s), length-drop 1 s)

-- the line in front of TOTAL, by the tests on what is left of the log
module _ (t : Totals) where
  pub nothing_left : (s : List ℕ) → length s < 1 → rest_line (records_left t) s ≡ []
  unfolding front
  nothing_left [] e = go (records_left t)
    where
      go : (n : ℕ) → rest_line n [] ≡ []
      go zero = refl
      go (suc n) = refl
  nothing_left (x ∷ s) e = absurd (omega arith)

  pub full_left : (s : List ℕ) → 1 ≤ length s → 1000000 ≤ t.records → rest_line (records_left t) s ≡ text "FULL" ++ line_end
  full_left [] some h = absurd (omega arith)
  full_left (x ∷ s) some h = rw (none_left t h)

  pub whole_left : (s : List ℕ) → 1 ≤ length s → t.records < 1000000 → get_or s 0 0 ≤ length (take (length s - 1) (drop 1 s)) → rest_line (records_left t) s ≡ []
  whole_left [] some h whole = absurd (omega arith)
  whole_left (x ∷ s) some h whole = rw (one_left t h, front_whole x s (omega (arith, length_behind (x ∷ s), whole)))

  pub cut_left : (s : List ℕ) → 1 ≤ length s → t.records < 1000000 → length (take (length s - 1) (drop 1 s)) < get_or s 0 0
      → rest_line (records_left t) s ≡ cut_line (get_or s 0 0 - length (take (length s - 1) (drop 1 s)))
  cut_left [] some h cut = absurd (omega arith)
  cut_left (x ∷ s) some h cut =
      let n : length (take (suc (length s) - 1) s) ≡ length s = omega (arith, length_behind (x ∷ s)) in
      rw (one_left t h, front_cut x s (omega (arith, length_behind (x ∷ s), cut)), n)
