-- The codes of a list, as pairs of bytes.
-- Assumes nothing.
use Rattle.std.proofs.Common.{ℕ, zero, suc, ◌-◌, ◌/◌, ◌≤◌, ◌≡◌, refl, sym, ap, ◌∙◌, arith, List, [], ◌∷◌, map, length, length-drop, get_or, take, drop}
use Rattle.std.specs.Simd.{first_chunks}
use Rattle.std.proofs.Math.ListN.{get_or-map}
use Rattle.std.proofs.lemmas.List.{take_all, length-map}
use Rattle.felica_format.specs.Basic.{word_of}
use Rattle.felica_format.specs.Read.{words_of}
use Rattle.felica_command.specs.Meaning.{codes_at}
use Rattle.felica_command.specs.Places.{CodesInside}
use Rattle.felica_command.specs.declared.command.Part.{Part}

-- the code of two bytes, low byte first
abbrev pub code_of : List ℕ → ℕ
code_of pair = word_of (get_or pair 0 0) (get_or pair 1 0)

-- the first n pairs of m
codes_of_pairs : (n m : ℕ) (s : List ℕ) → n ≤ m → map code_of (take n (first_chunks 2 m s)) ≡ words_of n s
unfolding words_of
codes_of_pairs zero m s h = refl
codes_of_pairs (suc n) zero s h = absurd (omega arith)
codes_of_pairs (suc n) (suc m) [] h = ap (◌∷◌ 0) (codes_of_pairs n m [] (omega arith))
codes_of_pairs (suc n) (suc m) (a ∷ []) h = ap (◌∷◌ (word_of a 0)) (codes_of_pairs n m [] (omega arith))
codes_of_pairs (suc n) (suc m) (a ∷ b ∷ s) h = ap (◌∷◌ (word_of a b)) (codes_of_pairs n m s (omega arith))

-- The codes of a list inside the payload are the first of the pairs that stand behind its start.
pub record Paired (pairs : List (List ℕ)) (codes : List ℕ) : Type 0 where
  pub long : length pairs ≡ length codes
  pub each : (i : ℕ) → code_of (get_or pairs i []) ≡ get_or codes i 0

pub codes_paired : (s : List ℕ) (p : Part) {pairs : List (List ℕ)} → CodesInside s p
    → pairs ≡ first_chunks 2 (length (take (length s - p.start) (drop p.start s)) / 2) (take (length s - p.start) (drop p.start s))
    → Paired (take p.count pairs) (codes_at s p)
codes_paired s p {pairs} inside is =
    let behind : take (length s - p.start) (drop p.start s) ≡ drop p.start s = take_all (length s - p.start) (drop p.start s) (rw length-drop (omega arith)) in
    let enough : p.count ≤ length (drop p.start s) / 2 = rw length-drop (omega (arith, inside)) in
    let same : map code_of (take p.count pairs) ≡ codes_at s p = rw (is, behind) (codes_of_pairs p.count _ (drop p.start s) enough) in
    record {
      long = sym (length-map (take p.count pairs) code_of) ∙ ap length same;
      each = λ i. sym (get_or-map code_of (take p.count pairs) i []) ∙ ap (λ (l : List ℕ). get_or l i 0) same;
    }
