-- The parts of a text that each begin at its front or with a space are its fields.
-- Assumes nothing.
use Rattle.std.proofs.Common.{ℕ, zero, suc, ◌+◌, ◌-◌, ◌≤◌, ◌<◌, ◌≡◌, refl, ap, sym, subst, ◌∙◌, Bool, true, false, not, eqb, List, [], ◌∷◌, ◌++◌, length, get_or, take, drop, length-append, add-one, arith}
use Rattle.std.specs.List.{IsChunkByPrefix}
use Rattle.std.proofs.lemmas.Bool.{not-true, not-false}
use Rattle.std.proofs.lemmas.List.{drop-drop}
use Rattle.std.proofs.Math.Seq.{take-append_seam, drop-append_seam}
use Rattle.felica_put.proofs.Laws.{drop_next}
use Rattle.felica_text.specs.Text.{before}
use Rattle.felica_named.specs.Notes.{field_at}

-- whether a byte goes with the one before it
abbrev pub goes_on : ℕ → ℕ → Bool
goes_on last next = not (eqb next 32)

-- the first m bytes are no spaces, and the next is one, if there is one
before_first : (s : List ℕ) (m : ℕ) → m ≤ length s → ((k : ℕ) → k < m → not (eqb (get_or s k 0) 32) ≡ true) → (m < length s → not (eqb (get_or s m 0) 32) ≡ false)
    → length (before 32 s) ≡ m
unfolding before
before_first [] m inside within stop = omega arith
before_first (x ∷ s) zero inside within stop = rw (not-false _ (stop (omega arith))) refl
before_first (x ∷ s) (suc m) inside within stop =
    rw (not-true _ (within 0 (omega arith))) (ap suc (before_first s m (omega arith) (λ k h. within (suc k) (omega (arith, h))) (λ h. stop (omega (arith, h)))))

behind_first : (x : ℕ) (s : List ℕ) (m : ℕ) → m ≤ length s → IsChunkByPrefix goes_on (x ∷ s) (m + 1) → length (before 32 s) ≡ m
behind_first x s m inside first =
    before_first s m inside (λ k h. rw add-one at (first.0 k 0 (omega (arith, h)))) (λ h. rw add-one at (first.1 (omega (arith, h)) 0))

module _ (s : List ℕ) (at : ℕ) (h : at < length s) where
  pub chunk_field : (chunk rest : List ℕ) {left : List ℕ} → left ≡ drop at s → left ≡ chunk ++ rest → 0 < length chunk → IsChunkByPrefix goes_on left (length chunk)
      → chunk ≡ field_at s at
  chunk_field chunk rest {left} is parts some first =
      let next : left ≡ get_or s at 0 ∷ drop (at + 1) s = is ∙ drop_next s at 0 h in
      let size : length left ≡ length chunk + length rest = ap length parts ∙ length-append chunk rest in
      let m = length chunk - 1 in
      let e : length chunk ≡ m + 1 = omega arith in
      let n : length (before 32 (drop (at + 1) s)) ≡ m = behind_first _ _ m (omega (arith, size, ap length next)) (subst (λ l. IsChunkByPrefix goes_on l (m + 1)) next (subst (λ k. IsChunkByPrefix goes_on left k) e first)) in
      let k : length chunk ≡ 1 + length (before 32 (drop (at + 1) s)) = omega (arith, n, e) in
      sym (take-append_seam chunk rest) ∙ ap (take (length chunk)) (sym parts ∙ is) ∙ ap (λ k. take k (drop at s)) k

pub chunk_rest : (s : List ℕ) (at : ℕ) (chunk : List ℕ) {rest left : List ℕ} → left ≡ drop at s → left ≡ chunk ++ rest → rest ≡ drop (at + length chunk) s
chunk_rest s at chunk {rest} is parts = sym (drop-append_seam chunk rest) ∙ ap (drop (length chunk)) (sym parts ∙ is) ∙ drop-drop (length chunk) at s
