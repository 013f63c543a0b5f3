-- A rule and the table of its values, which antt computes: each entry is the rule's value, so two rules with one table agree.
-- Assumes nothing.
use Rattle.std.proofs.Common.{ℕ, zero, suc, ◌+◌, ◌<◌, add-zero, zero-add, arith, ◌≡◌, sym, ap, ◌∙◌, List, [], ◌∷◌, get_or}

module _ {A : Type 0} where
  -- the rule's values at i, i + 1, .., n of them
  unfoldable pub table_from : (ℕ → A) → ℕ → ℕ → List A
  table_from rule i zero = []
  table_from rule i (suc n) = rule i ∷ table_from rule (suc i) n

  entry_from : (rule : ℕ → A) (d : A) (n i k : ℕ) → k < n → get_or (table_from rule i n) k d ≡ rule (i + k)
  unfolding table_from
  entry_from rule d zero i k h = absurd (omega arith)
  entry_from rule d (suc n) i zero h = ap rule (sym (add-zero i))
  entry_from rule d (suc n) i (suc k) h =
      let e : suc i + k ≡ i + suc k = omega arith in
      entry_from rule d n (suc i) k (omega arith) ∙ ap rule e

  pub entry : (rule : ℕ → A) (d : A) (n k : ℕ) → k < n → get_or (table_from rule 0 n) k d ≡ rule k
  entry rule d n k h = entry_from rule d n 0 k h ∙ ap rule (zero-add k)

  pub same_below : (f g : ℕ → A) (n k : ℕ) → table_from f 0 n ≡ table_from g 0 n → k < n → f k ≡ g k
  same_below f g n k e h = sym (entry f (f 0) n k h) ∙ ap (λ (t : List A). get_or t k (f 0)) e ∙ entry g (f 0) n k h
