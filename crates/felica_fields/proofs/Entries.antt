-- The texts of a list by its first entry, and the texts of entries that a reader's steps give.
-- Assumes nothing.
use Rattle.std.proofs.Common.{ℕ, zero, suc, ◌-◌, ◌<◌, ◌≤◌, ◌≡◌, refl, ap, List, [], ◌∷◌, ◌++◌, length, get_or, drop, Some, None, arith}
use Rattle.std.proofs.Math.Nat.{not-suc-le-zero}
use Rattle.felica_format.specs.Basic.{Step, taken, refuse, word_of}
use Rattle.felica_text.specs.Text.{behind_commas, parted}
use Rattle.felica_fields.specs.Entries.{read_code, entries_of, if_taken, if_read, TextRead, taken_text, texts_of}

pub code_cut : (l : List ℕ) → length l < 2 → read_code l ≡ refuse 13
unfolding read_code
code_cut [] h = refl
code_cut (low ∷ []) h = refl
code_cut (low ∷ high ∷ l) h = absurd (omega arith)

pub code_whole : (l : List ℕ) → 2 ≤ length l → read_code l ≡ taken (word_of (get_or l 0 0) (get_or l 1 0)) (drop 2 l)
unfolding read_code
code_whole [] h = absurd (omega arith)
code_whole (low ∷ []) h = absurd (omega arith)
code_whole (low ∷ high ∷ l) h = refl

module _ (read : List ℕ → TextRead) (s : List ℕ) where
  pub texts_next : (n : ℕ) {t rest : List ℕ} → 0 < n → read s ≡ Some (t, rest) → texts_of read n s ≡ t ∷ texts_of read (n - 1) rest
  unfolding texts_of
  texts_next zero h e = absurd (not-suc-le-zero h)
  texts_next (suc n) h e = let m : suc n - 1 ≡ n = omega arith in rw (e, m)

  pub texts_end : (n : ℕ) → read s ≡ None → texts_of read n s ≡ []
  unfolding texts_of
  texts_end zero e = refl
  texts_end (suc n) e = rw e

  pub texts_none : (n : ℕ) → n ≡ 0 → texts_of read n s ≡ []
  unfolding texts_of
  texts_none n e = rw e

module _ {A : Type 0} (entry : A → List ℕ) (read : List ℕ → Step A) where
  -- the entries of a list as texts
  abbrev in_texts : ℕ → List ℕ → List (List ℕ)
  in_texts = texts_of (λ s. taken_text entry (read s))

  abbrev first_text : ℕ → Step A → List (List ℕ)
  first_text n step = if_read (taken_text entry step) (λ text rest. text ∷ in_texts n rest) []

  abbrev first_entry : ℕ → Step A → List A
  first_entry n step = if_taken step (λ a rest. a ∷ entries_of read n rest) []

  same_behind : (n : ℕ) (s : List ℕ) → behind_commas (λ text. text) (in_texts n s) ≡ behind_commas entry (entries_of read n s)
  unfolding texts_of entries_of
  same_behind zero s = refl
  same_behind (suc n) s = turn (read s) (same_behind n)
    where
      turn : (step : Step A) → ((rest : List ℕ) → behind_commas (λ text. text) (in_texts n rest) ≡ behind_commas entry (entries_of read n rest))
          → behind_commas (λ text. text) (first_text n step) ≡ behind_commas entry (first_entry n step)
      turn (taken a rest) same = ap (λ l. 44 ∷ (entry a ++ l)) (same rest)
      turn (refuse k) same = refl

  pub same_list : (n : ℕ) (s : List ℕ) → parted (λ text. text) (in_texts n s) ≡ parted entry (entries_of read n s)
  unfolding texts_of entries_of parted
  same_list zero s = refl
  same_list (suc n) s = turn (read s)
    where
      turn : (step : Step A) → parted (λ text. text) (first_text n step) ≡ parted entry (first_entry n step)
      turn (taken a rest) = ap (λ l. entry a ++ l) (same_behind n rest)
      turn (refuse k) = refl
