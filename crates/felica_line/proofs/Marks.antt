-- The marks of a list code by code, and the codes of two lists together.
-- Assumes nothing.
use Rattle.std.proofs.Common.{ℕ, suc, ◌+◌, ◌*◌, ◌-◌, ◌<◌, ◌≡◌, refl, sym, ap, ◌∙◌, List, [], ◌∷◌, ◌++◌, length, get_or, drop, drop-drop, add-one, length-append, arith}
use Rattle.std.proofs.lemmas.Grind.{flat_map-append}
use Rattle.felica_format.specs.Basic.{word_of}
use Rattle.felica_format.specs.Read.{words_of}
use Rattle.felica_command.specs.Meaning.{codes_at}
use Rattle.felica_command.specs.declared.command.Part.{Part}
use Rattle.felica_command.proofs.Inside.{words_of_length}
use Rattle.felica_cursor.proofs.Laws.{word_drop}
use Rattle.felica_text.specs.Text.{text}
use Rattle.felica_line.specs.Line.{mark_text, marks_text, mark_field}

words_next : (s : List ℕ) (at n k : ℕ) → n ≡ suc k → words_of n (drop at s) ≡ word_of (get_or s at 0) (get_or s (at + 1) 0) ∷ words_of k (drop (at + 2) s)
unfolding words_of
words_next s at n k e =
    let here : at + 0 ≡ at = omega arith in
    rw (e, word_drop s at 0, here, add-one, drop-drop)

-- one more code of a list: the i-th, of n
pub mark_next : (s : List ℕ) (start n i : ℕ) → i < n
    → marks_text (words_of (n - i) (drop (start + 2 * i) s))
    ≡ mark_text (word_of (get_or s (start + 2 * i) 0) (get_or s (start + 2 * i + 1) 0)) ++ marks_text (words_of (n - (i + 1)) (drop (start + 2 * (i + 1)) s))
mark_next s start n i h =
    let on : start + 2 * i + 2 ≡ start + 2 * (i + 1) = omega arith in
    rw (← on) (ap marks_text (words_next s (start + 2 * i) (n - i) (n - (i + 1)) (omega arith)))

-- the codes of two parts together
module _ (s : List ℕ) (first second : Part) where
  abbrev codes : List ℕ
  codes = codes_at s first ++ codes_at s second

  pub codes_counted : length codes ≡ first.count + second.count
  codes_counted = length-append (codes_at s first) (codes_at s second) ∙ rw (words_of_length first.count (drop first.start s), words_of_length second.count (drop second.start s))

  pub no_marks : first.count + second.count ≡ 0 → text "-" ≡ mark_field codes
  unfolding mark_field
  no_marks h = none codes (codes_counted ∙ h)
    where
      none : (l : List ℕ) → length l ≡ 0 → text "-" ≡ mark_field l
      none [] e = refl
      none (x ∷ l) e = absurd (omega arith)

  pub some_marks : (first.count + second.count ≡ 0 → ⊥) → marks_text (codes_at s first) ++ marks_text (codes_at s second) ≡ mark_field codes
  unfolding mark_field
  some_marks h = sym (flat_map-append mark_text (codes_at s first) (codes_at s second)) ∙ some codes (λ e. h (sym codes_counted ∙ e))
    where
      some : (l : List ℕ) → (length l ≡ 0 → ⊥) → marks_text l ≡ mark_field l
      some [] e = absurd (e refl)
      some (x ∷ l) e = refl
