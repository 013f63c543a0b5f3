-- The lines of an input, as they are found one after another.
-- Assumes nothing.
use Rattle.std.proofs.Common.{ℕ, suc, ◌+◌, ◌≤◌, ◌<◌, ◌≡◌, refl, sym, ap, ◌∙◌, Bool, true, false, cond, List, [], ◌∷◌, ◌++◌, append_assoc, append-nil, length, take, drop, eqb, ltb, ltb-true, ltb-false, arith, leb, leb-true, leb-false}
use Rattle.std.specs.Prelude.{None, Some}
use Rattle.felica_text.specs.Text.{before as bytes_before, place_of}
use Rattle.felica_text.proofs.Before.{take_before}
use Rattle.felica.specs.Lines.{LinesExamples, lines_from, max_line, LineText, OneOutput}
use Rattle.felica_calls.specs.Call.{without_cr}
use Rattle.felica_answering.specs.Answers.{call_of}
use Rattle.felica_answering.proofs.OneAnswer.{one_answer}
use Rattle.felica.specs.Held.{NoEnd}

-- where the first line feed stands, and where none does
found : (s : List ℕ) (n : ℕ) → place_of 10 s ≡ Some n → (length (bytes_before 10 s) < length s) × (length (bytes_before 10 s) ≡ n)
found s n e = go (ltb (length (bytes_before 10 s)) (length s)) refl e
  where
    go : (there : Bool) → ltb (length (bytes_before 10 s)) (length s) ≡ there → cond there (Some (length (bytes_before 10 s))) None ≡ Some n
        → (length (bytes_before 10 s) < length s) × (length (bytes_before 10 s) ≡ n)
    go true t is = (ltb-true _ _ t, grind (arith, is))
    go false t is = absurd (grind (arith, is))

pub line_inside : (s : List ℕ) (n : ℕ) → place_of 10 s ≡ Some n → n < length s
line_inside s n e = let at = found s n e in omega (arith, at.0, at.1)

not_found : (s : List ℕ) → NoEnd s → length s ≤ length (bytes_before 10 s)
not_found s e = go (ltb (length (bytes_before 10 s)) (length s)) refl e
  where
    go : (there : Bool) → ltb (length (bytes_before 10 s)) (length s) ≡ there → cond there (Some (length (bytes_before 10 s))) None ≡ None
        → length s ≤ length (bytes_before 10 s)
    go true t is = absurd (grind (arith, is))
    go false t is = omega (arith, ltb-false _ _ t)

-- up to the first line feed stands the first line
first_line : (before s behind : List ℕ) → length (bytes_before 10 s) < length s
    → lines_from before (s ++ behind) ≡ (before ++ bytes_before 10 s) ∷ lines_from [] (drop (suc (length (bytes_before 10 s))) s ++ behind)
unfolding bytes_before lines_from
first_line before [] behind h = absurd (omega (arith, h))
first_line before (b ∷ s) behind h = go (eqb b 10) h (first_line (before ++ (b ∷ [])) s behind)
  where
    go : (t : Bool) → length (cond t [] (b ∷ bytes_before 10 s)) < suc (length s)
        → (length (bytes_before 10 s) < length s
        → lines_from (before ++ (b ∷ [])) (s ++ behind) ≡ ((before ++ (b ∷ [])) ++ bytes_before 10 s) ∷ lines_from [] (drop (suc (length (bytes_before 10 s))) s ++ behind))
        → cond t (before ∷ lines_from [] (s ++ behind)) (lines_from (before ++ (b ∷ [])) (s ++ behind))
        ≡ (before ++ cond t [] (b ∷ bytes_before 10 s)) ∷ lines_from [] (drop (suc (length (cond t [] (b ∷ bytes_before 10 s)))) (b ∷ s) ++ behind)
    go true k later = ap (λ (x : List ℕ). x ∷ lines_from [] (s ++ behind)) (sym (append-nil before))
    go false k later =
        later (omega (arith, k))
        ∙ ap (λ (x : List ℕ). x ∷ lines_from [] (drop (suc (length (bytes_before 10 s))) s ++ behind)) (append_assoc before (b ∷ []) (bytes_before 10 s))

pub line_found : (before s behind : List ℕ) (n : ℕ) → place_of 10 s ≡ Some n
    → lines_from before (s ++ behind) ≡ (before ++ take n s) ∷ lines_from [] (drop (n + 1) s ++ behind)
line_found before s behind n e =
    let at = found s n e in
    let front : bytes_before 10 s ≡ take n s = sym (take_before 10 s) ∙ ap (λ (k : ℕ). take k s) at.1 in
    let next : suc (length (bytes_before 10 s)) ≡ n + 1 = omega (arith, at.1) in
    first_line before s behind at.0
    ∙ ap (λ (x : List ℕ). (before ++ x) ∷ lines_from [] (drop (suc (length (bytes_before 10 s))) s ++ behind)) front
    ∙ ap (λ (k : ℕ). (before ++ take n s) ∷ lines_from [] (drop k s ++ behind)) next

-- where no line ends, all bytes are of the first line
all_of_line : (before s behind : List ℕ) → length s ≤ length (bytes_before 10 s) → lines_from before (s ++ behind) ≡ lines_from (before ++ s) behind
unfolding bytes_before lines_from
all_of_line before [] behind h = ap (λ (x : List ℕ). lines_from x behind) (sym (append-nil before))
all_of_line before (b ∷ s) behind h = go (eqb b 10) h (all_of_line (before ++ (b ∷ [])) s behind)
  where
    go : (t : Bool) → suc (length s) ≤ length (cond t [] (b ∷ bytes_before 10 s))
        → (length s ≤ length (bytes_before 10 s) → lines_from (before ++ (b ∷ [])) (s ++ behind) ≡ lines_from ((before ++ (b ∷ [])) ++ s) behind)
        → cond t (before ∷ lines_from [] (s ++ behind)) (lines_from (before ++ (b ∷ [])) (s ++ behind)) ≡ lines_from (before ++ (b ∷ s)) behind
    go true k later = absurd (omega (arith, k))
    go false k later = later (omega (arith, k)) ∙ ap (λ (x : List ℕ). lines_from x behind) (append_assoc before (b ∷ []) s)

pub no_line_found : (before s behind : List ℕ) → NoEnd s → lines_from before (s ++ behind) ≡ lines_from (before ++ s) behind
no_line_found before s behind e = all_of_line before s behind (not_found s e)

-- what stands behind the last line feed
last : (before : List ℕ) → 0 < length before → lines_from before [] ≡ before ∷ []
unfolding lines_from
last [] h = absurd (omega (arith, h))
last (b ∷ before) h = refl

pub last_line : (before s : List ℕ) → NoEnd s → 0 < length (before ++ s) → lines_from before s ≡ (before ++ s) ∷ []
last_line before s e h = ap (lines_from before) (sym (append-nil s)) ∙ no_line_found before s [] e ∙ last (before ++ s) h

pub none_in_nothing : NoEnd []
unfolding bytes_before
none_in_nothing = refl

pub no_last_line : lines_from [] [] ≡ []
unfolding lines_from
no_last_line = refl

-- a line has one text, and so lines have one output
one_text : (line a b : List ℕ) → LineText line a → LineText line b → a ≡ b
one_text line a b is same = go (leb (length line) max_line) refl
  where
    go : (short : Bool) → leb (length line) max_line ≡ short → a ≡ b
    go true e =
        let call = leb-true (length line) max_line e in
        one_answer (without_cr line) (call_of line).answer (call_of line).buffer a b (is.call call) (same.call call)
    go false e = let long = leb-false (length line) max_line e in is.too_long (omega (arith, long)) ∙ sym (same.too_long (omega (arith, long)))

pub one_output : OneOutput
one_output [] a b is same = is ∙ sym same
one_output (line ∷ lines) a b (text, rest, line_is, rest_is, is) (other, more, line_same, rest_same, same) =
    is ∙ ap (λ (x : List ℕ). x ++ (10 ∷ rest)) (one_text line text other line_is line_same)
    ∙ ap (λ (x : List ℕ). other ++ (10 ∷ x)) (one_output lines rest more rest_is rest_same) ∙ sym same

pub lines_examples : LinesExamples
unfolding lines_from
lines_examples = (refl, refl, refl)
