-- What is read behind the bytes held, and results behind `map_err`.
-- Assumes nothing.
use Rattle.std.proofs.Common.{ℕ, ◌≤◌, ◌≡◌, sym, ap, ◌∙◌, true≢false, List, ◌++◌, length, take, drop, take-append-drop, length-take-le, arith}
use Rattle.std.proofs.lemmas.List.{take-append-le}
use Rattle.std.specs.Prelude.{Result, Ok, Err, OnOk, OnErr, MatchResult}
use Rattle.std.specs.Result.{is_ok}

-- a value that is there behind `map_err` was there before it
pub from_ok : {A E D : Type 0} (r : Result A E) (q : Result A D) (P : E → Type 0) {x : A} → MatchResult r (λ (y : A). q ≡ Ok y) P → is_ok q ≡ is_ok r → q ≡ Ok x → r ≡ Ok x
from_ok (Ok y) q P same ok is = cc
from_ok (Err e) q P failed ok is = absurd (true≢false (sym (ap is_ok is) ∙ ok))

-- what holds of an error there holds behind it
pub on_err : {A E D : Type 0} (r : Result A E) (q : Result A D) (P : E → Type 0) {X : Type 0} {e : D} → MatchResult r (λ (y : A). q ≡ Ok y) P → is_ok q ≡ is_ok r → q ≡ Err e → OnErr r X → X
on_err (Ok y) q P same ok is x = absurd (true≢false (sym ok ∙ ap is_ok is))
on_err (Err e) q P failed ok is x = x

pub ok_as : {A B E D : Type 0} (r : Result A E) (q : Result B D) (P : Type 0) → is_ok q ≡ is_ok r → OnOk r P → OnOk q P
ok_as r (Err e) P same p = tt
ok_as (Ok x) (Ok y) P same p = p
ok_as (Err x) (Ok y) P same p = absurd (true≢false same)

-- the bytes held after a read are those held before it and those read
pub read_split : (input : List ℕ) (held more : ℕ) → held ≤ more → more ≤ length input → take more input ≡ take held input ++ drop held (take more input)
read_split input held more h k =
    let long : length (take more input) ≡ more = length-take-le more input k in
    let front : take held (take more input) ≡ take held input =
    sym (take-append-le held (take more input) (drop more input) (omega (arith, long))) ∙ ap (take held) (take-append-drop more input) in
    sym (take-append-drop held (take more input)) ∙ ap (λ (x : List ℕ). x ++ drop held (take more input)) front
