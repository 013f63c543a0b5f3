-- Laws of the steps on the bytes that are left at a position.
-- Assumes nothing.
use Rattle.std.proofs.Common.{◌≡◌, refl, sym, ap, ◌∙◌, subst, Bool, true, false, not, List, [], ◌∷◌, ℕ, zero, suc, ◌+◌, ◌<◌, ◌≤◌, add-one, add-suc, arith, ◌&&◌, ltb, leb, eqb, length, get_or, take, drop, drop-cons, drop-drop, get_or-drop, leb-true, leb-false, lt-ltb, le-ltb, Result, Ok, Err, IsErr, IsErrAnd}
use Rattle.std.specs.List.{list_all}
use Rattle.std.proofs.lemmas.Result.{err_from_is_err_and}
use Rattle.felica_format.specs.Basic.{Step, taken, refuse, bind, refuse_if, zeros, word_of, word_at, ◌and◌}
use Rattle.felica_format.specs.Command.{EndFields, end_fields, no_fields}
use Rattle.felica_format.specs.Layout.{Ending, bare, polling, nothing, a_package}
use Rattle.felica_format.specs.Read.{read_long, read_short, read_ending, read_values, size_of, zero_at, is_time_slots}
use Rattle.felica_format.proofs.Steps.{none_taken}
use Rattle.felica_command.specs.Places.{element_size, elements_size}
use Rattle.felica_format.specs.Reasons.{number_of}
use Rattle.felica_format.specs.declared.error.Reason.{Reason}
use Rattle.felica_cursor.specs.Taken.{rest, moved, itself, Takes, To}
use Rattle.felica_cursor.specs.Steps.{measured, Measured}
use Rattle.felica_cursor.specs.Endings.{as_size, nothing_is}
use Rattle.felica_cursor.specs.declared.cursor.Cursor.{Cursor}

-- the bytes left at a position, where there are one, two or three
pub front_at : (s : List ℕ) (at : ℕ) → at < length s → drop at s ≡ get_or s at 0 ∷ drop (at + 1) s
front_at s at h = drop-cons s at 0 h ∙ ap (λ (n : ℕ). get_or s at 0 ∷ drop n s) (sym (add-one at))

pub at_front_2 : (s : List ℕ) (at : ℕ) → at + 1 < length s → drop at s ≡ get_or s at 0 ∷ get_or s (at + 1) 0 ∷ drop (at + 2) s
at_front_2 s at h =
    front_at s at (omega arith) ∙ ap (λ (l : List ℕ). get_or s at 0 ∷ l) (front_at s (at + 1) h) ∙
    (let e : at + 1 + 1 ≡ at + 2 = omega arith in ap (λ (n : ℕ). get_or s at 0 ∷ get_or s (at + 1) 0 ∷ drop n s) e)

pub at_front_3 : (s : List ℕ) (at : ℕ) → at + 2 < length s → drop at s ≡ get_or s at 0 ∷ get_or s (at + 1) 0 ∷ get_or s (at + 2) 0 ∷ drop (at + 3) s
at_front_3 s at h =
    at_front_2 s at (omega arith) ∙ ap (λ (l : List ℕ). get_or s at 0 ∷ get_or s (at + 1) 0 ∷ l) (front_at s (at + 2) h) ∙
    (let e : at + 2 + 1 ≡ at + 3 = omega arith in ap (λ (n : ℕ). get_or s at 0 ∷ get_or s (at + 1) 0 ∷ get_or s (at + 2) 0 ∷ drop n s) e)

pub long_cut : (head : ℕ) (l : List ℕ) → length l < 2 → read_long head l ≡ refuse 16
unfolding read_long
long_cut head [] h = refl
long_cut head (a ∷ []) h = refl
long_cut head (a ∷ b ∷ l) h = absurd (omega arith)

pub short_cut : (head : ℕ) (l : List ℕ) → length l < 1 → read_short head l ≡ refuse 15
unfolding read_short
short_cut head [] h = refl
short_cut head (a ∷ l) h = absurd (omega arith)

-- how far the elements reach, one by one
pub size_more : (s : List ℕ) (at next k n : ℕ) → k ≡ suc n → next ≡ at + element_size (get_or s at 0)
    → at + elements_size k (drop at s) ≡ next + elements_size n (drop next s)
unfolding elements_size
size_more s at next k n p q =
    let e : at + 0 ≡ at = omega arith in
    rw (p, get_or-drop at s 0 0, e, drop-drop, ← q) (omega (arith, q))

-- bytes that are all 00
pub zero_all : (n at : ℕ) (s : List ℕ) → at + n ≤ length s → list_all (λ b. eqb b 0) (take n (drop at s)) ≡ zero_at n s at
unfolding ◌and◌
zero_all zero at s h = refl
zero_all (suc n) at s h =
    let rest = zero_all n (at + 1) s (omega arith) in
    rw (front_at s at (omega arith)) (go (eqb (get_or s at 0) 0) rest)
  where
    go : (b : Bool) → list_all (λ b. eqb b 0) (take n (drop (at + 1) s)) ≡ zero_at n s (at + 1)
        → (b && list_all (λ b. eqb b 0) (take n (drop (at + 1) s))) ≡ (b and zero_at n s (suc at))
    go true e = e ∙ ap (zero_at n s) (add-one at)
    go false e = refl

pub zero_drop : (n at i : ℕ) (s : List ℕ) → zero_at n (drop at s) i ≡ zero_at n s (at + i)
unfolding ◌and◌
zero_drop zero at i s = refl
zero_drop (suc n) at i s = rw (get_or-drop, zero_drop n at (suc i) s, add-suc)

pub word_drop : (s : List ℕ) (at i : ℕ) → word_at (drop at s) i ≡ word_at s (at + i)
word_drop s at i = simp (get_or-drop, add-suc)

-- a step that hands on a refusal
pub refused : {T A : Type 0} {meant : T → A} {step : Step A} {P : T → Cursor → Type 0} (why : Reason) (r : Result (T × Cursor) Reason)
    → IsErr r × IsErrAnd r (λ y. y ≡ why) → step ≡ refuse (number_of why) → Takes meant step P r
refused why r is read = let p = err_from_is_err_and r is.1 in rw (p.1, p.2) (record { read = read; placed = tt })

-- a list behind its count: the two steps are one
pub behind_count : {T A : Type 0} (meant : List ℕ → T → A) (step : ℕ → List ℕ → Step A) (P : Cursor → T → Cursor → Type 0) (count : Step ℕ) (c b : Cursor) (n : ℕ)
    (r : Result (T × Cursor) Reason) → Takes itself count (To (moved c 1)) (Ok (n, b)) → Takes (meant b.payload.now) (step n (rest b)) (P b) r
    → Takes (meant c.payload.now) (bind count step) (P (moved c 1)) r
unfolding bind
behind_count meant step P count c b n r first list =
    let there = subst (λ (x : Cursor). Takes (meant x.payload.now) (step n (rest x)) (P x) r) first.placed list in
    record { read = rw (first.read, first.placed) there.read; placed = there.placed }

-- the fixed bytes that end a layout, once they are measured
refused_both : {A B : Type 0} (a b : Bool) (x : Step A) (y : Step B) (v : A) (l : List ℕ) (g : ℕ) → x ≡ taken v l
    → refuse_if a 7 (refuse_if b 8 x) ≡ refuse g → refuse_if a 7 (refuse_if b 8 y) ≡ refuse g
unfolding refuse_if
refused_both true b x y v l g t e = cc
refused_both false true x y v l g t e = cc
refused_both false false x y v l g t e = absurd (none_taken (sym e ∙ t))

taken_both : {A B : Type 0} (a b : Bool) (x : Step A) (y : Step B) (v : A) (r : List ℕ)
    → refuse_if a 7 (refuse_if b 8 x) ≡ taken v r → (a ≡ false) × (b ≡ false) × (refuse_if a 7 (refuse_if b 8 y) ≡ y)
unfolding refuse_if
taken_both true b x y v r e = absurd (none_taken e)
taken_both false true x y v r e = absurd (none_taken e)
taken_both false false x y v r e = (refl, refl, refl)

pub ending_refused : (e : Ending) (l : List ℕ) (g : ℕ) → measured (size_of e) l ≡ refuse g → read_ending e nothing l ≡ refuse g
unfolding measured read_ending
ending_refused e l g h =
    refused_both (ltb (length l) (size_of e)) (ltb (size_of e) (length l)) (taken (size_of e) l) (read_values e l) (size_of e) l g refl h

pub ending_taken : (e : Ending) (l : List ℕ) (v : ℕ) (r : List ℕ) → measured (size_of e) l ≡ taken v r → read_ending e nothing l ≡ read_values e l
unfolding measured read_ending
ending_taken e l v r h =
    (taken_both (ltb (length l) (size_of e)) (ltb (size_of e) (length l)) (taken (size_of e) l) (read_values e l) v r h).2

-- measured bytes may be read as if a package stood behind them
pub ending_alone : (e : Ending) (l : List ℕ) (v : ℕ) (r : List ℕ) → measured (size_of e) l ≡ taken v r → read_ending e nothing l ≡ read_ending e a_package l
unfolding measured read_ending refuse_if
ending_alone e l v r h =
    let (many, few, whole) = taken_both (ltb (length l) (size_of e)) (ltb (size_of e) (length l)) (taken (size_of e) l) (read_values e l) v r h in
    whole ∙ rw many refl

-- a step whose bytes are not measured
pub not_measured : {T : Type 0} {meant : T → EndFields} {P : T → Cursor → Type 0} (e : Ending) (c : Cursor) (why : Reason) (r : Result (T × Cursor) Reason)
    → Takes (as_size (size_of e)) (measured (size_of e) (rest c)) (Measured c (size_of e)) (Err why) → IsErr r × IsErrAnd r (λ y. y ≡ why)
    → Takes meant (read_ending e nothing (rest c)) P r
not_measured e c why r t is = refused why r is (ending_refused e (rest c) _ t.read)

-- one that reads measured bytes as if a package stood behind them
pub read_alone : {T : Type 0} {meant : T → EndFields} {P : T → Cursor → Type 0} (e : Ending) (c : Cursor) (v : Unit {0} × Cursor) (r : Result (T × Cursor) Reason)
    → Takes (as_size (size_of e)) (measured (size_of e) (rest c)) (Measured c (size_of e)) (Ok v) → Takes meant (read_ending e a_package (rest c)) P r
    → Takes meant (read_ending e nothing (rest c)) P r
read_alone e c v r m t = record { read = ending_alone e (rest c) _ _ m.read ∙ t.read; placed = t.placed }

measured_rest : (n : ℕ) (l : List ℕ) (v : ℕ) (r : List ℕ) → measured n l ≡ taken v r → r ≡ l
unfolding measured
measured_rest n l v r h =
    let t = taken_both (ltb (length l) n) (ltb n (length l)) (taken n l) (taken n l) v r h in
    let e : taken n l ≡ taken v r = sym t.2 ∙ h in
    cc

pub end_measured : (c : Cursor) (r : Result (Unit {0} × Cursor) Reason) → Takes (as_size 0) (measured 0 (rest c)) (Measured c 0) r
    → Takes nothing_is (read_ending bare nothing (rest c)) (To c) r
unfolding read_values
end_measured c (Ok p) t =
    record { read = ending_taken bare (rest c) 0 (rest p.1) t.read ∙ ap (λ (x : List ℕ). taken no_fields x) (sym (measured_rest 0 (rest c) 0 (rest p.1) t.read)); placed = t.placed.0 }
end_measured c (Err why) t = record { read = ending_refused bare (rest c) (number_of why) t.read; placed = tt }

pub ltb_not_leb : (a b : ℕ) → ltb b a ≡ not (leb a b)
ltb_not_leb a b = go (leb a b) refl
  where
    go : (q : Bool) → leb a b ≡ q → ltb b a ≡ not q
    go true e = le-ltb b a (leb-true a b e)
    go false e = lt-ltb b a (leb-false a b e)

pub polling_values : (s : List ℕ) (at : ℕ) → ltb 2 (get_or s (at + 2) 0) ≡ false → is_time_slots (get_or s (at + 3) 0) ≡ true
    → read_values polling (drop at s)
    ≡ taken (end_fields (word_of (get_or s (at + 1) 0) (get_or s at 0)) 0 (get_or s (at + 2) 0) (get_or s (at + 3) 0) (zeros 16)) (drop (at + 4) s)
unfolding read_values refuse_if
polling_values s at request slots =
    let e : at + 0 ≡ at = omega arith in
    rw (get_or-drop at s 0 0, get_or-drop at s 1 0, get_or-drop at s 2 0, get_or-drop at s 3 0, e, drop-drop, request, slots)
