-- Entries of a part, one by one, and as entries of the list.
-- Assumes nothing.
use Rattle.std.proofs.Common.{ℕ, zero, suc, ◌+◌, ◌*◌, ◌≤◌, ◌<◌, arith, ◌≡◌, refl, sym, ap, ◌∙◌, List, [], ◌∷◌, Some, None, length, get_or, drop, Result, Ok, Err, lt-ltb, le-ltb, le-leb}
use Rattle.std.proofs.lemmas.Bool.{lt-leb}
use Rattle.std.proofs.lemmas.Option.{none-some, same_Some}
use Rattle.std.specs.Result.{result_ok}
use Rattle.felica_format.specs.Basic.{◌and◌, word_at, Step, taken, refuse, bind}
use Rattle.felica_format.specs.Command.{Formed}
use Rattle.felica_format.specs.Read.{words_of, read_element, read_each}
use Rattle.felica_format.specs.declared.error.Reason.{Reason}
use Rattle.felica_format.proofs.Steps.{bind_taken, taken_value}
use Rattle.felica_command.specs.Meaning.{value_or}
use Rattle.felica_command.specs.declared.command.Part.{Part}
use Rattle.felica_entries.specs.Entries.{code_entry, value_of, element_behind, element_entry, CodeOfList, ElementOfList}
use Rattle.felica_cursor.specs.Steps.{formed_is}
use Rattle.felica_cursor.specs.Taken.{rest, as_step}
use Rattle.felica_cursor.specs.declared.cursor.Cursor.{Cursor}
use Rattle.felica_cursor.specs.declared.cursor.FormedElement.{FormedElement}
use Rattle.felica_cursor.proofs.Laws.{word_drop}

-- where there is no entry, and where there is
pub no_code : (s : List ℕ) (p : Part) (i : ℕ) → p.count ≤ i → code_entry s p i ≡ None
unfolding code_entry ◌and◌
no_code s p i h = rw (le-ltb i p.count h)

pub no_room : (s : List ℕ) (p : Part) (i : ℕ) → i < p.count → length s < p.start + 2 * i + 2 → code_entry s p i ≡ None
unfolding code_entry ◌and◌
no_room s p i h g = rw (lt-ltb i p.count h, lt-leb (p.start + 2 * i + 2) (length s) g)

pub one_code : (s : List ℕ) (p : Part) (i : ℕ) → i < p.count → p.start + 2 * i + 2 ≤ length s → code_entry s p i ≡ Some (word_at s (p.start + 2 * i))
unfolding code_entry ◌and◌
one_code s p i h g = rw (lt-ltb i p.count h, le-leb (p.start + 2 * i + 2) (length s) g)

pub no_element : (s : List ℕ) (p : Part) (i : ℕ) → p.count ≤ i → element_entry s p i ≡ None
unfolding element_entry
no_element s p i h = rw (le-ltb i p.count h)

pub one_element_read : (s : List ℕ) (p : Part) (i : ℕ) → i < p.count → element_entry s p i ≡ value_of (element_behind i (drop p.start s))
unfolding element_entry
one_element_read s p i h = rw (lt-ltb i p.count h)

-- an element is walked over
past : (e : Formed) (x : Step (List Formed)) → bind (bind x λ es t. taken (e ∷ es) t) (λ before rest. read_element rest) ≡ bind x (λ before rest. read_element rest)
unfolding bind
past e (taken es r) = refl
past e (refuse n) = refl

pub behind_none : (l : List ℕ) → element_behind 0 l ≡ read_element l
unfolding read_each bind
behind_none l = refl

pub behind_more : (k n : ℕ) (l : List ℕ) (e : Formed) (r : List ℕ) → k ≡ suc n → read_element l ≡ taken e r → element_behind k l ≡ element_behind n r
unfolding read_each bind
behind_more k n l e r p q = rw (p, q) (past e (read_each n r))

pub behind_refused : (k n : ℕ) (l : List ℕ) → k ≡ suc n → value_of (read_element l) ≡ None → value_of (element_behind k l) ≡ None
unfolding read_each bind
behind_refused k n l p q = rw p (stop (read_element l) q)
  where
    stop : (x : Step Formed) → value_of x ≡ None → value_of (bind (bind x λ e r. bind (read_each n r) λ es t. taken (e ∷ es) t) λ before rest. read_element rest) ≡ None
    stop (taken e r) none = absurd (none-some e (sym none))
    stop (refuse g) none = refl

-- what a step's answer has, and lacks
pub ok_taken : (answer : Result (FormedElement × Cursor) Reason) (e : FormedElement) (behind : Cursor) → result_ok answer ≡ Some (e, behind)
    → as_step formed_is answer ≡ taken (formed_is e) (rest behind)
ok_taken (Ok p) e behind is = rw (same_Some p (e, behind) is) refl
ok_taken (Err why) e behind is = absurd (none-some (e, behind) is)

pub ok_refused : (answer : Result (FormedElement × Cursor) Reason) → result_ok answer ≡ None → value_of (as_step formed_is answer) ≡ None
ok_refused (Ok p) is = absurd (none-some p (sym is))
ok_refused (Err why) is = refl

-- the codes of a list
codes_get : (n : ℕ) (l : List ℕ) (i : ℕ) → i < n → get_or (words_of n l) i 0 ≡ word_at l (2 * i)
unfolding words_of
codes_get zero l i h = absurd (omega arith)
codes_get (suc n) l zero h = refl
codes_get (suc n) l (suc i) h =
    let e : 2 + 2 * i ≡ 2 * suc i = omega arith in
    codes_get n (drop 2 l) i (omega arith) ∙ word_drop l 2 (2 * i) ∙ ap (word_at l) e

pub code_of_list : CodeOfList
code_of_list s p i inside h = one_code s p i h (omega arith) ∙ ap Some (sym (codes_get p.count (drop p.start s) i h ∙ word_drop s p.start (2 * i)))

-- the elements of a list
behind_get : (n : ℕ) (l : List ℕ) (es : List Formed) (r : List ℕ) (d : Formed) (i : ℕ) → read_each n l ≡ taken es r → i < n
    → value_of (element_behind i l) ≡ Some (get_or es i d)
unfolding read_each
behind_get zero l es r d i took h = absurd (omega arith)
behind_get (suc n) l es r d zero took h =
    let first = bind_taken _ _ took in
    let rest = bind_taken _ _ first.3 in
    let value = taken_value rest.3 in
    ap value_of (behind_none l ∙ first.2) ∙ ap (λ (x : List Formed). Some (get_or x 0 d)) value
behind_get (suc n) l es r d (suc i) took h =
    let first = bind_taken _ _ took in
    let rest = bind_taken _ _ first.3 in
    let value = taken_value rest.3 in
    ap value_of (behind_more (suc i) i l first.0 first.1 refl first.2) ∙
    behind_get n first.1 rest.0 rest.1 d i rest.2 (omega arith) ∙ ap (λ (x : List Formed). Some (get_or x (suc i) d)) value

element_of_step : (s : List ℕ) (p : Part) (i : ℕ) (d : Formed) (x : Step (List Formed)) → read_each p.count (drop p.start s) ≡ x
    → length (value_or [] x) ≡ p.count → i < p.count → element_entry s p i ≡ Some (get_or (value_or [] x) i d)
element_of_step s p i d (taken es r) is counted h = one_element_read s p i h ∙ behind_get p.count (drop p.start s) es r d i is h
element_of_step s p i d (refuse n) is counted h = absurd (omega (arith, counted))

pub element_of_list : ElementOfList
element_of_list s p i d counted h = element_of_step s p i d (read_each p.count (drop p.start s)) refl counted h
