-- The laws of an element and of the block list. Each block number below 256 has two forms, and the short one is one byte shorter.
-- Assumes nothing.
use Rattle.std.proofs.Common.{ℕ, zero, suc, ◌+◌, ◌*◌, ◌/◌, ◌%◌, ◌≤◌, ◌<◌, arith, ◌≡◌, refl, sym, ap, ◌∙◌, ◌⊎◌, inl, inr, Bool, true, false, not, cond, ◌||◌, true≢false, List, [], ◌∷◌, ◌++◌, append_assoc, map, length, length-append, ltb, leb, eqb, ltb-true, ltb-false, eqb-true, eq-eqb}
use Rattle.std.proofs.lemmas.List.{length-map}
use Rattle.felica_format.specs.Basic.{◌and◌, Bytes, taken, bind}
use Rattle.felica_format.specs.Command.{Element, Formed, long_count}
use Rattle.felica_format.specs.Read.{formed, read_short, read_long, read_element, read_each, read_elements}
use Rattle.felica_format.specs.Write.{Forms, head_of, short_bytes, long_bytes, is_short, element_bytes, each_bytes, long_in, elements_bytes}
use Rattle.felica_format.specs.Writable.{element_ok, each_ok, elements_ok}
use Rattle.felica_format.proofs.Tests.{tests, and_left, and_right, and_both, is_empty_true}
use Rattle.felica_format.proofs.Bytes.{all_below_append, bytes_right, head_below, tail_below}
use Rattle.felica_format.proofs.Steps.{taken_value, taken_rest, none_taken, bind_taken}
use Rattle.felica_format.proofs.Laws.{Laws, counted_laws}

same_element : {n n' p p' m m' : ℕ} → n ≡ n' → p ≡ p' → m ≡ m'
    → ◌≡◌ {A = Element} (record { number = n; place = p; mode = m }) (record { number = n'; place = p'; mode = m' })
same_element x y z = λ i. record { number = x i; place = y i; mode = z i }

module _ (e : Element) (ok : element_ok e ≡ true) where
  number_small : e.number < 65536
  number_small = ltb-true _ _ (and_left _ _ ok)

  place_small : e.place < 16
  place_small = ltb-true _ _ (and_left _ _ (and_right _ _ ok))

  mode_small : e.mode < 8
  mode_small = ltb-true _ _ (and_right _ _ (and_right _ _ ok))

  pub short_back : e.number < 256 → (rest : List ℕ) → read_element (short_bytes e ++ rest) ≡ taken (formed false e) rest
  unfolding read_element read_short short_bytes
  short_back h rest =
      let p = place_small in
      let m = mode_small in
      let set : ltb (128 + head_of e) 128 ≡ false = omega tests in
      rw set (ap (λ (x : Element). taken (formed false x) rest) (same_element refl (omega arith) (omega arith)))

  pub long_back : (rest : List ℕ) → read_element (long_bytes e ++ rest) ≡ taken (formed true e) rest
  unfolding read_element read_long long_bytes
  long_back rest =
      let n = number_small in
      let p = place_small in
      let m = mode_small in
      let clear : ltb (head_of e) 128 ≡ true = omega tests in
      rw clear (ap (λ (x : Element). taken (formed true x) rest) (same_element (omega arith) (omega arith) (omega arith)))

  short_small : e.number < 256 → Bytes (short_bytes e)
  unfolding short_bytes
  short_small h =
      let p = place_small in
      let m = mode_small in
      and_both (omega tests) (and_both (omega tests) refl)

  long_small : Bytes (long_bytes e)
  unfolding long_bytes
  long_small =
      let n = number_small in
      let p = place_small in
      let m = mode_small in
      and_both (omega tests) (and_both (omega tests) (and_both (omega tests) refl))

-- The two forms of an element: short only below 256, and long only where that is chosen or the number is from 256 up.
pub by_form : (P : List ℕ → Type 0) (long : Bool) (e : Element)
    → (e.number < 256 → P (short_bytes e)) → ((long ≡ false → 256 ≤ e.number) → P (long_bytes e)) → P (element_bytes long e)
unfolding element_bytes ◌and◌
by_form P long e short other = go long _ (λ h. omega tests) (λ h. omega tests) other
  where
    go : (long b : Bool) → (b ≡ true → e.number < 256) → (b ≡ false → 256 ≤ e.number) → ((long ≡ false → 256 ≤ e.number) → P (long_bytes e))
        → P (cond (not long and b) (short_bytes e) (long_bytes e))
    go false true below above other = short (below refl)
    go false false below above other = other (λ q. above refl)
    go true b below above other = other (λ q. absurd (true≢false q))

-- ── an element in its form ──────────────────────────────────────────────────
form_bytes : Formed → List ℕ
form_bytes f = cond f.long (long_bytes f.element) (short_bytes f.element)

-- the short form only below 256
form_ok : Formed → Bool
form_ok f = element_ok f.element and (f.long || ltb f.element.number 256)

form_back : (long : Bool) (e : Element) (rest : List ℕ) → form_ok (formed long e) ≡ true → read_element (form_bytes (formed long e) ++ rest) ≡ taken (formed long e) rest
unfolding form_ok form_bytes
form_back true e rest ok = long_back e (and_left _ _ ok) rest
form_back false e rest ok = short_back e (and_left _ _ ok) (ltb-true _ _ (and_right _ _ ok)) rest

form_small : (long : Bool) (e : Element) → form_ok (formed long e) ≡ true → Bytes (form_bytes (formed long e))
unfolding form_ok form_bytes
form_small true e ok = long_small e (and_left _ _ ok)
form_small false e ok = short_small e (and_left _ _ ok) (ltb-true _ _ (and_right _ _ ok))

Form : List ℕ → Formed → List ℕ → Type 0
Form s f rest = (form_ok f ≡ true) × (s ≡ form_bytes f ++ rest)

long_only : (head : ℕ) (s : List ℕ) (f : Formed) (rest : List ℕ) → head < 128 → Bytes s → read_long head s ≡ taken f rest → Form (head ∷ s) f rest
unfolding Form form_ok form_bytes read_long long_bytes
long_only head [] f rest h small r = absurd (none_taken r)
long_only head (a ∷ []) f rest h small r = absurd (none_taken r)
long_only head (a ∷ b ∷ s) f rest h small r =
    let ha : a < 256 = head_below 256 a (b ∷ s) small in
    let hb : b < 256 = head_below 256 b s (tail_below 256 a (b ∷ s) small) in
    let n : ltb (a + 256 * b) 65536 ≡ true = omega tests in
    let p : ltb (head % 16) 16 ≡ true = omega tests in
    let m : ltb (head / 16 % 8) 8 ≡ true = omega tests in
    let first : 16 * (head / 16 % 8) + head % 16 ≡ head = omega arith in
    let low : (a + 256 * b) % 256 ≡ a = omega arith in
    let high : (a + 256 * b) / 256 ≡ b = omega arith in
    (rw (← taken_value r) (and_both (and_both n (and_both p m)) refl), rw (← taken_value r, ← taken_rest r, first, low, high))

short_only : (head : ℕ) (s : List ℕ) (f : Formed) (rest : List ℕ) → 128 ≤ head → head < 256 → Bytes s → read_short head s ≡ taken f rest → Form (head ∷ s) f rest
unfolding Form form_ok form_bytes read_short short_bytes
short_only head [] f rest l h small r = absurd (none_taken r)
short_only head (a ∷ s) f rest l h small r =
    let ha : a < 256 = head_below 256 a s small in
    let n : ltb a 65536 ≡ true = omega tests in
    let p : ltb (head % 16) 16 ≡ true = omega tests in
    let m : ltb (head / 16 % 8) 8 ≡ true = omega tests in
    let first : 128 + (16 * (head / 16 % 8) + head % 16) ≡ head = omega arith in
    (rw (← taken_value r) (and_both (and_both n (and_both p m)) (omega tests)), rw (← taken_value r, ← taken_rest r, first))

element_only : (s : List ℕ) (f : Formed) (rest : List ℕ) → Bytes s → read_element s ≡ taken f rest → Form s f rest
unfolding read_element
element_only [] f rest small r = absurd (none_taken r)
element_only (head ∷ s) f rest small r = go (ltb head 128) refl r
  where
    go : (b : Bool) → ltb head 128 ≡ b → cond b (read_long head s) (read_short head s) ≡ taken f rest → Form (head ∷ s) f rest
    go true h r = long_only head s f rest (ltb-true _ _ h) (and_right _ _ small) r
    go false h r = short_only head s f rest (ltb-false _ _ h) (ltb-true _ _ (and_left _ _ small)) (and_right _ _ small) r

form_rest : (s : List ℕ) (f : Formed) (t : List ℕ) → Bytes s → Form s f t → Bytes t
unfolding Form
form_rest s f t small k = bytes_right (form_bytes f) t (rw k.1 at small)

-- ── n of them ───────────────────────────────────────────────────────────────
forms_bytes : List Formed → List ℕ
forms_bytes [] = []
forms_bytes (f ∷ fs) = form_bytes f ++ forms_bytes fs

forms_ok : List Formed → Bool
forms_ok [] = true
forms_ok (f ∷ fs) = form_ok f and forms_ok fs

abbrev each_in : ℕ → List Formed → Bool
each_in n fs = eqb (length fs) n and forms_ok fs

each_back : (fs : List Formed) (rest : List ℕ) → forms_ok fs ≡ true → read_each (length fs) (forms_bytes fs ++ rest) ≡ taken fs rest
unfolding read_each forms_bytes forms_ok bind
each_back [] rest ok = refl
each_back (f ∷ fs) rest ok =
    rw (append_assoc, form_back f.long f.element (forms_bytes fs ++ rest) (and_left _ _ ok), each_back fs rest (and_right _ _ ok))

Each : ℕ → List ℕ → List Formed → List ℕ → Type 0
Each n s fs rest = (each_in n fs ≡ true) × (s ≡ forms_bytes fs ++ rest)

each_step : (n : ℕ) (s : List ℕ) (f : Formed) (t : List ℕ) (ds : List Formed) (u : List ℕ) (fs : List Formed) (rest : List ℕ)
    → Form s f t → Each n t ds u → taken (f ∷ ds) u ≡ taken fs rest → Each (suc n) s fs rest
unfolding Form Each forms_ok forms_bytes
each_step n s f t ds u fs rest h k r =
    let len : length ds ≡ n = eqb-true _ _ (and_left _ _ k.0) in (
      rw (← taken_value r) (and_both (eq-eqb _ _ (ap suc len)) (and_both h.0 (and_right _ _ k.0))),
      rw (← taken_value r, ← taken_rest r, append_assoc) (h.1 ∙ ap (λ (x : List ℕ). form_bytes f ++ x) k.1),
    )

each_only : (n : ℕ) (s : List ℕ) (fs : List Formed) (rest : List ℕ) → Bytes s → read_each n s ≡ taken fs rest → Each n s fs rest
unfolding read_each forms_bytes forms_ok Each
each_only zero s fs rest small r = (rw (← taken_value r) (and_both refl refl), rw (← taken_value r) (taken_rest r))
each_only (suc n) s fs rest small r =
    let b = bind_taken _ _ r in
    let f = element_only s b.0 b.1 small b.2 in
    let d = bind_taken _ _ b.3 in
    each_step n s b.0 b.1 d.0 d.1 fs rest f (each_only n b.1 d.0 d.1 (form_rest s b.0 b.1 small f) d.2) d.3

each_small : (fs : List Formed) → forms_ok fs ≡ true → Bytes (forms_bytes fs)
unfolding forms_bytes forms_ok
each_small [] ok = refl
each_small (f ∷ fs) ok = rw all_below_append (and_both (form_small f.long f.element (and_left _ _ ok)) (each_small fs (and_right _ _ ok)))

each_laws : (n : ℕ) → Laws (read_each n) forms_bytes (each_in n)
unfolding Each
each_laws n = record {
  back = λ fs rest ok. let len : length fs ≡ n = eqb-true _ _ (and_left _ _ ok) in rw (← len) (each_back fs rest (and_right _ _ ok));
  only = λ s fs rest small e. each_only n s fs rest small e;
  small = λ fs ok. each_small fs (and_right _ _ ok);
}

-- ── elements in a choice of forms ───────────────────────────────────────────
-- each element in the form that the choice gives it
in_form : Bool → Element → Formed
in_form long e = formed (not (is_short long e)) e

pub in_forms : Forms → List Element → List Formed
in_forms forms [] = []
in_forms [] (e ∷ es) = in_form false e ∷ in_forms [] es
in_forms (long ∷ forms) (e ∷ es) = in_form long e ∷ in_forms forms es

abbrev pub elements_in : List Formed → List Element
elements_in fs = map (λ f. f.element) fs

abbrev forms_in : List Formed → Forms
forms_in fs = map (λ f. f.long) fs

module _ (long : Bool) (e : Element) where
  in_form_bytes : form_bytes (in_form long e) ≡ element_bytes long e
  unfolding form_bytes in_form element_bytes
  in_form_bytes = go (is_short long e)
    where
      go : (b : Bool) → cond (not b) (long_bytes e) (short_bytes e) ≡ cond b (short_bytes e) (long_bytes e)
      go true = refl
      go false = refl

  in_form_ok : element_ok e ≡ true → form_ok (in_form long e) ≡ true
  unfolding form_ok in_form ◌and◌
  in_form_ok ok = and_both ok (go long (ltb e.number 256))
    where
      go : (long b : Bool) → (not (not long and b) || b) ≡ true
      go true b = refl
      go false true = refl
      go false false = refl

  in_form_long : ◌≡◌ {A = ℕ} (cond (in_form long e).long 1 0) (cond (is_short long e) 0 1)
  unfolding in_form
  in_form_long = go (is_short long e)
    where
      go : (b : Bool) → ◌≡◌ {A = ℕ} (cond (not b) 1 0) (cond b 0 1)
      go true = refl
      go false = refl

  -- an element in the form that it has
  in_form_same : form_ok (formed long e) ≡ true → in_form long e ≡ formed long e
  unfolding form_ok in_form ◌and◌
  in_form_same ok = go long (ltb e.number 256) (and_right (element_ok e) _ ok)
    where
      go : (long b : Bool) → (long || b) ≡ true → formed (not (not long and b)) e ≡ formed long e
      go true b h = refl
      go false true h = refl
      go false false h = absurd (true≢false (sym h))

in_forms_bytes : (forms : Forms) (es : List Element) → forms_bytes (in_forms forms es) ≡ each_bytes forms es
unfolding forms_bytes in_forms each_bytes
in_forms_bytes forms [] = refl
in_forms_bytes [] (e ∷ es) = rw (in_form_bytes false e, in_forms_bytes [] es)
in_forms_bytes (long ∷ forms) (e ∷ es) = rw (in_form_bytes long e, in_forms_bytes forms es)

in_forms_ok : (forms : Forms) (es : List Element) → each_ok es ≡ true → forms_ok (in_forms forms es) ≡ true
unfolding forms_ok in_forms each_ok
in_forms_ok forms [] ok = refl
in_forms_ok [] (e ∷ es) ok = and_both (in_form_ok false e (and_left _ _ ok)) (in_forms_ok [] es (and_right _ _ ok))
in_forms_ok (long ∷ forms) (e ∷ es) ok = and_both (in_form_ok long e (and_left _ _ ok)) (in_forms_ok forms es (and_right _ _ ok))

pub in_forms_elements : (forms : Forms) (es : List Element) → elements_in (in_forms forms es) ≡ es
unfolding in_forms in_form
in_forms_elements forms [] = refl
in_forms_elements [] (e ∷ es) = ap (λ (r : List Element). e ∷ r) (in_forms_elements [] es)
in_forms_elements (long ∷ forms) (e ∷ es) = ap (λ (r : List Element). e ∷ r) (in_forms_elements forms es)

pub in_forms_long : (forms : Forms) (es : List Element) → long_count (in_forms forms es) ≡ long_in forms es
unfolding in_forms long_in
in_forms_long forms [] = refl
in_forms_long [] (e ∷ es) = rw (in_form_long false e, in_forms_long [] es)
in_forms_long (long ∷ forms) (e ∷ es) = rw (in_form_long long e, in_forms_long forms es)

in_forms_same : (fs : List Formed) → forms_ok fs ≡ true → in_forms (forms_in fs) (elements_in fs) ≡ fs
unfolding forms_ok in_forms
in_forms_same [] ok = refl
in_forms_same (f ∷ fs) ok = rw (in_form_same f.long f.element (and_left _ _ ok), in_forms_same fs (and_right _ _ ok))

elements_in_ok : (fs : List Formed) → forms_ok fs ≡ true → each_ok (elements_in fs) ≡ true
unfolding forms_ok form_ok each_ok
elements_in_ok [] ok = refl
elements_in_ok (f ∷ fs) ok = and_both (and_left _ _ (and_left _ _ ok)) (elements_in_ok fs (and_right _ _ ok))

pub in_forms_length : (forms : Forms) (es : List Element) → length (in_forms forms es) ≡ length es
unfolding in_forms
in_forms_length forms [] = refl
in_forms_length [] (e ∷ es) = ap suc (in_forms_length [] es)
in_forms_length (long ∷ forms) (e ∷ es) = ap suc (in_forms_length forms es)

-- no more are long than there are
pub long_few : (fs : List Formed) → long_count fs ≤ length fs
long_few [] = omega arith
long_few (f ∷ fs) = go f.long (long_few fs)
  where
    go : (b : Bool) → long_count fs ≤ length fs → cond b 1 0 + long_count fs ≤ suc (length fs)
    go true h = omega arith
    go false h = omega arith

-- ── the block list ──────────────────────────────────────────────────────────
abbrev blocks_ok : List Formed → Bool
blocks_ok fs = leb 1 (length fs) and leb (length fs) 255 and forms_ok fs

blocks_laws : (missing outside : ℕ) → Laws (read_elements missing outside true) (λ fs. length fs ∷ forms_bytes fs) blocks_ok
unfolding read_elements
blocks_laws missing outside = counted_laws missing outside 1 255 (omega arith) read_each forms_bytes forms_ok each_laws

in_forms_blocks : (forms : Forms) (es : List Element) → elements_ok true es ≡ true → blocks_ok (in_forms forms es) ≡ true
unfolding elements_ok
in_forms_blocks forms es ok = rw (in_forms_length forms es)
    (and_both (and_left _ _ ok) (and_both (and_left _ _ (and_right _ _ ok)) (in_forms_ok forms es (and_right _ _ (and_right _ _ ok)))))

pub elements_back : (missing outside : ℕ) (there : Bool) (forms : Forms) (es : List Element) (rest : List ℕ) → elements_ok there es ≡ true
    → read_elements missing outside there (elements_bytes there forms es ++ rest) ≡ taken (in_forms forms es) rest
unfolding read_elements elements_bytes elements_ok in_forms
elements_back missing outside false forms es rest ok = rw (is_empty_true es ok)
elements_back missing outside true forms es rest ok =
    rw (in_forms_length forms es, in_forms_bytes forms es) at ((blocks_laws missing outside).back (in_forms forms es) rest (in_forms_blocks forms es ok))

pub elements_small : (there : Bool) (forms : Forms) (es : List Element) → elements_ok there es ≡ true → Bytes (elements_bytes there forms es)
unfolding elements_bytes
elements_small false forms es ok = refl
elements_small true forms es ok =
    rw (in_forms_length forms es, in_forms_bytes forms es) at ((blocks_laws 9 10).small (in_forms forms es) (in_forms_blocks forms es ok))

-- what was read as a block list is its elements in a choice of forms
pub record Blocks (there : Bool) (s : List ℕ) (fs : List Formed) (rest : List ℕ) : Type 0 where
  pub forms : Forms
  pub ok : elements_ok there (elements_in fs) ≡ true
  pub same : in_forms forms (elements_in fs) ≡ fs
  pub is : s ≡ elements_bytes there forms (elements_in fs) ++ rest

pub elements_only : (missing outside : ℕ) (there : Bool) (s : List ℕ) (fs : List Formed) (rest : List ℕ) → Bytes s
    → read_elements missing outside there s ≡ taken fs rest → Blocks there s fs rest
unfolding read_elements elements_bytes elements_ok in_forms
elements_only missing outside false s fs rest small r =
    let none : [] ≡ fs = taken_value r in
    record { forms = []; ok = rw (← none); same = rw (← none); is = taken_rest r }
elements_only missing outside true s fs rest small r =
    let o = (blocks_laws missing outside).only s fs rest small r in
    let low = and_left _ _ o.0 in
    let high = and_left _ _ (and_right _ _ o.0) in
    let all = and_right _ _ (and_right _ _ o.0) in
    let same = in_forms_same fs all in
    let is : forms_bytes fs ≡ each_bytes (forms_in fs) (elements_in fs) = ap forms_bytes (sym same) ∙ in_forms_bytes (forms_in fs) (elements_in fs) in
    record {
      forms = forms_in fs;
      ok = rw (length-map fs (λ f. f.element)) (and_both low (and_both high (elements_in_ok fs all)));
      same = same;
      is = rw (length-map fs (λ f. f.element), ← is) o.1;
    }

-- the count and the elements apart
unfoldable pub count_bytes : Bool → List Element → List ℕ
count_bytes false es = []
count_bytes true es = length es ∷ []

pub elements_apart : (there : Bool) (forms : Forms) (es : List Element) → elements_ok there es ≡ true → elements_bytes there forms es ≡ count_bytes there es ++ each_bytes forms es
unfolding elements_bytes elements_ok count_bytes each_bytes
elements_apart true forms es ok = refl
elements_apart false forms es ok = rw (is_empty_true es ok)

-- of two writings of one thing, the other is the short one or longer
abbrev pub SameOrLonger : List ℕ → List ℕ → Type 0
SameOrLonger other short = (other ≡ short) ⊎ (length short < length other)

append_longer : (a a' b b' : List ℕ) → SameOrLonger a a' → SameOrLonger b b' → SameOrLonger (a ++ b) (a' ++ b')
append_longer a a' b b' (inl p) (inl q) = inl (rw (p, q))
append_longer a a' b b' (inl p) (inr q) = inr (rw p (simp length-append (omega arith)))
append_longer a a' b b' (inr p) (inl q) = inr (rw q (simp length-append (omega arith)))
append_longer a a' b b' (inr p) (inr q) = inr (simp length-append (omega arith))

element_longer : (long : Bool) (e : Element) → SameOrLonger (element_bytes long e) (element_bytes false e)
unfolding element_bytes ◌and◌ short_bytes long_bytes
element_longer false e = inl refl
element_longer true e = by_form (SameOrLonger (long_bytes e)) false e (λ h. inr (omega arith)) (λ why. inl refl)

each_longer : (forms : Forms) (es : List Element) → SameOrLonger (each_bytes forms es) (each_bytes [] es)
unfolding each_bytes
each_longer forms [] = inl refl
each_longer [] (e ∷ es) = inl refl
each_longer (long ∷ forms) (e ∷ es) = append_longer (element_bytes long e) (element_bytes false e) (each_bytes forms es) (each_bytes [] es) (element_longer long e) (each_longer forms es)

pub elements_longer : (there : Bool) (forms : Forms) (es : List Element) → SameOrLonger (elements_bytes there forms es) (elements_bytes there [] es)
unfolding elements_bytes
elements_longer false forms es = inl refl
elements_longer true forms es = append_longer (length es ∷ []) (length es ∷ []) (each_bytes forms es) (each_bytes [] es) (inl refl) (each_longer forms es)
