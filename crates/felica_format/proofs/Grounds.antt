-- Every refusal has a number of the table: the statements of specs/Grounds.antt, each proved under its name at the end.
-- Assumes nothing.
use Rattle.std.proofs.Common.{ℕ, zero, suc, ◌*◌, ◌≤◌, arith, ◌≡◌, ◌⊎◌, inl, inr, Bool, true, false, cond, ◌&&◌, List, [], ◌∷◌, Option, None, Some, length, get_or, T, leb, ltb, eqb, leb→le}
use Rattle.felica_format.specs.declared.classes.Class.{Class}
use Rattle.felica_format.specs.declared.classes.Class.TheVariants.{Plain, Secure, Unknown}
use Rattle.felica_format.specs.Basic.{Step, taken, refuse, bind, refuse_if}
use Rattle.felica_format.specs.Layout.{Selector, no_selector, type_byte, any_byte, Codes, no_codes, ◌to◌, Ending, bytes, word, words, reserved, polling, parameter}
use Rattle.felica_format.specs.Layout.{Behind, nothing, ignored_bytes, a_package, Layout, class_of, layout_of}
use Rattle.felica_format.specs.Read.{read_bytes, read_idm, read_selector, read_count, read_words, read_codes, read_short, read_long, read_element, read_each}
use Rattle.felica_format.specs.Read.{read_elements, read_data, read_values, read_ending, read_package, if_codes, Counted, read_body, refused, answer_of}
use Rattle.felica_format.specs.Read.{read_plain_as, read_secure_as, read_payload, read_frame, read_secure}
use Rattle.felica_format.specs.Grounds.{Number, FrameRefusals, PayloadRefusals, SecureRefusals}

-- a ground of a body
abbrev Ground : ℕ → Type 0
Ground n = T (leb 6 n && leb n 20)

data Grounded {A : Type 0} : Step A → Type 0 where
  took : {a : A} {rest : List ℕ} → Grounded (taken a rest)
  refuses : {n : ℕ} → Ground n → Grounded (refuse n)

if_grounded : {A : Type 0} (b : Bool) (n : ℕ) (step : Step A) → Ground n → Grounded step → Grounded (refuse_if b n step)
unfolding refuse_if
if_grounded true n step g h = refuses g
if_grounded false n step g h = h

bind_grounded : {A B : Type 0} (m : Step A) (next : A → List ℕ → Step B) → Grounded m → ((a : A) (rest : List ℕ) → Grounded (next a rest)) → Grounded (bind m next)
unfolding bind
bind_grounded (taken a rest) next h k = k a rest
bind_grounded (refuse n) next (refuses g) k = refuses g

bytes_grounded : (n ground : ℕ) (s : List ℕ) → Ground ground → Grounded (read_bytes n ground s)
bytes_grounded n ground s g = if_grounded _ ground _ g took

idm_grounded : (there : Bool) (s : List ℕ) → Grounded (read_idm there s)
unfolding read_idm
idm_grounded false s = took
idm_grounded true s = bytes_grounded 8 6 s tt

selector_grounded : (selector : Selector) (s : List ℕ) → Grounded (read_selector selector s)
unfolding read_selector
selector_grounded no_selector s = took
selector_grounded type_byte [] = refuses tt
selector_grounded type_byte (b ∷ s) = if_grounded _ _ _ tt took
selector_grounded any_byte [] = refuses tt
selector_grounded any_byte (b ∷ s) = took

count_grounded : (missing outside least greatest : ℕ) (s : List ℕ) → Ground missing → Ground outside → Grounded (read_count missing outside least greatest s)
unfolding read_count
count_grounded missing outside least greatest [] m o = refuses m
count_grounded missing outside least greatest (n ∷ s) m o = if_grounded _ outside _ o took

codes_grounded : (missing outside : ℕ) (codes : Codes) (s : List ℕ) → Ground missing → Ground outside → Grounded (read_codes missing outside codes s)
unfolding read_codes read_words
codes_grounded missing outside no_codes s m o = took
codes_grounded missing outside (least to greatest) s m o =
    bind_grounded _ read_words (count_grounded missing outside least greatest s m o) (λ n rest. if_grounded _ _ _ tt took)

element_grounded : (s : List ℕ) → Grounded (read_element s)
unfolding read_element read_short read_long
element_grounded [] = refuses tt
element_grounded (head ∷ s) = go s (ltb head 128)
  where
    go : (s : List ℕ) (b : Bool) → Grounded (cond b (read_long head s) (read_short head s))
    go [] true = refuses tt
    go (a ∷ []) true = refuses tt
    go (a ∷ b ∷ s) true = took
    go [] false = refuses tt
    go (a ∷ s) false = took

each_grounded : (n : ℕ) (s : List ℕ) → Grounded (read_each n s)
unfolding read_each
each_grounded zero s = took
each_grounded (suc n) s = bind_grounded _ _ (element_grounded s) (λ e r. bind_grounded _ _ (each_grounded n r) (λ es t. took))

elements_grounded : (missing outside : ℕ) (there : Bool) (s : List ℕ) → Ground missing → Ground outside → Grounded (read_elements missing outside there s)
unfolding read_elements
elements_grounded missing outside false s m o = took
elements_grounded missing outside true s m o = bind_grounded _ read_each (count_grounded missing outside 1 255 s m o) each_grounded

data_grounded : (there : Bool) (m : ℕ) (s : List ℕ) → Grounded (read_data there m s)
unfolding read_data
data_grounded false m s = took
data_grounded true m s = bytes_grounded (16 * m) 17 s tt

values_grounded : (e : Ending) (s : List ℕ) → Grounded (read_values e s)
unfolding read_values
values_grounded (bytes n) s = took
values_grounded word s = took
values_grounded words s = took
values_grounded reserved s = if_grounded _ _ _ tt took
values_grounded polling s = if_grounded _ _ _ tt (if_grounded _ _ _ tt took)
values_grounded parameter s = if_grounded _ _ _ tt (if_grounded _ _ _ tt (if_grounded _ _ _ tt (if_grounded _ _ _ tt took)))

ending_grounded : (e : Ending) (b : Behind) (s : List ℕ) → Grounded (read_ending e b s)
unfolding read_ending
ending_grounded e b s = if_grounded _ _ _ tt (if_grounded _ _ _ tt (values_grounded e s))

package_grounded : (b : Behind) (s : List ℕ) → Grounded (read_package b s)
unfolding read_package
package_grounded nothing s = took
package_grounded ignored_bytes s = took
package_grounded a_package s = took

if_codes_grounded : (codes : Codes) (second first : ℕ) → Ground second → Ground first → Ground (if_codes codes second first)
if_codes_grounded no_codes second first s f = f
if_codes_grounded (least to greatest) second first s f = s

body_grounded : (code : ℕ) (l : Layout) (s : List ℕ) → Grounded (read_body code l s)
unfolding read_body
body_grounded code l s =
    bind_grounded _ _ (idm_grounded l.idm s) λ idm s₁.
    bind_grounded _ _ (selector_grounded l.selector s₁) λ selector s₂.
    bind_grounded _ _ (codes_grounded 9 10 l.first s₂ tt tt) λ first s₃.
    bind_grounded _ _ (codes_grounded 11 12 l.second s₃ tt tt) λ second s₄.
    bind_grounded _ _ (elements_grounded _ _ l.elements s₄ (if_codes_grounded l.first 11 9 tt tt) (if_codes_grounded l.first 12 10 tt tt)) λ blocks s₅.
    bind_grounded _ _ (data_grounded l.block_data (length blocks) s₅) λ block_data s₆.
    bind_grounded _ _ (ending_grounded l.ending l.behind s₆) λ values s₇.
    bind_grounded _ _ (package_grounded l.behind s₇) λ issue_package s₈.
    took

-- ── the refusals ────────────────────────────────────────────────────────────
split : (a b : Bool) → T (a && b) → T a × T b
split true b h = (tt, h)
split false b h = absurd h

number : (least greatest i n : ℕ) (given code : Option ℕ) → least ≤ i → i ≤ greatest → refused i given ≡ refused n code → Number least greatest n given code
number least greatest i n given code low high e =
    let same : i ≡ n = cc in
    (omega arith, omega arith, cc)

-- the answer to a body
body_number : (k : ℕ) (m : Step Counted) (n : ℕ) (code : Option ℕ) → Grounded m → answer_of k m ≡ refused n code → Number 6 20 n (Some k) code
body_number k (taken c rest) n code g e = absurd (let z : ◌≡◌ {A = ℕ} 0 1 = cc in omega arith)
body_number k (refuse i) n code (refuses g) e =
    let h = split (leb 6 i) (leb i 20) g in
    number 6 20 i n (Some k) code (leb→le 6 i h.0) (leb→le i 20 h.1) e

from : (least lower greatest n : ℕ) (given code : Option ℕ) → lower ≤ least → Number least greatest n given code → Number lower greatest n given code
from least lower greatest n given code low h = (omega (arith, low, h.0), h.1, h.2)

plain_number : (class : Class) (k : ℕ) (s : List ℕ) (n : ℕ) (code : Option ℕ) → read_plain_as class k s ≡ refused n code → Number 4 20 n (Some k) code
plain_number Plain k s n code e = from 6 4 20 n (Some k) code (omega arith) (body_number k _ n code (body_grounded k (layout_of k) s) e)
plain_number Secure k s n code e = number 4 20 4 n (Some k) code (omega arith) (omega arith) e
plain_number Unknown k s n code e = number 4 20 5 n (Some k) code (omega arith) (omega arith) e

secure_number : (class : Class) (k : ℕ) (s : List ℕ) (n : ℕ) (code : Option ℕ) → read_secure_as class k s ≡ refused n code → Number 5 20 n (Some k) code
secure_number Plain k s n code e = number 5 20 5 n (Some k) code (omega arith) (omega arith) e
secure_number Secure k s n code e = from 6 5 20 n (Some k) code (omega arith) (body_number k _ n code (body_grounded k (layout_of k) s) e)
secure_number Unknown k s n code e = number 5 20 5 n (Some k) code (omega arith) (omega arith) e

-- ── the statements ──────────────────────────────────────────────────────────
pub payload_refusals : PayloadRefusals
unfolding read_payload
payload_refusals [] n code e = inl (number 3 3 3 n None code (omega arith) (omega arith) e)
payload_refusals (k ∷ s) n code e = inr (plain_number (class_of k) k s n code e)

pub frame_refusals : FrameRefusals
unfolding read_frame
frame_refusals [] n code e = inl (number 1 3 1 n None code (omega arith) (omega arith) e)
frame_refusals (size ∷ payload) n code e = go (eqb size (suc (length payload))) e
  where
    wider : Number 3 3 n None code ⊎ Number 4 20 n (Some (get_or payload 0 0)) code → Number 1 3 n None code ⊎ Number 4 20 n (Some (get_or payload 0 0)) code
    wider (inl h) = inl (from 3 1 3 n None code (omega arith) h)
    wider (inr h) = inr h

    go : (b : Bool) → cond b (read_payload payload) (refused 2 None) ≡ refused n code → Number 1 3 n None code ⊎ Number 4 20 n (Some (get_or payload 0 0)) code
    go true e = wider (payload_refusals payload n code e)
    go false e = inl (number 1 3 2 n None code (omega arith) (omega arith) e)

pub secure_refusals : SecureRefusals
unfolding read_secure
secure_refusals k s n code e = secure_number (class_of k) k s n code e
