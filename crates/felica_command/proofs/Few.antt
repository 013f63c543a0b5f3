-- How much the bytes of one call can give: no block list has more than 255 elements, no code list more codes than its layout allows, whatever the bytes are.
-- Assumes nothing.
use Rattle.std.proofs.Common.{ℕ, suc, ◌*◌, ◌≤◌, arith, ◌≡◌, refl, sym, ap, ◌∙◌, subst, ◌⊎◌, inl, inr, Bool, true, false, cond, ◌||◌, List, [], ◌∷◌, map, length, length-append, length-take-le, ltb, eqb, ltb-false}
use Rattle.std.proofs.lemmas.List.{length-map, length-replicate}
use Rattle.std.specs.Prelude.{Option, None}
use Rattle.felica_format.specs.Basic.{zeros, taken, refuse_if}
use Rattle.felica_format.specs.Command.{EndFields, Command, Element, Formed, long_count}
use Rattle.felica_format.specs.Layout.{Codes, no_codes, ◌to◌, Ending, bytes, word, words, reserved, polling, parameter, Behind, Layout, class_of, layout_of, bounds_of}
use Rattle.felica_format.specs.Read.{read_idm, read_count, read_words, read_codes, read_each, read_elements, read_data, size_of, read_values, too_long, read_ending}
use Rattle.felica_format.specs.Read.{Counted, counted, read_body, Answer as Reading, gives, refused, read_payload, read_frame, read_secure}
use Rattle.felica_format.specs.Grounds.{Number}
use Rattle.felica_format.proofs.Steps.{taken_value, none_taken, refuse_if_passed, refuse_if_taken, not_given}
use Rattle.felica_format.proofs.Tests.{or_none}
use Rattle.felica_format.proofs.Elements.{long_few}
use Rattle.felica_format.proofs.Body.{Narrow}
use Rattle.felica_format.proofs.Rows.{every_layout}
use Rattle.felica_format.proofs.Grounds.{payload_refusals, secure_refusals}
use Rattle.felica_format.proofs.Demand3.{plain_gives, secure_gives}
use Rattle.felica_command.proofs.Inside.{bytes_leave, words_of_length, each_leaves, took}

zeros_length : (n : ℕ) → length (zeros n) ≡ n
zeros_length n = length-replicate {A = ℕ} n 0

idm_whole : (there : Bool) (s v r : List ℕ) → read_idm there s ≡ taken v r → length v ≡ 8
unfolding read_idm
idm_whole true s v r h = (bytes_leave 8 6 s v r h).1
idm_whole false s v r h = ap length (sym (taken_value h)) ∙ zeros_length 8

count_few : (m o least greatest : ℕ) (s : List ℕ) (n : ℕ) (r : List ℕ) → read_count m o least greatest s ≡ taken n r → n ≤ greatest
unfolding read_count
count_few m o least greatest [] n r h = absurd (none_taken h)
count_few m o least greatest (x ∷ s) n r h =
    let within : x ≤ greatest = ltb-false greatest x (or_none (ltb x least) (ltb greatest x) (refuse_if_passed (ltb x least || ltb greatest x) o (taken x s) h)).1 in
    subst (λ (k : ℕ). k ≤ greatest) (taken_value (refuse_if_taken (ltb x least || ltb greatest x) o (taken x s) h)) within

codes_few : (m o : ℕ) (codes : Codes) (s v r : List ℕ) → read_codes m o codes s ≡ taken v r → length v ≤ (bounds_of codes).greatest
unfolding read_codes read_words
codes_few m o no_codes s v r h = subst (λ (l : List ℕ). length l ≤ 0) (taken_value h) (omega arith)
codes_few m o (least to greatest) s v r h =
    took (read_count m o least greatest s) read_words h λ n t hn ht.
    let few = count_few m o least greatest s n t hn in
    let is : length v ≡ n = ap length (sym (taken_value (refuse_if_taken _ 13 _ ht))) ∙ words_of_length n t in
    omega arith

elements_few : (m o : ℕ) (there : Bool) (s : List ℕ) (es : List Formed) (r : List ℕ) → read_elements m o there s ≡ taken es r → length es ≤ 255
unfolding read_elements
elements_few m o false s es r h = subst (λ (l : List Formed). length l ≤ 255) (taken_value h) (omega arith)
elements_few m o true s es r h =
    took (read_count m o 1 255 s) read_each h λ n t hn ht.
    let few = count_few m o 1 255 s n t hn in
    let is : length es ≡ n = (each_leaves n t es r ht).1 in
    omega arith

data_few : (there : Bool) (m : ℕ) (s v r : List ℕ) → read_data there m s ≡ taken v r → length v ≤ 16 * m
unfolding read_data
data_few false m s v r h = subst (λ (l : List ℕ). length l ≤ 16 * m) (taken_value h) (omega arith)
data_few true m s v r h = let is = (bytes_leave (16 * m) 17 s v r h).1 in omega arith

-- the sixteen bytes beside a command
challenge_whole : (e : Ending) (s : List ℕ) (f : EndFields) (r : List ℕ) → size_of e ≤ 16 → size_of e ≤ length s → read_values e s ≡ taken f r
    → length f.challenge ≡ 16
unfolding read_values
challenge_whole (bytes n) s f r narrow there h =
    ap (λ (x : EndFields). length x.challenge) (sym (taken_value h)) ∙ simp (length-append, zeros_length, length-take-le n s there) (omega arith)
challenge_whole word s f r narrow there h = ap (λ (x : EndFields). length x.challenge) (sym (taken_value h)) ∙ zeros_length 16
challenge_whole words s f r narrow there h = ap (λ (x : EndFields). length x.challenge) (sym (taken_value h)) ∙ zeros_length 16
challenge_whole reserved s f r narrow there h =
    ap (λ (x : EndFields). length x.challenge) (sym (taken_value (refuse_if_taken _ 18 _ h))) ∙ zeros_length 16
challenge_whole polling s f r narrow there h =
    ap (λ (x : EndFields). length x.challenge) (sym (taken_value (refuse_if_taken _ 20 _ (refuse_if_taken _ 19 _ h)))) ∙ zeros_length 16
challenge_whole parameter s f r narrow there h =
    ap (λ (x : EndFields). length x.challenge) (sym (taken_value (refuse_if_taken _ 20 _ (refuse_if_taken _ 19 _ (refuse_if_taken _ 18 _ (refuse_if_taken _ 18 _ h))))))
    ∙ zeros_length 16

ending_whole : (e : Ending) (b : Behind) (s : List ℕ) (f : EndFields) (r : List ℕ) → size_of e ≤ 16 → read_ending e b s ≡ taken f r → length f.challenge ≡ 16
unfolding read_ending
ending_whole e b s f r narrow h =
    let rest = refuse_if_taken (ltb (length s) (size_of e)) 7 (refuse_if (too_long b (size_of e) (length s)) 8 (read_values e s)) h in
    let there = ltb-false _ _ (refuse_if_passed _ 7 (refuse_if (too_long b (size_of e) (length s)) 8 (read_values e s)) h) in
    challenge_whole e s f r narrow there (refuse_if_taken _ 8 (read_values e s) rest)

-- the lists of a command are as long as a layout allows, and no more elements are long than a block list has
pub record Few (l : Layout) (c : Command) (long : ℕ) : Type 0 where
  pub idm : length c.idm ≡ 8
  pub first : length c.first ≤ (bounds_of l.first).greatest
  pub second : length c.second ≤ (bounds_of l.second).greatest
  pub blocks : length c.numbers ≤ 255
  pub places : length c.places ≤ 255
  pub modes : length c.modes ≤ 255
  pub block_data : length c.block_data ≤ 4080
  pub challenge : length c.challenge ≡ 16
  pub longs : long ≤ 255

elements_all : (fs : List Formed) (value : Element → ℕ) → length (map value (map (λ (f : Formed). f.element) fs)) ≡ length fs
elements_all fs value = length-map (map (λ (f : Formed). f.element) fs) value ∙ length-map fs (λ (f : Formed). f.element)

pub body_few : (code : ℕ) (l : Layout) → Narrow l → (s : List ℕ) (c : Counted) (rest : List ℕ) → read_body code l s ≡ taken c rest → Few l c.command c.long
unfolding read_body
body_few code l narrow s c rest h =
    took _ _ h λ idm s₁ h₁ k₁.
    took _ _ k₁ λ selector s₂ h₂ k₂.
    took _ _ k₂ λ first s₃ h₃ k₃.
    took _ _ k₃ λ second s₄ h₄ k₄.
    took _ _ k₄ λ elements s₅ h₅ k₅.
    took _ _ k₅ λ block_data s₆ h₆ k₆.
    took _ _ k₆ λ values s₇ h₇ k₇.
    took _ _ k₇ λ issue_package s₈ h₈ k₈.
    let few = elements_few _ _ l.elements s₄ elements s₅ h₅ in
    let most : long_count elements ≤ length elements = long_few elements in
    let held = data_few l.block_data (length elements) s₅ block_data s₆ h₆ in
    subst (λ (x : Counted). Few l x.command x.long) (taken_value k₈) (record {
      idm = idm_whole l.idm s idm s₁ h₁;
      first = codes_few 9 10 l.first s₂ first s₃ h₃;
      second = codes_few 11 12 l.second s₃ second s₄ h₄;
      blocks = rw (elements_all elements (λ (e : Element). e.number)) few;
      places = rw (elements_all elements (λ (e : Element). e.place)) few;
      modes = rw (elements_all elements (λ (e : Element). e.mode)) few;
      block_data = omega (arith, few, held);
      challenge = ending_whole l.ending l.behind s₆ values s₇ narrow.ending h₇;
      longs = omega (arith, few, most);
    })

-- what is few in what a reading gives, and the greatest ground on which it refuses
abbrev pub FewIn : Reading → Type 0
FewIn (gives c long) = (code : ℕ) × Few (layout_of code) c long
FewIn (refused n code) = n ≤ 20

payload_given : (s : List ℕ) (c : Command) (long : ℕ) → read_payload s ≡ gives c long → FewIn (gives c long)
unfolding read_payload
payload_given [] c long h = absurd (not_given h)
payload_given (code ∷ body) c long h =
    let (plain, rest, read) = plain_gives (class_of code) code body c long h in
    (code, body_few code (layout_of code) (every_layout code) body (counted c long) rest read)

payload_number : (s : List ℕ) (n : ℕ) (code given : Option ℕ) → Number 3 3 n None code ⊎ Number 4 20 n given code → n ≤ 20
payload_number s n code given (inl x) = omega (arith, x.1)
payload_number s n code given (inr x) = x.1

pub payload_few : (s : List ℕ) → FewIn (read_payload s)
payload_few s = go (read_payload s) refl
  where
    go : (reading : Reading) → read_payload s ≡ reading → FewIn reading
    go (gives c long) e = payload_given s c long e
    go (refused n code) e = payload_number s n code _ (payload_refusals s n code e)

pub frame_few : (s : List ℕ) → FewIn (read_frame s)
unfolding read_frame
frame_few [] = omega arith
frame_few (n ∷ payload) = go (eqb n (suc (length payload)))
  where
    go : (test : Bool) → FewIn (cond test (read_payload payload) (refused 2 None))
    go true = payload_few payload
    go false = omega arith

secure_given : (code : ℕ) (s : List ℕ) (c : Command) (long : ℕ) → read_secure code s ≡ gives c long → FewIn (gives c long)
unfolding read_secure
secure_given code s c long h =
    let (secure, rest, read) = secure_gives (class_of code) code s c long h in
    (code, body_few code (layout_of code) (every_layout code) s (counted c long) rest read)

pub secure_few : (code : ℕ) (s : List ℕ) → FewIn (read_secure code s)
secure_few code s = go (read_secure code s) refl
  where
    go : (reading : Reading) → read_secure code s ≡ reading → FewIn reading
    go (gives c long) e = secure_given code s c long e
    go (refused n k) e = (secure_refusals code s n k e).1
