-- What passes the test of a body is ready to be put, and its length is the sum of its parts'.
-- Assumes nothing.
use Rattle.std.proofs.Common.{ℕ, ◌+◌, ◌*◌, ◌≤◌, ◌<◌, ◌≡◌, refl, sym, Bool, true, false, cond, List, [], ◌∷◌, ltb, length, length-append, arith}
use Rattle.std.proofs.lemmas.Bool.{leb-true, eqb-true}
use Rattle.std.proofs.lemmas.List.{length-take-le}
use Rattle.felica_format.specs.Basic.{all_below}
use Rattle.felica_format.specs.Command.{EndFields, Command, Element, zip_elements, elements_of, end_fields_of}
use Rattle.felica_format.specs.Layout.{Selector, no_selector, type_byte, any_byte, Codes, no_codes, ◌to◌, Ending, bytes, word, words, reserved}
use Rattle.felica_format.specs.Layout.{polling, parameter, Behind, nothing, ignored_bytes, a_package, Layout, bounds_of}
use Rattle.felica_format.specs.Read.{size_of}
use Rattle.felica_format.specs.Write.{idm_bytes, selector_bytes, words_bytes, codes_bytes, elements_bytes, data_bytes, ending_bytes, package_bytes, body_bytes}
use Rattle.felica_format.specs.Writable.{idm_ok, codes_ok, same_length, each_ok, elements_ok, data_ok, Ranges, ranges_of, end_fields_ok}
use Rattle.felica_format.specs.Writable.{package_ok, body_ok}
use Rattle.felica_format.proofs.Tests.{and_left, and_right, and_both, is_empty_true}
use Rattle.felica_format.proofs.Body.{Narrow, fits_of}
use Rattle.felica_command.specs.Places.{selector_size, codes_size}
use Rattle.felica_writable.proofs.Laws.{zip_length}
use Rattle.felica_write.specs.Size.{front_size, short_size}
use Rattle.felica_write.specs.Body.{Ready}
use Rattle.felica_write.proofs.Elements.{each_length}

few_codes : (codes : Codes) (ns : List ℕ) → (bounds_of codes).greatest < 256 → codes_ok codes ns ≡ true → length ns ≤ 255
unfolding codes_ok
few_codes no_codes ns n ok = rw (is_empty_true ns ok) (omega arith)
few_codes (least to greatest) ns n ok =
    let h = leb-true (length ns) greatest (and_left _ _ (and_right _ _ ok)) in
    omega arith

few_elements : (there : Bool) (es : List Element) → elements_ok there es ≡ true → (length es ≤ 255) × (each_ok es ≡ true)
unfolding elements_ok each_ok
few_elements false es ok = rw (is_empty_true es ok) (omega arith, refl)
few_elements true es ok = (leb-true (length es) 255 (and_left _ _ (and_right _ _ ok)), and_right _ _ (and_right _ _ ok))

small_lists : (ns ps ms : List ℕ) → length ps ≡ length ns → length ms ≡ length ns → each_ok (zip_elements ns ps ms) ≡ true
    → (all_below 16 ps ≡ true) × (all_below 8 ms ≡ true)
unfolding zip_elements each_ok
small_lists [] [] [] p m ok = (refl, refl)
small_lists [] (x ∷ ps) ms p m ok = absurd (omega arith)
small_lists [] [] (x ∷ ms) p m ok = absurd (omega arith)
small_lists (n ∷ ns) [] ms p m ok = absurd (omega arith)
small_lists (n ∷ ns) (x ∷ ps) [] p m ok = absurd (omega arith)
small_lists (n ∷ ns) (x ∷ ps) (y ∷ ms) p m ok =
    let later = small_lists ns ps ms (omega arith) (omega arith) (and_right _ _ ok) in
    let here = and_right (ltb n 65536) _ (and_left _ _ ok) in
    (and_both (and_left (ltb x 16) (ltb y 8) here) later.0, and_both (and_right (ltb x 16) (ltb y 8) here) later.1)

all_data : (there : Bool) (m : ℕ) (bs : List ℕ) → m ≤ 255 → data_ok there m bs ≡ true → (data_bytes there bs ≡ bs) × (length bs ≤ 4080)
unfolding data_ok data_bytes
all_data false m bs few ok = rw (is_empty_true bs ok) (refl, omega arith)
all_data true m bs few ok =
    let long = eqb-true (length bs) (16 * m) (and_left _ _ ok) in
    (refl, omega arith)

pub all_package : (b : Behind) (bs : List ℕ) → package_ok b bs ≡ true → package_bytes b bs ≡ bs
unfolding package_ok package_bytes
all_package nothing bs ok = sym (is_empty_true bs ok)
all_package ignored_bytes bs ok = sym (is_empty_true bs ok)
all_package a_package bs ok = refl

whole_challenge : (r : Ranges) (f : EndFields) → end_fields_ok r f ≡ true → length f.challenge ≡ 16
unfolding end_fields_ok
whole_challenge r f ok = eqb-true (length f.challenge) 16 (and_left _ _ (and_left _ _ (and_right _ _ (and_right _ _ (and_right _ _ (and_right _ _ ok))))))

pub ready : (l : Layout) (c : Command) → Narrow l → body_ok l c ≡ true → Ready c
unfolding same_length
ready l c n ok =
    let h = fits_of l c ok in
    let p = eqb-true (length c.places) (length c.numbers) (and_left _ _ h.lists) in
    let m = eqb-true (length c.modes) (length c.numbers) (and_right _ _ h.lists) in
    let e = few_elements l.elements (elements_of c) h.elements in
    let long = zip_length c.numbers c.places c.modes in
    let small = small_lists c.numbers c.places c.modes p m e.1 in
    let d = all_data l.block_data (length (elements_of c)) c.block_data e.0 h.block_data in
    record {
      few_first = few_codes l.first c.first n.first h.first;
      few_second = few_codes l.second c.second n.second h.second;
      few_blocks = omega (arith, e.0, long);
      places_long = p;
      modes_long = m;
      places_small = small.0;
      modes_small = small.1;
      few_data = d.1;
    }

-- an IDm is put as data are
pub idm_as_data : (there : Bool) (idm : List ℕ) → data_bytes there idm ≡ idm_bytes there idm
unfolding data_bytes idm_bytes
idm_as_data false idm = refl
idm_as_data true idm = refl

idm_length : (there : Bool) (idm : List ℕ) → idm_ok there idm ≡ true → length (idm_bytes there idm) ≡ cond there 8 0
unfolding idm_ok idm_bytes
idm_length false idm ok = refl
idm_length true idm ok = eqb-true (length idm) 8 (and_left _ _ ok)

selector_length : (s : Selector) (b : ℕ) → length (selector_bytes s b) ≡ selector_size s
unfolding selector_bytes
selector_length no_selector b = refl
selector_length type_byte b = refl
selector_length any_byte b = refl

words_length : (ns : List ℕ) → length (words_bytes ns) ≡ 2 * length ns
unfolding words_bytes
words_length [] = omega arith
words_length (n ∷ ns) = omega (arith, words_length ns)

codes_length : (codes : Codes) (ns : List ℕ) → length (codes_bytes codes ns) ≡ codes_size codes (length ns)
unfolding codes_bytes
codes_length no_codes ns = refl
codes_length (least to greatest) ns = omega (arith, words_length ns)

elements_length : (there : Bool) (ns ps ms : List ℕ) → length (elements_bytes there [] (zip_elements ns ps ms)) ≡ cond there (1 + short_size ns) 0
unfolding elements_bytes
elements_length false ns ps ms = refl
elements_length true ns ps ms = omega (arith, each_length ns ps ms)

ending_length : (e : Ending) (f : EndFields) → size_of e ≤ 16 → length f.challenge ≡ 16 → length (ending_bytes e f) ≡ size_of e
unfolding ending_bytes
ending_length (bytes n) f few long = length-take-le n f.challenge (omega arith)
ending_length word f few long = refl
ending_length words f few long = refl
ending_length reserved f few long = refl
ending_length polling f few long = refl
ending_length parameter f few long = refl

pub body_length : (l : Layout) (c : Command) → Narrow l → body_ok l c ≡ true
    → front_size l (length c.first) (length c.second) c.numbers (length c.block_data) + length c.issue_package ≡ length (body_bytes l [] c)
unfolding body_bytes
body_length l c n ok =
    let h = fits_of l c ok in
    let a = idm_length l.idm c.idm h.idm in
    let b = selector_length l.selector c.selector in
    let f = codes_length l.first c.first in
    let s = codes_length l.second c.second in
    let e = elements_length l.elements c.numbers c.places c.modes in
    let v = ending_length l.ending (end_fields_of c) n.ending (whole_challenge (ranges_of l.ending) (end_fields_of c) h.values) in
    let d = all_data l.block_data (length (elements_of c)) c.block_data (few_elements l.elements (elements_of c) h.elements).0 h.block_data in
    simp (length-append, d.0, all_package l.behind c.issue_package h.pack, a, b, f, s, e, v) (omega arith)
