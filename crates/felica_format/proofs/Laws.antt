-- The laws of reading and writing one part, and of parts made of other parts.
-- Assumes nothing.
use Rattle.std.proofs.Common.{ℕ, ◌+◌, ◌≤◌, ◌<◌, arith, subst, ◌≡◌, refl, sym, ap, ◌∙◌, Bool, true, false, ◌||◌, List, [], ◌∷◌, ◌++◌, length, take, drop, length-append, take-append-drop, take_at, drop_at, length-take-le, ltb, leb, eqb, ltb-false, leb-true, eqb-true, le-ltb, eq-eqb}
use Rattle.felica_format.specs.Basic.{◌and◌, Bytes, Step, taken, refuse, bind, refuse_if}
use Rattle.felica_format.specs.Read.{read_bytes, read_count}
use Rattle.felica_format.specs.Writable.{are_bytes}
use Rattle.felica_format.proofs.Tests.{tests, and_left, and_right, and_both, or_none}
use Rattle.felica_format.proofs.Bytes.{bytes_take, head_below}
use Rattle.felica_format.proofs.Steps.{taken_value, taken_rest, none_taken, refuse_if_passed, refuse_if_taken, refuse_if_pass, bind_taken, bind_step}

--   back    what was written in its range reads back, and leaves what stood behind it
--   only    what was read of bytes is in its range, written, with what is left behind it
--   small   what is written is bytes
pub record Laws {A : Type 0} (read : List ℕ → Step A) (write : A → List ℕ) (ok : A → Bool) : Type 0 where
  pub back : (a : A) (rest : List ℕ) → ok a ≡ true → read (write a ++ rest) ≡ taken a rest
  pub only : (s : List ℕ) (a : A) (rest : List ℕ) → Bytes s → read s ≡ taken a rest → (ok a ≡ true) × (s ≡ write a ++ rest)
  pub small : (a : A) → ok a ≡ true → Bytes (write a)

-- a part that the layout lacks: nothing is taken, nothing is written, and the value is blank
pub absent_laws : {A : Type 0} (blank : A) (ok : A → Bool) → ok blank ≡ true → ((a : A) → ok a ≡ true → a ≡ blank)
    → Laws (λ s. taken blank s) (λ a. []) ok
absent_laws blank ok blank_ok only_blank = record {
  back = λ a rest h. ap (λ x. taken x rest) (sym (only_blank a h));
  only = λ s a rest small e. (subst (λ x. ok x ≡ true) (taken_value e) blank_ok, taken_rest e);
  small = λ a h. refl;
}

-- n bytes
pub bytes_laws : (n ground : ℕ) → Laws (read_bytes n ground) (λ a. a) (are_bytes n)
bytes_laws n ground = record {
  back = λ a rest ok.
      let h : length a ≡ n = eqb-true _ _ (and_left _ _ ok) in
      let l : length (a ++ rest) ≡ length a + length rest = length-append a rest in
      let enough : ltb (length (a ++ rest)) n ≡ false = omega tests in
      rw (refuse_if_pass, take_at a rest n, drop_at a rest n);
  only = λ s a rest small e.
      let enough : n ≤ length s = ltb-false _ _ (refuse_if_passed _ _ _ e) in
      let t = refuse_if_taken _ _ _ e in
      let v : take n s ≡ a = taken_value t in
      let r : drop n s ≡ rest = taken_rest t in (
        rw (← v) (and_both (eq-eqb _ _ (length-take-le n s enough)) (bytes_take n s small)),
        rw (← v, ← r) (sym (take-append-drop n s)),
      );
  small = λ a ok. and_right _ _ ok;
}

-- one byte that passes a test
pub byte_laws : (read : List ℕ → Step ℕ) (missing ground : ℕ) (bad ok : ℕ → Bool)
    → read [] ≡ refuse missing → ((b : ℕ) (s : List ℕ) → read (b ∷ s) ≡ refuse_if (bad b) ground (taken b s))
    → ((b : ℕ) → ok b ≡ true → (bad b ≡ false) × (b < 256)) → ((b : ℕ) → b < 256 → bad b ≡ false → ok b ≡ true)
    → Laws read (λ b. b ∷ []) ok
byte_laws read missing ground bad ok none one good passes = record {
  back = λ b rest h. one b rest ∙ refuse_if_pass (bad b) ground (taken b rest) (good b h).0;
  only = elim [
    | [] ↦ λ b rest small e. absurd (none_taken (sym none ∙ e))
    | a ∷ s ↦ λ b rest small e.
        let r = sym (one a s) ∙ e in
        let t = refuse_if_taken _ _ _ r in
        (rw (← taken_value t) (passes a (head_below 256 a s small) (refuse_if_passed _ _ _ r)), rw (taken_value t, taken_rest t))
  ];
  small = λ b h. let below = (good b h).1 in and_both (omega tests) refl;
}

abbrev pub count_ok : ℕ → ℕ → ℕ → Bool
count_ok least greatest n = leb least n and leb n greatest

pub count_laws : (missing outside least greatest : ℕ) → greatest < 256
    → Laws (read_count missing outside least greatest) (λ n. n ∷ []) (count_ok least greatest)
unfolding read_count
count_laws missing outside least greatest narrow =
    byte_laws (read_count missing outside least greatest) missing outside (λ n. ltb n least || ltb greatest n) (count_ok least greatest) refl (λ n s. refl)
    (λ n ok.
    let low : least ≤ n = leb-true _ _ (and_left _ _ ok) in
    let high : n ≤ greatest = leb-true _ _ (and_right _ _ ok) in
    (rw (le-ltb n least low, le-ltb greatest n high), omega arith))
    (λ n small passed.
    let h = or_none (ltb n least) (ltb greatest n) passed in
    let low = h.0 in
    let high = h.1 in
    and_both (omega tests) (omega tests))

-- a count and what it counts, from the laws of each number of things
pub counted_laws : {A : Type 0} (missing outside least greatest : ℕ) → greatest < 256
    → (each : ℕ → List ℕ → Step (List A)) (write : List A → List ℕ) (ok : List A → Bool)
    → ((n : ℕ) → Laws (each n) write (λ xs. eqb (length xs) n and ok xs))
    → Laws (λ s. bind (read_count missing outside least greatest s) each) (λ xs. length xs ∷ write xs)
    (λ xs. leb least (length xs) and leb (length xs) greatest and ok xs)
counted_laws missing outside least greatest narrow each write ok laws =
    let count = count_laws missing outside least greatest narrow in
    record {
      back = λ xs rest h.
          let c : count_ok least greatest (length xs) ≡ true = and_both (and_left _ _ h) (and_left _ _ (and_right _ _ h)) in
          bind_step _ each (count.back (length xs) (write xs ++ rest) c)
          ∙ (laws (length xs)).back xs rest (and_both (omega tests) (and_right _ _ (and_right _ _ h)));
      only = λ s xs rest small e.
          let b = bind_taken _ _ e in
          let c = count.only s b.0 b.1 small b.2 in
          let w = (laws b.0).only b.1 xs rest (and_right _ _ (rw c.1 at small)) b.3 in
          let len : length xs ≡ b.0 = eqb-true _ _ (and_left _ _ w.0) in (
            rw len (and_both (and_left _ _ c.0) (and_both (and_right _ _ c.0) (and_right _ _ w.0))),
            c.1 ∙ ap (λ (r : List ℕ). b.0 ∷ r) w.1 ∙ ap (λ (n : ℕ). n ∷ (write xs ++ rest)) (sym len),
          );
      small = λ xs h.
          let high : length xs ≤ greatest = leb-true _ _ (and_left _ _ (and_right _ _ h)) in
          and_both (omega tests) ((laws (length xs)).small xs (and_both (omega tests) (and_right _ _ (and_right _ _ h))));
    }
