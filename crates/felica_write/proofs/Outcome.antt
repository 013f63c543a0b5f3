-- The outcome of a call, case by case, for the layout that was found.
-- Assumes nothing.
use Rattle.std.proofs.Common.{ℕ, suc, ◌+◌, ◌≤◌, ◌<◌, ◌≡◌, refl, sym, ap, ◌∙◌, subst, ◌⊎◌, inl, inr, Bool, true, false, cond, List, [], ◌∷◌, ◌++◌, arith}
use Rattle.std.proofs.Common.{length, ltb, Ok, Err, is_ok}
use Rattle.std.specs.Prelude.{Some}
use Rattle.std.proofs.lemmas.Bool.{lt-ltb, le-ltb, le-leb, lt-leb, ltb-true, ltb-false}
use Rattle.felica_format.specs.Reasons.{number_of}
use Rattle.felica_format.specs.declared.error.Reason.{Reason}
use Rattle.felica_format.specs.declared.error.Reason.TheVariants.{BufferTooSmall, Unwritable}
use Rattle.felica_format.specs.declared.classes.Class.{Class}
use Rattle.felica_format.specs.declared.classes.Class.TheVariants.{Plain, Secure, Unknown}
use Rattle.felica_format.specs.Command.{Command}
use Rattle.felica_format.specs.Layout.{Layout, class_of, layout_of}
use Rattle.felica_format.specs.Write.{package_bytes, body_bytes, frame_of, secure_of}
use Rattle.felica_format.specs.Writable.{body_ok, fits_class, writable, shortest, written}
use Rattle.felica_format.proofs.Body.{Narrow, fits_of}
use Rattle.felica_format.proofs.Rows.{every_layout, plain_package}
use Rattle.felica_layout.specs.Layout.{row, row_of}
use Rattle.felica_put.specs.Put.{buffer, put}
use Rattle.felica_put.proofs.Laws.{put_front}
use Rattle.felica_writable.proofs.Laws.{stop, pass}
use Rattle.felica_write.specs.Size.{front_size}
use Rattle.felica_write.specs.Body.{Ready}
use Rattle.felica_write.specs.Head.{Room, head_bytes, frame_room, payload_room, room_for}
use Rattle.felica_write.specs.Writing.{wrote, refused, Written, meaning, refusal, outcome, writing}
use Rattle.felica_write.proofs.Ready.{ready, all_package, body_length}

-- the three outcomes
module _ (c : Command) (out : List ℕ) where
  pub unwritten : writable c ≡ false → outcome (refused 22 (Some c.code)) out ≡ writing c out
  unfolding writing written
  unwritten e = rw e

  module _ (s : List ℕ) (ok : writable c ≡ true) (is : shortest (class_of c.code) c ≡ s) where
    pub buffer_small : length out < length s → outcome (refused 21 (Some c.code)) out ≡ writing c out
    unfolding writing written
    buffer_small h = rw (ok, is, lt-ltb (length out) (length s) h)

    pub stored_whole : (after : List ℕ) (n : ℕ) → length s ≤ length out → buffer after n ≡ put (buffer out 0) s → outcome (wrote n) after ≡ writing c out
    unfolding writing written
    stored_whole after n h e =
        let front = e ∙ put_front s out h in
        rw (ok, is, le-ltb (length out) (length s) h, ap (λ b. b.bytes) front, ap (λ b. b.next) front)

-- what the tests of the room say
enough_tests : (a b : Bool) → cond {A = Room} a (Err Unwritable) (cond b (Err BufferTooSmall) (Ok tt)) ≡ Ok tt → (a ≡ false) × (b ≡ false)
enough_tests true b r = (cc, cc)
enough_tests false true r = (refl, cc)
enough_tests false false r = (refl, refl)

enough_test : (b : Bool) → cond {A = Room} b (Err BufferTooSmall) (Ok tt) ≡ Ok tt → b ≡ false
enough_test true r = cc
enough_test false r = refl

-- the row of the code handed in
module _ (c : Command) (k : Class) (l : Layout) (found : row k l ≡ row_of c.code) where
  class_is : k ≡ class_of c.code
  unfolding row_of
  class_is = ap (λ r. r.class) found

  layout_is : l ≡ layout_of c.code
  unfolding row_of
  layout_is = ap (λ r. r.layout) found

  pub narrow : Narrow l
  narrow = subst Narrow (sym layout_is) (every_layout c.code)

  pub may_be_put : body_ok l c ≡ true → Ready c
  may_be_put = ready l c narrow

  frame_is : frame_of [] c ≡ suc (suc (length (body_bytes l [] c))) ∷ c.code ∷ body_bytes l [] c
  unfolding frame_of
  frame_is = rw layout_is

  payload_is : secure_of [] c ≡ body_bytes l [] c
  unfolding secure_of
  payload_is = rw layout_is

  pub no_body : (out : List ℕ) → body_ok l c ≡ false → outcome (refused 22 (Some c.code)) out ≡ writing c out
  unfolding writable
  no_body out e = unwritten c out (sym (stop _ _ (ap (λ (m : Layout). body_ok m c) (sym layout_is) ∙ e)))

  -- what the class decides, where the body has `size` bytes in front of the package
  module _ (ok : body_ok l c ≡ true) (size : ℕ) (sum : size ≡ front_size l (length c.first) (length c.second) c.numbers (length c.block_data)) where
    whole : size + length c.issue_package ≡ length (body_bytes l [] c)
    whole = rw sum (body_length l c narrow ok)

    -- a plain command has no package
    plain_whole : k ≡ Plain → suc (suc (length (body_bytes l [] c))) ≡ 2 + size
    plain_whole e =
        let none = plain_package c.code c.issue_package (sym class_is ∙ e) in
        let all = all_package l.behind c.issue_package (fits_of l c ok).pack in
        let empty : length c.issue_package ≡ 0 = ap length (sym all ∙ ap (λ (m : Layout). package_bytes m.behind c.issue_package) layout_is ∙ none) in
        omega (arith, whole, empty)

    module _ (out : List ℕ) where
      -- a ground that the room gives is the writer's
      Ground : Class → Reason → Type 0
      Ground j g = ((g ≡ Unwritable) × (fits_class j c ≡ false)) ⊎ ((g ≡ BufferTooSmall) × (fits_class j c ≡ true) × (length out < length (shortest j c)))

      frame_ground : (g : Reason) → k ≡ Plain → frame_room size (length out) ≡ Err g → Ground Plain g
      unfolding Ground
      frame_ground g e r = go (ltb 255 (2 + size)) (ltb (length out) (2 + size)) refl refl r
        where
          go : (a b : Bool) → ltb 255 (2 + size) ≡ a → ltb (length out) (2 + size) ≡ b → cond {A = Room} a (Err Unwritable) (cond b (Err BufferTooSmall) (Ok tt)) ≡ Err g
              → ((g ≡ Unwritable) × (fits_class Plain c ≡ false)) ⊎ ((g ≡ BufferTooSmall) × (fits_class Plain c ≡ true) × (length out < length (shortest Plain c)))
          go true b long small r = inl (cc, rw (frame_is, plain_whole e) (lt-leb (2 + size) 255 (ltb-true 255 (2 + size) long)))
          go false true long small r =
              inr
              (cc, rw (frame_is, plain_whole e) (le-leb (2 + size) 255 (ltb-false 255 (2 + size) long)), rw (frame_is, plain_whole e) (ltb-true (length out) (2 + size) small))
          go false false long small r = cc

      payload_ground : (g : Reason) → payload_room size (length c.issue_package) (length out) ≡ Err g → Ground Secure g
      unfolding Ground
      payload_ground g r = go (ltb (length out) (size + length c.issue_package)) refl r
        where
          go : (b : Bool) → ltb (length out) (size + length c.issue_package) ≡ b → cond {A = Room} b (Err BufferTooSmall) (Ok tt) ≡ Err g
              → ((g ≡ Unwritable) × (fits_class Secure c ≡ false)) ⊎ ((g ≡ BufferTooSmall) × (fits_class Secure c ≡ true) × (length out < length (shortest Secure c)))
          go true small r = inr (cc, refl, rw (payload_is, sym whole) (ltb-true _ _ small))
          go false small r = cc

      ground : (j : Class) (g : Reason) → k ≡ j → room_for j size (length c.issue_package) (length out) ≡ Err g → Ground j g
      unfolding Ground
      ground Plain g e r = frame_ground g e r
      ground Secure g e r = payload_ground g r
      ground Unknown g e r = inl (cc, refl)

      enough : (j : Class) → k ≡ j → room_for j size (length c.issue_package) (length out) ≡ Ok tt
          → (fits_class j c ≡ true) × (length (shortest j c) ≤ length out) × (shortest j c ≡ head_bytes j c.code size ++ body_bytes l [] c)
      enough Plain e r =
          let tests = enough_tests (ltb 255 (2 + size)) (ltb (length out) (2 + size)) r in
          rw (frame_is, plain_whole e)
          (le-leb (2 + size) 255 (ltb-false 255 (2 + size) tests.0), ltb-false (length out) (2 + size) tests.1, refl)
      enough Secure e r =
          let room = ltb-false (length out) (size + length c.issue_package) (enough_test (ltb (length out) (size + length c.issue_package)) r) in
          rw payload_is (refl, omega (arith, whole, room), refl)
      enough Unknown e r = cc

      may : (b : Bool) → fits_class k c ≡ b → writable c ≡ b
      unfolding writable
      may b e = sym (pass _ _ (ap (λ (m : Layout). body_ok m c) (sym layout_is) ∙ ok)) ∙ ap (λ (j : Class). fits_class j c) (sym class_is) ∙ e

      no_room : (g : Reason) → room_for k size (length c.issue_package) (length out) ≡ Err g → outcome (refused (number_of g) (Some c.code)) out ≡ writing c out
      unfolding Ground
      no_room g r = elim (ground k g refl r) [ inl h ↦ does_not_fit h | inr h ↦ too_small h ]
        where
          does_not_fit : (g ≡ Unwritable) × (fits_class k c ≡ false) → outcome (refused (number_of g) (Some c.code)) out ≡ writing c out
          does_not_fit h = rw h.0 (unwritten c out (may false h.1))

          too_small : (g ≡ BufferTooSmall) × (fits_class k c ≡ true) × (length out < length (shortest k c)) → outcome (refused (number_of g) (Some c.code)) out ≡ writing c out
          too_small h = rw h.0 (buffer_small c out (shortest k c) (may true h.1) (ap (λ (j : Class). shortest j c) (sym class_is)) h.2)

      -- the same of a result that says why
      pub not_stored : (r : Room) → room_for k size (length c.issue_package) (length out) ≡ r → is_ok r ≡ false → {w : Written}
          → ((g : Reason) → r ≡ Err g → w ≡ refusal g c.code) → outcome (meaning w) out ≡ writing c out
      not_stored (Ok tt) e fails tells = cc
      not_stored (Err g) e fails tells = rw (tells g refl) (no_room g e)

      pub all_stored : room_for k size (length c.issue_package) (length out) ≡ Ok tt → (after : List ℕ) (n : ℕ)
          → buffer after n ≡ put (buffer out 0) (head_bytes k c.code size ++ body_bytes l [] c) → outcome (wrote n) after ≡ writing c out
      all_stored r after n e =
          let h = enough k refl r in
          stored_whole c out (shortest k c) (may true h.0) (ap (λ (j : Class). shortest j c) (sym class_is)) after n h.1 (e ∙ ap (put (buffer out 0)) (sym h.2))
