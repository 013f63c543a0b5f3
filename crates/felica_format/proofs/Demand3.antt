-- Demand 3 over the definitions: the statements of specs/Demand3.antt, and those of specs/Long.antt that speak of choices of forms, each proved under its name at
-- the end.
-- Assumes nothing.
use Rattle.std.proofs.Common.{ℕ, suc, ◌≤◌, ◌<◌, le_of_eq, arith, ◌≡◌, refl, sym, ap, ◌∙◌, subst, ◌⊎◌, inl, inr, ◌≢◌, Bool, true, false, cond, true≢false, List, [], ◌∷◌, ◌++◌, append-nil, append_assoc, None, Some, length, length-append, get_or, drop, ltb, ltb-true, ltb-false, eqb, eqb-true, eq-eqb, leb-true, le-leb}
use Rattle.felica_format.specs.declared.classes.Class.{Class}
use Rattle.felica_format.specs.declared.classes.Class.TheVariants.{Plain, Secure, Unknown}
use Rattle.felica_format.specs.Basic.{Bytes, Step, taken, refuse}
use Rattle.felica_format.specs.Command.{Command, Element, elements_of}
use Rattle.felica_format.specs.Layout.{Layout, class_of, layout_of}
use Rattle.felica_format.specs.Read.{Counted, counted, gives, refused, answer_of, read_plain_as, read_secure_as, read_body, read_payload, read_frame, read_secure}
use Rattle.felica_format.specs.Write.{Forms, long_bytes, element_bytes, each_bytes, long_in, body_bytes, secure_of, frame_of}
use Rattle.felica_format.specs.Writable.{body_ok, fits_class, writable, shortest, written}
use Rattle.felica_format.specs.Demand3.{FrameGives, PayloadGives, HasFrame, HasPayload, MayFollow, Around, FramesAreChoices, PayloadsAreChoices}
use Rattle.felica_format.specs.Demand3.{ShortFrameAccepted, ShortPayloadAccepted, OtherFramesLonger, OtherPayloadsLonger}
use Rattle.felica_format.specs.Demand3.{ShortFrameWritten, ShortPayloadWritten, UnwritableExactly, FrameReadBack, PayloadReadBack, TwoFrames, TwoPayloads}
use Rattle.felica_format.specs.Demand3.{OneFormFrom256, IsForm, SameButForms, FramesDiffer, PayloadsDiffer}
use Rattle.felica_format.specs.Long.{FrameLongCounted, PayloadLongCounted, PlainLongCounted}
use Rattle.felica_format.proofs.Steps.{not_given}
use Rattle.felica_format.proofs.Tests.{tests, and_left, and_right, and_both}
use Rattle.felica_format.proofs.Bytes.{all_below_append, head_below}
use Rattle.felica_format.proofs.Elements.{by_form, SameOrLonger}
use Rattle.felica_format.proofs.Ending.{Left, left_none, left_small}
use Rattle.felica_format.proofs.Body.{Narrow, Body, body_back, body_only, body_small, body_longer, before_elements, after_elements, body_around}
use Rattle.felica_format.proofs.Rows.{plain_code, plain_layout, secure_layout, plain_left, secure_left, secure_follows}

-- ── what was accepted ───────────────────────────────────────────────────────
answer_gives : (code : ℕ) (m : Step Counted) (c : Command) (long : ℕ) → answer_of code m ≡ gives c long → (rest : List ℕ) × (m ≡ taken (counted c long) rest)
answer_gives code (taken r rest) c long e =
    let p : r.command ≡ c = cc in
    let q : r.long ≡ long = cc in
    (rest, λ i. taken (counted (p i) (q i)) rest)
answer_gives code (refuse n) c long e = absurd (not_given e)

pub plain_gives : (k : Class) (code : ℕ) (s : List ℕ) (c : Command) (long : ℕ) → read_plain_as k code s ≡ gives c long
    → (k ≡ Plain) × (rest : List ℕ) × (read_body code (layout_of code) s ≡ taken (counted c long) rest)
plain_gives Plain code s c long e = let a = answer_gives code (read_body code (layout_of code) s) c long e in (refl, a.0, a.1)
plain_gives Secure code s c long e = absurd (not_given e)
plain_gives Unknown code s c long e = absurd (not_given e)

-- the length byte is right, the code plain, and its body was taken
abbrev pub Opened : ℕ → ℕ → List ℕ → Counted → Type 0
Opened n code body r = (n ≡ suc (suc (length body))) × (class_of code ≡ Plain) × (rest : List ℕ) × (read_body code (layout_of code) body ≡ taken r rest)

pub frame_gives : (n code : ℕ) (body : List ℕ) (c : Command) (long : ℕ) → read_frame (n ∷ code ∷ body) ≡ gives c long → Opened n code body (counted c long)
unfolding read_frame read_payload
frame_gives n code body c long e = go (eqb n (suc (suc (length body)))) refl e
  where
    go : (b : Bool) → eqb n (suc (suc (length body))) ≡ b → cond b (read_payload (code ∷ body)) (refused 2 None) ≡ gives c long → Opened n code body (counted c long)
    go false size e = absurd (not_given e)
    go true size e = let g = plain_gives (class_of code) code body c long e in (eqb-true _ _ size, g.0, g.1, g.2)

pub secure_gives : (k : Class) (code : ℕ) (s : List ℕ) (c : Command) (long : ℕ) → read_secure_as k code s ≡ gives c long
    → (k ≡ Secure) × (rest : List ℕ) × (read_body code (layout_of code) s ≡ taken (counted c long) rest)
secure_gives Plain code s c long e = absurd (not_given e)
secure_gives Secure code s c long e = let a = answer_gives code (read_body code (layout_of code) s) c long e in (refl, a.0, a.1)
secure_gives Unknown code s c long e = absurd (not_given e)

-- an accepted body is a choice of forms of its command, with what is left behind it
record Accepted (k : Class) (code : ℕ) (s : List ℕ) (c : Command) : Type 0 where
  forms : Forms
  rest : List ℕ
  same : c.code ≡ code
  class : class_of c.code ≡ k
  ok : body_ok (layout_of c.code) c ≡ true
  left : Left (layout_of c.code).behind rest
  is : s ≡ body_bytes (layout_of c.code) forms c ++ rest

accepted : (k : Class) (code : ℕ) (s : List ℕ) (c : Command) (long : ℕ) (rest : List ℕ) → class_of code ≡ k → Narrow (layout_of code) → Bytes s
    → read_body code (layout_of code) s ≡ taken (counted c long) rest → Accepted k code s c
accepted k code s c long rest class narrow small e = go (body_only (layout_of code) narrow code s (counted c long) rest small e)
  where
    go : Body (layout_of code) code s (counted c long) rest → Accepted k code s c
    go b =
        let back = sym b.same in
        record {
          forms = b.forms;
          rest = rest;
          same = b.same;
          class = rw b.same class;
          ok = subst (λ (x : ℕ). body_ok (layout_of x) c ≡ true) back b.ok;
          left = subst (λ (x : ℕ). Left (layout_of x).behind rest) back b.left;
          is = subst (λ (x : ℕ). s ≡ body_bytes (layout_of x) b.forms c ++ rest) back b.is;
        }

-- ── frames ──────────────────────────────────────────────────────────────────
record Framed (s : List ℕ) (c : Command) : Type 0 where
  forms : Forms
  class : class_of c.code ≡ Plain
  ok : body_ok (layout_of c.code) c ≡ true
  is : s ≡ frame_of forms c
  short : length s ≤ 255

framed_by : (n code : ℕ) (body : List ℕ) (c : Command) → n ≡ suc (suc (length body)) → n < 256 → Accepted Plain code body c → Framed (n ∷ code ∷ body) c
unfolding frame_of
framed_by n code body c size small a =
    let None : a.rest ≡ [] = plain_left c.code a.rest a.class a.left in
    let is : body ≡ body_bytes (layout_of c.code) a.forms c = a.is ∙ rw (None, append-nil) in
    record {
      forms = a.forms;
      class = a.class;
      ok = a.ok;
      is = λ i. (size ∙ ap (λ (b : List ℕ). suc (suc (length b))) is) i ∷ sym a.same i ∷ is i;
      short = omega arith;
    }

framed : (s : List ℕ) (c : Command) → FrameGives s c → Framed s c
unfolding read_frame read_payload
framed [] c (small, long, e) = absurd (not_given e)
framed (n ∷ []) c (small, long, e) = absurd (empty (eqb n 1) e)
  where
    empty : (b : Bool) → cond b (refused 3 None) (refused 2 None) ≡ gives c long → ⊥
    empty true e = not_given e
    empty false e = not_given e
framed (n ∷ code ∷ body) c (small, long, e) =
    let (size, class, rest, read) = frame_gives n code body c long e in
    framed_by n code body c size (head_below 256 n (code ∷ body) small)
    (accepted Plain code body c long rest class (plain_layout code class) (and_right _ _ (and_right _ _ small)) read)

frame_back : (forms : Forms) (c : Command) → class_of c.code ≡ Plain → body_ok (layout_of c.code) c ≡ true → length (frame_of forms c) ≤ 255 → FrameGives (frame_of forms c) c
unfolding read_frame read_payload frame_of
frame_back forms c class ok short =
    let l : Layout = layout_of c.code in
    let b : List ℕ = body_bytes l forms c in
    let narrow = plain_layout c.code class in
    let code = plain_code c.code class in
    let long : ℕ = long_in forms (elements_of c) in
    let r : read_body c.code l b ≡ taken (counted c long) [] = rw append-nil at (body_back l narrow forms c [] ok (left_none l.behind)) in (
      and_both (omega tests) (and_both (omega tests) (body_small l narrow forms c ok)),
      long,
      rw (eq-eqb (suc (suc (length b))) (suc (suc (length b))) refl, class, r),
    )

frame_longer : (forms : Forms) (c : Command) → SameOrLonger (frame_of forms c) (frame_of [] c)
unfolding frame_of
frame_longer forms c = go (body_longer (layout_of c.code) forms c)
  where
    go : SameOrLonger (body_bytes (layout_of c.code) forms c) (body_bytes (layout_of c.code) [] c) → SameOrLonger (frame_of forms c) (frame_of [] c)
    go (inl p) = inl (rw p)
    go (inr p) = inr (omega arith)

not_shorter : (other short : List ℕ) → SameOrLonger other short → length short ≤ length other
not_shorter other short (inl p) = le_of_eq (ap length (sym p))
not_shorter other short (inr p) = omega arith

longer : (other short : List ℕ) → SameOrLonger other short → other ≢ short → length short < length other
longer other short (inl p) h = absurd (h p)
longer other short (inr p) h = p

short_fits : (s : List ℕ) (c : Command) → Framed s c → length (frame_of [] c) ≤ 255
short_fits s c f =
    let least = not_shorter (frame_of f.forms c) (frame_of [] c) (frame_longer f.forms c) in
    let len : length s ≡ length (frame_of f.forms c) = ap length f.is in
    omega (arith, f.short, least, len)

frame_around : (s : List ℕ) (c : Command) → Framed s c
    → Around c (length s ∷ c.code ∷ before_elements (layout_of c.code) c) (after_elements (layout_of c.code) c) s
unfolding frame_of
frame_around s c f =
    let same : length s ≡ length (frame_of f.forms c) = ap length f.is in
    (f.forms, rw same (f.is ∙ ap (λ (b : List ℕ). length (frame_of f.forms c) ∷ c.code ∷ b) (body_around (layout_of c.code) f.forms c f.ok)))

-- ── secure payloads ─────────────────────────────────────────────────────────
secured : (code : ℕ) (s : List ℕ) (c : Command) → PayloadGives code s c → Accepted Secure code s c
unfolding read_secure
secured code s c (small, long, e) =
    let g = secure_gives (class_of code) code s c long e in
    accepted Secure code s c long g.1 g.0 (secure_layout code g.0) small g.2

payload_back : (forms : Forms) (c : Command) (rest : List ℕ) → class_of c.code ≡ Secure → body_ok (layout_of c.code) c ≡ true → Left (layout_of c.code).behind rest
    → PayloadGives c.code (secure_of forms c ++ rest) c
unfolding read_secure secure_of
payload_back forms c rest class ok left =
    let l : Layout = layout_of c.code in
    let narrow = secure_layout c.code class in (
      rw all_below_append (and_both (body_small l narrow forms c ok) (left_small l.behind rest left)),
      long_in forms (elements_of c),
      rw (class, body_back l narrow forms c rest ok left),
    )

-- the all-short payload with nothing behind it
short_back : (c : Command) → class_of c.code ≡ Secure → body_ok (layout_of c.code) c ≡ true → PayloadGives c.code (secure_of [] c) c
short_back c class ok = rw append-nil at (payload_back [] c [] class ok (left_none (layout_of c.code).behind))

tail_longer : (a b tail : List ℕ) → SameOrLonger a b → SameOrLonger (a ++ tail) b
tail_longer a b [] (inl p) = inl (append-nil a ∙ p)
tail_longer a b (x ∷ tail) (inl p) = inr (rw p (simp length-append (omega arith)))
tail_longer a b tail (inr p) = inr (simp length-append (omega arith))

payload_longer : (code : ℕ) (s : List ℕ) (c : Command) → Accepted Secure code s c → SameOrLonger s (secure_of [] c)
unfolding secure_of
payload_longer code s c a =
    rw a.is (tail_longer (body_bytes (layout_of c.code) a.forms c) (body_bytes (layout_of c.code) [] c) a.rest (body_longer (layout_of c.code) a.forms c))

payload_around : (code : ℕ) (s : List ℕ) (c : Command) (a : Accepted Secure code s c)
    → Around c (before_elements (layout_of c.code) c) (after_elements (layout_of c.code) c ++ a.rest) s
payload_around code s c a =
    let l : Layout = layout_of c.code in
    (a.forms, a.is ∙ rw (body_around l a.forms c a.ok) (simp append_assoc))

-- ── the writer's test ───────────────────────────────────────────────────────
frame_writable : (c : Command) → HasFrame c → writable c ≡ true
unfolding writable
frame_writable c (s, g) =
    let f = framed s c g in
    and_both f.ok (rw f.class (le-leb _ _ (short_fits s c f)))

payload_writable : (c : Command) → HasPayload c → writable c ≡ true
unfolding writable
payload_writable c (code, s, g) =
    let a = secured code s c g in
    and_both a.ok (rw a.class)

frame_written : (c : Command) → class_of c.code ≡ Plain → writable c ≡ true → (length (frame_of [] c) ≤ 255) × FrameGives (frame_of [] c) c
unfolding writable
frame_written c class w =
    let fits : length (frame_of [] c) ≤ 255 = leb-true _ _ (subst (λ (k : Class). fits_class k c ≡ true) class (and_right _ _ w)) in
    (fits, frame_back [] c class (and_left _ _ w) fits)

payload_written : (c : Command) → class_of c.code ≡ Secure → writable c ≡ true → PayloadGives c.code (secure_of [] c) c
unfolding writable
payload_written c class w = short_back c class (and_left _ _ w)

unknown_unwritable : (c : Command) → class_of c.code ≡ Unknown → writable c ≡ true → ⊥
unfolding writable
unknown_unwritable c class w = true≢false (sym (subst (λ (k : Class). fits_class k c ≡ true) class (and_right _ _ w)))

writable_given : (c : Command) → writable c ≡ true → HasFrame c ⊎ HasPayload c
writable_given c w = go (class_of c.code) refl
  where
    go : (k : Class) → class_of c.code ≡ k → HasFrame c ⊎ HasPayload c
    go Plain class = inl (frame_of [] c, (frame_written c class w).1)
    go Secure class = inr (c.code, secure_of [] c, payload_written c class w)
    go Unknown class = absurd (unknown_unwritable c class w)

some_not_none : {s : List ℕ} → Some s ≡ None → ⊥
some_not_none e = let z : ◌≡◌ {A = ℕ} 0 1 = cc in omega arith

written_some : (c : Command) (s : List ℕ) → written c ≡ Some s → (writable c ≡ true) × (shortest (class_of c.code) c ≡ s)
unfolding written
written_some c s e = go (writable c) refl e
  where
    go : (b : Bool) → writable c ≡ b → cond b (Some (shortest (class_of c.code) c)) None ≡ Some s → (writable c ≡ true) × (shortest (class_of c.code) c ≡ s)
    go true w e = (w, cc)
    go false w e = absurd (some_not_none (sym e))

none_written : (c : Command) → (writable c ≡ true → ⊥) → written c ≡ None
unfolding written
none_written c not = go (writable c) refl
  where
    go : (b : Bool) → writable c ≡ b → cond b (Some (shortest (class_of c.code) c)) None ≡ None
    go true w = absurd (not w)
    go false w = refl

-- ── the statements ──────────────────────────────────────────────────────────
pub frames_are_choices : FramesAreChoices
frames_are_choices c (t, g) s = (
  λ given. let f = framed s c given in (f.forms, f.is, f.short),
  λ choice.
      let f = framed t c g in
      rw choice.1 (frame_back choice.0 c f.class f.ok (rw choice.1 at choice.2)),
)

pub payloads_are_choices : PayloadsAreChoices
unfolding secure_of
payloads_are_choices c (k, t, g) code s = (
  λ given.
      let a = secured code s c given in
      let follows = subst (λ (x : ℕ). MayFollow x a.rest) a.same (secure_left c.code a.rest a.class a.left) in
      (sym a.same, a.forms, a.rest, follows, a.is),
  λ choice.
      let a = secured k t c g in
      let left = secure_follows c.code choice.2 a.class (subst (λ (x : ℕ). MayFollow x choice.2) choice.0 choice.3) in
      rw (choice.0, choice.4) (payload_back choice.1 c choice.2 a.class a.ok left),
)

pub short_frame_accepted : ShortFrameAccepted
short_frame_accepted c has = (frame_written c (framed has.0 c has.1).class (frame_writable c has)).1

pub short_payload_accepted : ShortPayloadAccepted
short_payload_accepted c has = payload_written c (secured has.0 has.1 c has.2).class (payload_writable c has)

pub other_frames_longer : OtherFramesLonger
other_frames_longer c s given other =
    let f = framed s c given in
    longer s (frame_of [] c) (rw f.is (frame_longer f.forms c)) other

pub other_payloads_longer : OtherPayloadsLonger
other_payloads_longer c code s given other = longer s (secure_of [] c) (payload_longer code s c (secured code s c given)) other

pub short_frame_written : ShortFrameWritten
unfolding written
short_frame_written c has = rw (frame_writable c has, (framed has.0 c has.1).class)

pub short_payload_written : ShortPayloadWritten
unfolding written
short_payload_written c has = rw (payload_writable c has, (secured has.0 has.1 c has.2).class)

pub unwritable_exactly : UnwritableExactly
unwritable_exactly c = (
  λ no. (λ has. some_not_none (sym (short_frame_written c has) ∙ no), λ has. some_not_none (sym (short_payload_written c has) ∙ no)),
  λ neither. none_written c λ w. by neither (writable_given c w),
)
  where
    by : (¬ HasFrame c) × (¬ HasPayload c) → HasFrame c ⊎ HasPayload c → ⊥
    by neither (inl has) = neither.0 has
    by neither (inr has) = neither.1 has

pub frame_read_back : FrameReadBack
frame_read_back c s class e =
    let w = written_some c s e in
    subst (λ (t : List ℕ). (length t ≤ 255) × FrameGives t c) (ap (λ (k : Class). shortest k c) (sym class) ∙ w.1) (frame_written c class w.0)

pub payload_read_back : PayloadReadBack
payload_read_back c s class e =
    let w = written_some c s e in
    subst (λ (t : List ℕ). PayloadGives c.code t c) (ap (λ (k : Class). shortest k c) (sym class) ∙ w.1) (payload_written c class w.0)

pub two_frames : TwoFrames
two_frames c s t gs gt = (
  c.code ∷ before_elements (layout_of c.code) c,
  after_elements (layout_of c.code) c,
  frame_around s c (framed s c gs),
  frame_around t c (framed t c gt),
)

pub two_payloads : TwoPayloads
two_payloads c s t gs gt =
    let a = secured c.code s c gs in
    let b = secured c.code t c gt in (
      before_elements (layout_of c.code) c,
      after_elements (layout_of c.code) c,
      a.rest,
      b.rest,
      secure_left c.code a.rest a.class a.left,
      secure_left c.code b.rest b.class b.left,
      payload_around c.code s c a,
      payload_around c.code t c b,
    )

pub frame_long_counted : FrameLongCounted
unfolding frame_back
frame_long_counted c (t, g) forms short =
    let f = framed t c g in
    (frame_back forms c f.class f.ok short).2

pub payload_long_counted : PayloadLongCounted
unfolding payload_back
payload_long_counted c (k, t, g) forms tail follows =
    let a = secured k t c g in
    (payload_back forms c tail a.class a.ok (secure_follows c.code tail a.class follows)).2

pub plain_long_counted : PlainLongCounted
unfolding read_payload
plain_long_counted c ([], small, long, e) forms = absurd (not_given e)
plain_long_counted c (code ∷ body, small, long, e) forms =
    let (class, rest, read) = plain_gives (class_of code) code body c long e in
    let a = accepted Plain code body c long rest class (plain_layout code class) (and_right _ _ small) read in
    let l : Layout = layout_of c.code in
    let back = rw append-nil at (body_back l (plain_layout c.code a.class) forms c [] a.ok (left_none l.behind)) in
    rw (a.class, back)

pub one_form_from_256 : OneFormFrom256
one_form_from_256 long e h = by_form (λ (w : List ℕ). w ≡ long_bytes e) long e (λ below. absurd (omega arith)) (λ why. refl)

-- an element's bytes in two choices of forms
is_form : (long : Bool) (e : Element) → IsForm e (element_bytes long e)
is_form long e = by_form (IsForm e) long e (λ below. inr (below, refl)) (λ why. inl refl)

equal_or_below : (long other : Bool) (e : Element) → (element_bytes long e ≡ element_bytes other e) ⊎ (e.number < 256)
equal_or_below long other e = go (ltb e.number 256) refl
  where
    go : (b : Bool) → ltb e.number 256 ≡ b → (element_bytes long e ≡ element_bytes other e) ⊎ (e.number < 256)
    go true q = inr (ltb-true _ _ q)
    go false q = let above = ltb-false _ _ q in inl (one_form_from_256 long e above ∙ sym (one_form_from_256 other e above))

none_apart : (forms : Forms) → each_bytes forms [] ≡ []
unfolding each_bytes
none_apart forms = refl

first_apart : (forms : Forms) (e : Element) (es : List Element)
    → each_bytes forms (e ∷ es) ≡ element_bytes (get_or forms 0 false) e ++ each_bytes (drop 1 forms) es
unfolding each_bytes
first_apart [] e es = refl
first_apart (long ∷ forms) e es = refl

same_but_forms : (forms others : Forms) (es : List Element) → SameButForms es (each_bytes forms es) (each_bytes others es)
same_but_forms forms others [] = (none_apart forms, none_apart others)
same_but_forms forms others (e ∷ es) =
    let long : Bool = get_or forms 0 false in
    let other : Bool = get_or others 0 false in (
      element_bytes long e,
      element_bytes other e,
      each_bytes (drop 1 forms) es,
      each_bytes (drop 1 others) es,
      first_apart forms e es,
      first_apart others e es,
      is_form long e,
      is_form other e,
      equal_or_below long other e,
      same_but_forms (drop 1 forms) (drop 1 others) es,
    )

pub frames_differ : FramesDiffer
frames_differ c s t gs gt =
    let (before, after, one, two) = two_frames c s t gs gt in
    (before, after, _, _, same_but_forms one.0 two.0 (elements_of c), one.1, two.1)

pub payloads_differ : PayloadsDiffer
payloads_differ c s t gs gt =
    let (before, after, u, v, behind, behind', one, two) = two_payloads c s t gs gt in
    (before, after, _, _, same_but_forms one.0 two.0 (elements_of c), u, v, behind, behind', one.1, two.1)
