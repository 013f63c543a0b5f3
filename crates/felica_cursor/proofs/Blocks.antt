-- The walk over the elements of a block list: eight of one form at once, others by their first bytes alone.
-- Assumes nothing.
use Rattle.std.proofs.Common.{ℕ, zero, suc, ◌+◌, ◌-◌, ◌*◌, ◌/◌, ◌<◌, ◌≤◌, arith, ◌≡◌, refl, sym, ap, ◌∙◌, subst, ◌⊎◌, inl, inr, Bool, true, false, cond, List, [], ◌∷◌, ◌++◌, ltb, leb, length, get_or, take, drop, drop-drop, get_or-drop, length-drop, ltb-true, ltb-false, leb-true, leb-false, lt-ltb, le-ltb, ◌&&◌, Ok}
use Rattle.std.proofs.lemmas.List.{get_or-take}
use Rattle.std.specs.List.{fold}
use Rattle.std.specs.Simd.{first_chunks}
use Rattle.felica_format.specs.Basic.{Step, taken, refuse, bind, word_of}
use Rattle.felica_format.specs.Command.{Formed, long_count}
use Rattle.felica_format.specs.Read.{element_of, formed, read_element, read_each, read_long, read_short}
use Rattle.felica_format.proofs.Steps.{none_taken, taken_value, taken_rest, bind_taken}
use Rattle.felica_command.specs.Meaning.{part}
use Rattle.felica_command.specs.Places.{element_size, elements_size}
use Rattle.felica_command.proofs.Inside.{each_leaves, each_whole}
use Rattle.felica_cursor.specs.Taken.{rest, Takes}
use Rattle.felica_cursor.specs.Steps.{elements_in, ElementsFrom, Passes}
use Rattle.felica_cursor.specs.declared.cursor.Blocks.{Blocks}
use Rattle.felica_cursor.specs.declared.cursor.Cursor.{Cursor}
use Rattle.felica_cursor.proofs.Laws.{front_at, at_front_2, at_front_3, long_cut, short_cut}

-- ── one element ─────────────────────────────────────────────────────────────
module _ (s : List ℕ) (at : ℕ) where
  pub short_here : at + 1 < length s → 128 ≤ get_or s at 0
      → read_element (drop at s) ≡ taken (formed false (element_of (get_or s at 0) (get_or s (at + 1) 0))) (drop (at + 2) s)
  unfolding read_element read_short
  short_here h set = rw (at_front_2 s at h, le-ltb _ _ set)

  pub long_here : at + 2 < length s → get_or s at 0 < 128
      → read_element (drop at s) ≡ taken (formed true (element_of (get_or s at 0) (word_of (get_or s (at + 1) 0) (get_or s (at + 2) 0)))) (drop (at + 3) s)
  unfolding read_element read_long
  long_here h clear = rw (at_front_3 s at h, lt-ltb _ _ clear)

  pub long_lacks : at < length s → length s < at + 3 → get_or s at 0 < 128 → read_element (drop at s) ≡ refuse 16
  unfolding read_element
  long_lacks h short clear =
      let few : length (drop (at + 1) s) < 2 = simp length-drop (omega arith) in
      rw (front_at s at h, lt-ltb _ _ clear, long_cut (get_or s at 0) (drop (at + 1) s) few)

  pub short_lacks : at < length s → length s < at + 2 → 128 ≤ get_or s at 0 → read_element (drop at s) ≡ refuse 15
  unfolding read_element
  short_lacks h short set =
      let few : length (drop (at + 1) s) < 1 = simp length-drop (omega arith) in
      rw (front_at s at h, le-ltb _ _ set, short_cut (get_or s at 0) (drop (at + 1) s) few)

-- of fewer than two bytes no element is taken
pub none_of_one : (l : List ℕ) (f : Formed) (r : List ℕ) → length l < 2 → read_element l ≡ taken f r → ⊥
unfolding read_element read_short read_long
none_of_one [] f r few e = none_taken e
none_of_one (head ∷ []) f r few e = go (ltb head 128) e
  where
    go : (b : Bool) → cond b (read_long head []) (read_short head []) ≡ taken f r → ⊥
    go true e = none_taken e
    go false e = none_taken e
none_of_one (head ∷ a ∷ l) f r few e = absurd (omega arith)

-- an element's size by its highest bit
pub size_by_bit : (head : ℕ) → head < 256 → 3 - head / 128 ≡ element_size head
size_by_bit head small = go (ltb head 128) refl
  where
    go : (b : Bool) → ltb head 128 ≡ b → 3 - head / 128 ≡ cond b 3 2
    go true h = let below : head < 128 = ltb-true _ _ h in omega arith
    go false h = let from : 128 ≤ head = ltb-false _ _ h in omega arith

-- an element's size is that of its form
form_here : (l : List ℕ) (f : Formed) (r : List ℕ) → read_element l ≡ taken f r → element_size (get_or l 0 0) ≡ 2 + cond f.long 1 0
unfolding read_element read_short read_long
form_here [] f r h = absurd (none_taken h)
form_here (head ∷ l) f r h = go (ltb head 128) l h
  where
    go : (q : Bool) (l : List ℕ) → cond q (read_long head l) (read_short head l) ≡ taken f r → cond q 3 2 ≡ 2 + cond f.long 1 0
    go true [] h = absurd (none_taken h)
    go true (a ∷ []) h = absurd (none_taken h)
    go true (a ∷ b ∷ l) h = subst (λ (x : Formed). 3 ≡ 2 + cond x.long 1 0) (taken_value h) refl
    go false [] h = absurd (none_taken h)
    go false (a ∷ l) h = subst (λ (x : Formed). 2 ≡ 2 + cond x.long 1 0) (taken_value h) refl

-- ── elements passed over ────────────────────────────────────────────────────
-- a walk of the elements that has taken some: those stand in front of what the rest gives
abbrev before : List Formed → Step (List Formed) → Step (List Formed)
before done (taken es r) = taken (done ++ es) r
before done (refuse n) = refuse n

before_cons : (e : Formed) (es : List Formed) (l t : List ℕ) (next : List ℕ → Step (List Formed)) (y : Step (List Formed)) → read_element l ≡ taken e t → next t ≡ before es y
    → bind (read_element l) (λ e t. bind (next t) λ es u. taken (e ∷ es) u) ≡ before (e ∷ es) y
unfolding bind
before_cons e es l t next (taken fs r) here more = rw (here, more) refl
before_cons e es l t next (refuse n) here more = rw (here, more) refl

before_none : (x : Step (List Formed)) → x ≡ before [] x
before_none (taken es r) = refl
before_none (refuse n) = refl

size_on : (m n : ℕ) (l : List ℕ) → elements_size (m + n) l ≡ elements_size m l + elements_size n (drop (elements_size m l) l)
unfolding elements_size
size_on zero n l = let e : 0 + n ≡ n = omega arith in rw e (omega arith)
size_on (suc m) n l =
    let size = element_size (get_or l 0 0) in
    let e : suc m + n ≡ suc (m + n) = omega arith in
    let ih = size_on m n (drop size l) in
    let there = drop-drop (elements_size m (drop size l)) size l in
    rw (e, ih, there) (omega arith)

each_on : (m n : ℕ) (l : List ℕ) (es : List Formed) (r : List ℕ) → read_each m l ≡ taken es r → read_each (m + n) l ≡ before es (read_each n r)
unfolding read_each
each_on zero n l es r h =
    let e : 0 + n ≡ n = omega arith in
    rw (e, ← taken_value h, ← taken_rest h) (before_none (read_each n l))
each_on (suc m) n l es r h =
    let first = bind_taken (read_element l) (λ e t. bind (read_each m t) λ fs u. taken (e ∷ fs) u) h in
    let more = bind_taken (read_each m first.1) (λ fs u. taken (first.0 ∷ fs) u) first.3 in
    let e : suc m + n ≡ suc (m + n) = omega arith in
    let ih = each_on m n first.1 more.0 more.1 more.2 in
    let here : read_each (suc (m + n)) l ≡ before (first.0 ∷ more.0) (read_each n more.1) =
    before_cons first.0 more.0 l first.1 (read_each (m + n)) (read_each n more.1) first.2 ih in
    subst (λ (i : ℕ). read_each i l ≡ before (first.0 ∷ more.0) (read_each n more.1)) (sym e) here
    ∙ ap (λ (x : List Formed). before x (read_each n more.1)) (taken_value more.3) ∙ ap (λ (t : List ℕ). before es (read_each n t)) (taken_rest more.3)

-- behind elements that are there, one is refused
refused_on : (m n g : ℕ) (l : List ℕ) → elements_size m l ≤ length l → read_each n (drop (elements_size m l) l) ≡ refuse g → read_each (m + n) l ≡ refuse g
refused_on m n g l there h =
    let whole = each_whole m l there in
    each_on m n l whole.0 _ whole.1 ∙ ap (before whole.0) h

refused_first : (n g : ℕ) (l : List ℕ) → read_element l ≡ refuse g → read_each (suc n) l ≡ refuse g
unfolding read_each bind
refused_first n g l h = rw h refl

-- so many elements are there, from one place to another
abbrev pub Whole : List ℕ → ℕ → ℕ → ℕ → Type 0
Whole s start n at = (elements_size n (drop start s) ≤ length (drop start s)) × (at ≡ start + elements_size n (drop start s))

pub whole_none : (s : List ℕ) (start : ℕ) → Whole s start 0 start
unfolding elements_size
whole_none s start = (omega arith, omega arith)

whole_one : (s : List ℕ) (at : ℕ) → at + element_size (get_or s at 0) ≤ length s → Whole s at 1 (at + element_size (get_or s at 0))
unfolding elements_size
whole_one s at inside =
    let e : at + 0 ≡ at = omega arith in
    let left : length (drop at s) ≡ length s - at = length-drop at s in
    rw (get_or-drop at s 0 0, e) (omega arith, omega arith)

whole_on : (s : List ℕ) (start m at n next : ℕ) → Whole s start m at → Whole s at n next → Whole s start (m + n) next
whole_on s start m at n next (there, size) (more, next_size) =
    let l = drop start s in
    let behind : drop (elements_size m l) l ≡ drop at s = drop-drop (elements_size m l) start s ∙ ap (λ k. drop k s) (sym size) in
    let all : elements_size (m + n) l ≡ elements_size m l + elements_size n (drop at s) =
    size_on m n l ∙ ap (λ t. elements_size m l + elements_size n t) behind in
    let left : length (drop at s) ≡ length l - elements_size m l = ap length (sym behind) ∙ length-drop (elements_size m l) l in
    (omega arith, omega arith)

-- as a cursor's
pub passes_whole : (n : ℕ) (c : Cursor) (at : ℕ) → Whole c.payload.now c.at n at → Passes n c (Ok (record c { at = at }))
passes_whole n c at (there, size) = (there, ap (λ (k : ℕ). record c { at = k }) size)

whole_passes : (n : ℕ) (c behind : Cursor) → Passes n c (Ok behind) → Whole c.payload.now c.at n behind.at
whole_passes n c behind (there, is) = (there, ap (λ (x : Cursor). x.at) is)

pub passes_none : (c : Cursor) → Passes 0 c (Ok c)
passes_none c = passes_whole 0 c c.at (whole_none c.payload.now c.at)

pub passes_on : (m n k : ℕ) (c d b : Cursor) → m + n ≡ k → Passes m c (Ok d) → Passes n d (Ok b) → Passes k c (Ok b)
passes_on m n k c d b e first second =
    let (there, is) = first in
    let d_at : ℕ = d.at in
    let at : Cursor = record c { at = d_at } in
    let same : d ≡ at = is ∙ ap (λ (k : ℕ). record c { at = k }) (sym (ap (λ (x : Cursor). x.at) is)) in
    let more : Passes n at (Ok b) = subst (λ (x : Cursor). Passes n x (Ok b)) same second in
    let whole = whole_on c.payload.now c.at m d_at n b.at (whole_passes m c d first) (whole_passes n at b more) in
    let b_is : b ≡ record c { at = b.at } = more.1 ∙ ap (λ (k : ℕ). record c { at = k }) (sym (ap (λ (x : Cursor). x.at) more.1)) in
    subst (λ (i : ℕ). Passes i c (Ok b)) e (subst (λ (x : Cursor). Passes (m + n) c (Ok x)) (sym b_is) (passes_whole (m + n) c b.at whole))

pub passes_refused : (m n k g : ℕ) (c d : Cursor) → m + n ≡ k → Passes m c (Ok d) → read_each n (rest d) ≡ refuse g → read_each k (rest c) ≡ refuse g
passes_refused m n k g c d e (there, is) h =
    let behind : rest d ≡ drop (elements_size m (rest c)) (rest c) =
    ap rest is ∙ sym (drop-drop (elements_size m (rest c)) c.at c.payload.now) in
    subst (λ (i : ℕ). read_each i (rest c) ≡ refuse g) e (refused_on m n g (rest c) there (rw (← behind) h))

-- a refusal is one of a longer list
stops_each : (g : ℕ) (x y : Step (List Formed)) (e : Formed) → (x ≡ refuse g → y ≡ refuse g) → bind x (λ es t. taken (e ∷ es) t) ≡ refuse g
    → bind y (λ es t. taken (e ∷ es) t) ≡ refuse g
unfolding bind
stops_each g (taken es t) y e on h = absurd (none_taken (sym h))
stops_each g (refuse k) y e on h = rw (on h) refl

stops_first : (g m k : ℕ) (x : Step Formed) → ((t : List ℕ) → read_each m t ≡ refuse g → read_each k t ≡ refuse g)
    → bind x (λ e t. bind (read_each m t) λ es u. taken (e ∷ es) u) ≡ refuse g → bind x (λ e t. bind (read_each k t) λ es u. taken (e ∷ es) u) ≡ refuse g
unfolding bind
stops_first g m k (taken e t) on h = stops_each g (read_each m t) (read_each k t) e (on t) h
stops_first g m k (refuse j) on h = h

stops : (g m n : ℕ) (l : List ℕ) → read_each m l ≡ refuse g → read_each (m + n) l ≡ refuse g
unfolding read_each
stops g zero n l h = absurd (none_taken (sym h))
stops g (suc m) n l h = let e : suc m + n ≡ suc (m + n) = omega arith in rw e (stops_first g m (m + n) (read_element l) (stops g m n) h)

pub refused_longer : (m n k g : ℕ) (l : List ℕ) → m + n ≡ k → read_each m l ≡ refuse g → read_each k l ≡ refuse g
refused_longer m n k g l e h = subst (λ (i : ℕ). read_each i l ≡ refuse g) e (stops g m n l h)

-- ── the walk by first bytes ─────────────────────────────────────────────────
-- a long element that lacks its third byte was passed over
abbrev pub Lacking : List ℕ → ℕ → ℕ → ℕ → Type 0
Lacking s start count at = (start ≤ length s) × (at ≡ length s + 1) × (read_each count (drop start s) ≡ refuse 16)

abbrev pub Walk : List ℕ → ℕ → ℕ → ℕ → ℕ → Type 0
Walk s start count n at = Whole s start n at ⊎ Lacking s start count at

-- whole elements do not go past the end
whole_inside : (s : List ℕ) (start n at : ℕ) → Whole s start n at → start ≤ length s → at ≤ length s
whole_inside s start n at (there, size) h = let left : length (drop start s) ≡ length s - start = length-drop start s in omega arith

whole_refused : (s : List ℕ) (start count n at more g : ℕ) → n + suc more ≡ count → Whole s start n at → read_element (drop at s) ≡ refuse g → read_each count (drop start s) ≡ refuse g
whole_refused s start count n at more g e (there, size) h =
    let l = drop start s in
    let behind : drop (elements_size n l) l ≡ drop at s = drop-drop (elements_size n l) start s ∙ ap (λ k. drop k s) (sym size) in
    subst (λ (i : ℕ). read_each i l ≡ refuse g) e (refused_on n (suc more) g l there (rw behind (refused_first more g (drop at s) h)))

module _ (s : List ℕ) (start count n at more : ℕ) (all : n + suc more ≡ count) where
  -- an element more, of which two bytes are there
  pub walk_more : at + 2 ≤ length s → Walk s start count n at → Walk s start count (n + 1) (at + element_size (get_or s at 0))
  walk_more two (inr (inside, end, read)) = absurd (omega arith)
  walk_more two (inl whole) = go (leb (at + element_size (get_or s at 0)) (length s)) refl
    where
      go : (b : Bool) → leb (at + element_size (get_or s at 0)) (length s) ≡ b → Walk s start count (n + 1) (at + element_size (get_or s at 0))
      go true there = inl (whole_on s start n at 1 _ whole (whole_one s at (leb-true _ _ there)))
      go false there =
          let beyond : length s < at + element_size (get_or s at 0) = leb-false _ _ there in
          lacks (ltb (get_or s at 0) 128) refl beyond
        where
          lacks : (b : Bool) → ltb (get_or s at 0) 128 ≡ b → length s < at + cond b 3 2 → Walk s start count (n + 1) (at + element_size (get_or s at 0))
          lacks true h beyond =
              let left : length (drop start s) ≡ length s - start = length-drop start s in
              let long : length s < at + 3 = beyond in
              rw h (inr (omega arith, omega arith, whole_refused s start count n at more 16 all whole (long_lacks s at (omega arith) long (ltb-true _ _ h))))
          lacks false h beyond = absurd (omega arith)

  -- no element more
  pub walk_cut : (r : ℕ) → (start ≤ length s → length s < at → r ≡ 16) → ((start ≤ length s → at ≤ length s) → read_element (drop at s) ≡ refuse r)
      → Walk s start count n at → read_each count (drop start s) ≡ refuse r
  walk_cut r past here (inr (inside, end, read)) = read ∙ ap refuse (sym (past inside (omega arith)))
  walk_cut r past here (inl whole) = whole_refused s start count n at more r all whole (here (whole_inside s start n at whole))

pub walk_past : (s : List ℕ) (start count n at : ℕ) → start ≤ length s → length s < at → Walk s start count n at → read_each count (drop start s) ≡ refuse 16
walk_past s start count n at inside beyond (inr (_, end, read)) = read
walk_past s start count n at inside beyond (inl whole) = let here = whole_inside s start n at whole inside in absurd (omega arith)

pub walk_done : (s : List ℕ) (start count n at : ℕ) → (start ≤ length s → at ≤ length s) → Walk s start count n at → Whole s start n at
walk_done s start count n at here (inr (inside, end, read)) = let there = here inside in absurd (omega arith)
walk_done s start count n at here (inl whole) = whole

-- ── eight of one form ───────────────────────────────────────────────────────
-- chunks of one size, each of which passes a test of its first byte that tells this size
module _ (size : ℕ) (test : ℕ → Bool) (some : 0 < size) (told : (head : ℕ) → test head ≡ true → element_size head ≡ size) where
  chunks_sized : (n k : ℕ) (l : List ℕ) (all : Bool) → n ≤ k → fold (λ a x. a && test (get_or x 0 0)) all (take n (first_chunks size k l)) ≡ true
      → (all ≡ true) × (elements_size n l ≡ n * size)
  unfolding elements_size
  chunks_sized zero k l all h e = (e, omega arith)
  chunks_sized (suc n) zero l all h e = absurd (omega arith)
  chunks_sized (suc n) (suc k) l all h e =
      let (both, rest) = chunks_sized n k (drop size l) (all && test (get_or (take size l) 0 0)) (omega arith) e in
      let (before, passed) = split all _ both in
      let head : get_or (take size l) 0 0 ≡ get_or l 0 0 = get_or-take size l 0 0 some in
      let is : element_size (get_or l 0 0) ≡ size = told _ (ap test (sym head) ∙ passed) in
      (before, rw (is, rest) (omega arith))
    where
      split : (a b : Bool) → (a && b) ≡ true → (a ≡ true) × (b ≡ true)
      split true b e = (refl, e)
      split false b e = cc

  -- as the code has them
  pub front_sized : (n k : ℕ) (l : List ℕ) (chunks front : List (List ℕ)) → chunks ≡ first_chunks size k l → front ≡ take n chunks → n ≤ length chunks → length chunks ≡ k
      → fold (λ a x. a && test (get_or x 0 0)) true front ≡ true → elements_size n l ≡ n * size
  front_sized n k l chunks front is first enough count e =
      let same : front ≡ take n (first_chunks size k l) = first ∙ ap (take n) is in
      (chunks_sized n k l true (omega arith) (ap (λ (x : List (List ℕ)). fold (λ a x. a && test (get_or x 0 0)) true x) (sym same) ∙ e)).1

pub short_told : (head : ℕ) → leb 128 head ≡ true → element_size head ≡ 2
short_told head h = let set : 128 ≤ head = leb-true _ _ h in rw (le-ltb _ _ set) refl

pub long_told : (head : ℕ) → ltb head 128 ≡ true → element_size head ≡ 3
long_told head h = rw h refl

-- ── what a whole walk answers ───────────────────────────────────────────────
each_one : (l : List ℕ) (e : Formed) (r : List ℕ) → read_element l ≡ taken e r → read_each 1 l ≡ taken (e ∷ []) r
unfolding read_each bind
each_one l e r h = rw h refl

each_size : (n : ℕ) (l : List ℕ) (es : List Formed) (r : List ℕ) → read_each n l ≡ taken es r → elements_size n l ≡ 2 * n + long_count es
unfolding read_each elements_size
each_size zero l es r h = let none : long_count es ≡ 0 = ap long_count (sym (taken_value h)) in omega arith
each_size (suc n) l es r h =
    let first = bind_taken (read_element l) (λ e t. bind (read_each n t) λ fs u. taken (e ∷ fs) u) h in
    let more = bind_taken (read_each n first.1) (λ fs u. taken (first.0 ∷ fs) u) first.3 in
    let size = element_size (get_or l 0 0) in
    let here : size ≡ 2 + cond first.0.long 1 0 = form_here l first.0 first.1 first.2 in
    let one : size + 0 ≡ size = omega arith in
    let there : first.1 ≡ drop size l = (each_leaves 1 l (first.0 ∷ []) first.1 (each_one l first.0 first.1 first.2)).0.0 ∙ ap (λ (k : ℕ). drop k l) one in
    let rest : elements_size n (drop size l) ≡ 2 * n + long_count more.0 = ap (elements_size n) (sym there) ∙ each_size n first.1 more.0 more.1 more.2 in
    let long : long_count es ≡ cond first.0.long 1 0 + long_count more.0 = ap long_count (sym (taken_value more.3)) in
    omega (arith, here, rest, long)

-- the bytes of so many elements
size_bounds : (n : ℕ) (l : List ℕ) → (2 * n ≤ elements_size n l) × (elements_size n l ≤ 3 * n)
unfolding elements_size
size_bounds zero l = (omega arith, omega arith)
size_bounds (suc n) l =
    let (low, high) = size_bounds n (drop (element_size (get_or l 0 0)) l) in
    go (ltb (get_or l 0 0) 128) low high
  where
    go : (b : Bool) {k : ℕ} → 2 * n ≤ k → k ≤ 3 * n → (2 * suc n ≤ cond b 3 2 + k) × (cond b 3 2 + k ≤ 3 * suc n)
    go true low high = (omega arith, omega arith)
    go false low high = (omega arith, omega arith)

pub passes_bounds : (c behind : Cursor) (count : ℕ) → Passes count c (Ok behind) → (c.at + 2 * count ≤ behind.at) × (behind.at ≤ c.at + 3 * count)
passes_bounds c behind count (there, placed) =
    let (low, high) = size_bounds count (rest c) in
    let at : behind.at ≡ c.at + elements_size count (rest c) = ap (λ (x : Cursor). x.at) placed in
    (omega arith, omega arith)

pub passes_takes : (c behind : Cursor) (count : ℕ) (b : Blocks) → Passes count c (Ok behind) → b ≡ record { list = part c.at count; long = behind.at - c.at - 2 * count }
    → Takes (elements_in c.payload.now) (read_each count (rest c)) (ElementsFrom c) (Ok (b, behind))
passes_takes c behind count b (there, placed) is =
    let (done, whole) = each_whole count (rest c) there in
    let read : read_each count (rest c) ≡ taken done (rest behind) =
    whole ∙ ap (taken done) (drop-drop (elements_size count (rest c)) c.at c.payload.now ∙ sym (ap rest placed)) in
    let size = each_size count (rest c) done (rest behind) read in
    let at : behind.at ≡ c.at + elements_size count (rest c) = ap (λ (x : Cursor). x.at) placed in
    let long : behind.at - c.at - 2 * count ≡ long_count done = omega (arith, size, at) in
    rw is (record { read = rw read; placed = (refl, rw read (each_leaves _ _ _ _ read).1, placed, rw read long) })
