-- What is put into a buffer, piece after piece.
-- Assumes nothing.
use Rattle.std.proofs.Common.{ℕ, suc, ◌+◌, ◌-◌, ◌≤◌, ◌<◌, ◌≡◌, refl, sym, ap, ◌∙◌, List, [], ◌∷◌, ◌++◌, zero-add, add-one, arith}
use Rattle.std.proofs.Common.{slice_index_or, length, set, take, drop, length-append, length-drop}
use Rattle.std.proofs.Math.Seq.{take-append_seam, take-suc}
use Rattle.std.proofs.lemmas.Bool.{lt-ltb, le-ltb}
use Rattle.std.proofs.lemmas.Bool.Decides.{nat_tests}
use Rattle.std.proofs.lemmas.List.{take_more_set, drop-set-lt, length-set, length-take-le, take_all, take-append-drop}
use Rattle.std.proofs.lemmas.List.Edits.{sets, sets-eq}
-- one more entry of a list
pub use Rattle.std.proofs.lemmas.List.{drop_more as drop_next}
-- std has no name for it.
use borrow.Rule.Slice.PartMut.{put_mid}
use Rattle.std.proofs.lemmas.Slice.{put_mid-paste}
use Rattle.felica_put.specs.Put.{BufferOf, buffer, put_byte, put}
use Rattle.felica_put.specs.Output.{Puts, held}
use Rattle.felica_put.specs.declared.Output.{Output}

pub put_append : {A : Type 0} (b : BufferOf A) (vs ws : List A) → put b (vs ++ ws) ≡ put (put b vs) ws
unfolding put
put_append b [] ws = refl
put_append b (v ∷ vs) ws = put_append (put_byte b v) vs ws

-- one piece behind another
pub put_then : {A : Type 0} (b : BufferOf A) (vs ws : List A) {c d : BufferOf A} → c ≡ put b vs → d ≡ put c ws → d ≡ put b (vs ++ ws)
put_then b vs ws first second = second ∙ ap (λ x. put x ws) first ∙ sym (put_append b vs ws)

pub put_none : {A : Type 0} (b : BufferOf A) (vs : List A) {all : BufferOf A} → vs ≡ [] → put b vs ≡ all → b ≡ all
unfolding put
put_none b vs n e = sym (ap (put b) n) ∙ e

-- a list from a place on, as a slice is cut
pub take_rest : {A : Type 0} (n : ℕ) (s : List A) → take (length s - n) (drop n s) ≡ drop n s
take_rest n s = take_all (length s - n) (drop n s) (omega (arith, length-drop n s))

-- nothing is put where there is no room
pub put_full : {A : Type 0} (vs l : List A) (at : ℕ) → length l ≤ at → put (buffer l at) vs ≡ buffer l at
unfolding put
put_full [] l at full = refl
put_full (v ∷ vs) l at full = rw (le-ltb _ _ full) (put_full vs l at full)

-- nothing is put where the list or the room has nothing left
pub put_over : {A : Type 0} (rest l : List A) (at : ℕ) → (0 < length rest → length l ≤ at) → buffer l at ≡ put (buffer l at) rest
unfolding put
put_over [] l at full = refl
put_over (v ∷ vs) l at full = sym (put_full (v ∷ vs) l at (full (omega arith)))

-- Where there is room, the text stands in the buffer, and what lies before and behind it keeps its value.
put_sets : {A : Type 0} (vs l : List A) (at : ℕ) → at + length vs ≤ length l → put (buffer l at) vs ≡ buffer (sets l at vs) (at + length vs)
unfolding put
put_sets [] l at h = let n : at + 0 ≡ at = omega arith in rw n
put_sets (v ∷ vs) l at h =
    let room : at < length l = omega arith in
    let n : at + suc (length vs) ≡ suc at + length vs = omega arith in
    rw (lt-ltb _ _ room, add-one, n) (put_sets vs (set l at v) (suc at) (omega (arith, length-set l at v)))

pub put_room : {A : Type 0} (vs l : List A) (at : ℕ) → at + length vs ≤ length l
    → put (buffer l at) vs ≡ buffer (take at l ++ vs ++ drop (at + length vs) l) (at + length vs)
put_room vs l at h = put_sets vs l at h ∙ ap (λ m. buffer m (at + length vs)) (sets-eq vs l at h)

-- the same from the start
pub put_front : {A : Type 0} (vs l : List A) → length vs ≤ length l → put (buffer l 0) vs ≡ buffer (vs ++ drop (length vs) l) (length vs)
put_front vs l h = put_room vs l 0 (omega arith) ∙ ap (λ n. buffer (vs ++ drop n l) n) (zero-add (length vs))

-- what stands in front of the next place then
pub put_taken : {A : Type 0} (vs l : List A) (at : ℕ) → at + length vs ≤ length l → take (put (buffer l at) vs).next (put (buffer l at) vs).bytes ≡ take at l ++ vs
put_taken vs l at h =
    let front : length (take at l ++ vs) ≡ at + length vs =
    length-append (take at l) vs ∙ ap (λ (n : ℕ). n + length vs) (length-take-le at l (omega arith)) in
    ap (λ b. take b.next b.bytes) (put_room vs l at h)
    ∙ ap (λ (n : ℕ). take n (take at l ++ vs ++ drop (at + length vs) l)) (sym front)
    ∙ take-append_seam (take at l ++ vs) (drop (at + length vs) l)

-- Whether or not there is room: the buffer keeps its length, the next place never falls and stays within the buffer, and from there on
-- every byte keeps its value.
pub record Kept {A : Type 0} (b c : BufferOf A) : Type 0 where
  pub long : length c.bytes ≡ length b.bytes
  pub onward : b.next ≤ c.next
  pub within : b.next ≤ length b.bytes → c.next ≤ length c.bytes
  pub behind : (n : ℕ) → c.next ≤ n → drop n c.bytes ≡ drop n b.bytes

kept_byte : {A : Type 0} (b : BufferOf A) (v : A) → Kept b (put_byte b v)
kept_byte b v = record {
  long = grind (arith, nat_tests, length-set b.bytes b.next v);
  onward = grind (arith, nat_tests);
  within = λ k. grind (arith, nat_tests, length-set b.bytes b.next v);
  behind = λ n k. grind (arith, nat_tests, drop-set-lt n b.bytes b.next v);
}

pub kept : {A : Type 0} (b : BufferOf A) (vs : List A) → Kept b (put b vs)
unfolding put
kept b [] = record { long = refl; onward = omega arith; within = λ k. k; behind = λ n k. refl }
kept b (v ∷ vs) =
    let first = kept_byte b v in
    let rest = kept (put_byte b v) vs in
    record {
      long = rest.long ∙ first.long;
      onward = omega (arith, rest.onward, first.onward);
      within = λ k. rest.within (first.within k);
      behind = λ n k. rest.behind n k ∙ first.behind n (omega (arith, rest.onward));
    }

pub put_within : {A : Type 0} (l : List A) (at : ℕ) (vs : List A) {m : List A} {n : ℕ} → buffer m n ≡ put (buffer l at) vs → at ≤ length l → n ≤ length m
put_within l at vs e h = rw (ap (λ b. b.bytes) e, ap (λ b. b.next) e) ((kept (buffer l at) vs).within h)

-- what is put behind something else
pub puts_then : {A : Type 0} {a b c : Output A} {vs ws : List A} → Puts a b vs → Puts b c ws → Puts a c (vs ++ ws)
puts_then {a = a} {vs = vs} {ws = ws} first second =
    record { same_reference = second.same_reference ∙ first.same_reference; held = put_then (held a) vs ws first.held second.held }

pub puts_nothing : {A : Type 0} {a : Output A} → Puts a a []
unfolding put
puts_nothing = record { same_reference = refl; held = refl }

-- a list copied to where it finds room
pub put_copied : {A : Type 0} (vs l now : List A) (at k n : ℕ) → at + length vs ≤ length l → k ≡ length vs → n ≡ at + length vs → now ≡ vs → buffer (put_mid at k l now) n ≡ put (buffer l at) vs
put_copied vs l now at k n fits same end is =
    rw (end) (ap (λ m. buffer m (at + length vs)) (put_mid-paste at k l now vs (length vs) is (sym same) refl)
    ∙ ap (λ ws. buffer (take at l ++ ws ++ drop (at + length vs) l) (at + length vs)) (take_all (length vs) vs (omega arith)) ∙ sym (put_room vs l at fits))

-- what is left out where the first k items fill the room
pub put_first : {A : Type 0} (vs l : List A) (at k : ℕ) → at + k ≡ length l → k ≤ length vs → put (buffer l at) (take k vs) ≡ put (buffer l at) vs
put_first vs l at k full more =
    let some = take k vs in
    let short : length some ≡ k = length-take-le k vs more in
    let filled : put (buffer l at) some ≡ buffer (take at l ++ some ++ drop (at + length some) l) (at + length some) = put_room some l at (omega arith) in
    let long : length (take at l ++ some ++ drop (at + length some) l) ≡ length l = ap (λ b. length b.bytes) (sym filled) ∙ (kept (buffer l at) some).long in
    filled ∙ put_over (drop k vs) _ (at + length some) (λ left. omega arith)
    ∙ ap (λ b. put b (drop k vs)) (sym filled) ∙ sym (put_append (buffer l at) some (drop k vs)) ∙ ap (put (buffer l at)) (take-append-drop k vs)

-- one more item copied to its place
pub copied_next : {A : Type 0} (room items : List A) (i : ℕ) (item : A) → take i room ≡ take i items → i < length room → i < length items → item ≡ slice_index_or items i item
    → take (i + 1) (set room i item) ≡ take (i + 1) items
copied_next room items i item same room_left left is =
    take_more_set room i item room_left ∙ ap (λ xs. xs ++ item ∷ []) same ∙ ap (λ x. take i items ++ x ∷ []) is ∙ rw add-one (sym (take-suc items i item left))
