-- What stands at the places of a command's parts is what its steps took, and each part stands behind the payload's first byte.
-- Assumes nothing.
use Rattle.std.proofs.Common.{ℕ, suc, ◌+◌, ◌*◌, ◌≤◌, arith, ◌≡◌, refl, sym, ap, ◌∙◌, subst, Bool, true, false, List, [], ◌∷◌, map, length, take, drop, take_all, eqb, cond, Option, None, Some}
use Rattle.std.proofs.lemmas.List.{length-map}
use Rattle.felica_format.specs.Basic.{Step, taken, refuse}
use Rattle.felica_format.specs.Command.{Command, Element, Formed, long_count}
use Rattle.felica_format.specs.Layout.{Codes, no_codes, ◌to◌, Behind, nothing, ignored_bytes, a_package, Layout, layout_of, class_of}
use Rattle.felica_format.specs.Read.{Counted, read_count, words_of, read_words, read_codes, read_each, read_elements, read_data, read_package, read_body}
use Rattle.felica_format.specs.Read.{refused, answer_of, read_plain_as, read_secure_as, read_payload, read_secure, read_frame}
use Rattle.felica_format.specs.declared.classes.Class.{Class}
use Rattle.felica_format.specs.declared.classes.Class.TheVariants.{Plain, Secure, Unknown}
use Rattle.felica_format.proofs.Rows.{data_behind_blocks, package_behind_bytes}
use Rattle.felica_format.proofs.Steps.{taken_value, refuse_if_taken, bind_taken, not_given, given_is, given_long}
use Rattle.felica_command.specs.Meaning.{codes_at, formed_at, bytes_at}
use Rattle.felica_command.specs.Places.{codes_part, blocks_part, blocks_size, data_part, package_part, layout_places}
use Rattle.felica_command.specs.Places.{first_at, second_at, blocks_at, data_at, package_at}
use Rattle.felica_command.specs.Holds.{PartsAre, Hold, PlacesHold, has_codes, has_package, BehindFront, PartsBehindFront}
use Rattle.felica_command.proofs.Inside.{Leaves, leaves_then, bytes_leave, count_leaves, words_leave, each_leaves, Walked, walked}

-- what is read at a place stands in the part that begins there
codes_hold : (missing outside : ℕ) (range : Codes) (s l v r : List ℕ) (at : ℕ) → Leaves at s l → read_codes missing outside range l ≡ taken v r
    → codes_at s (codes_part range at (length v)) ≡ v
unfolding read_codes read_words words_of
codes_hold missing outside no_codes s l v r at here h = taken_value h
codes_hold missing outside (least to greatest) s l v r at here h =
    let count = bind_taken (read_count missing outside least greatest l) read_words h in
    let list = words_leave count.0 count.1 v r count.3 in
    let start = (leaves_then at 1 s l count.1 here (count_leaves missing outside least greatest l count.0 count.1 count.2)).0 in
    ap (λ (n : ℕ). words_of n (drop (at + 1) s)) list.1 ∙ ap (words_of count.0) (sym start)
    ∙ taken_value (refuse_if_taken _ 13 (taken (words_of count.0 count.1) (drop (2 * count.0) count.1)) count.3)

blocks_hold : (missing outside : ℕ) (b : Bool) (s l : List ℕ) (es : List Formed) (r : List ℕ) (at n : ℕ) → n ≡ length es → Leaves at s l
    → read_elements missing outside b l ≡ taken es r → formed_at s (blocks_part b at n) ≡ es
unfolding read_elements read_each
blocks_hold missing outside false s l es r at n size here h = taken_value h
blocks_hold missing outside true s l es r at n size here h =
    let count = bind_taken (read_count missing outside 1 255 l) read_each h in
    let start = (leaves_then at 1 s l count.1 here (count_leaves missing outside 1 255 l count.0 count.1 count.2)).0 in
    let all = (each_leaves count.0 count.1 es r count.3).1 in
    rw (size, all, ← start, count.3) refl

data_hold : (b : Bool) (m : ℕ) (s l v r : List ℕ) (at : ℕ) → Leaves at s l → read_data b m l ≡ taken v r → bytes_at s (data_part b at (length v)) ≡ v
unfolding read_data
data_hold false m s l v r at here h = taken_value h
data_hold true m s l v r at here h =
    let size = (bytes_leave (16 * m) 17 l v r h).1 in
    rw (size, ← here.0) (taken_value (refuse_if_taken _ 17 (taken (take (16 * m) l) (drop (16 * m) l)) h))

package_hold : (b : Behind) (s l v r : List ℕ) (at : ℕ) → Leaves at s l → read_package b l ≡ taken v r → bytes_at s (package_part b at (length v)) ≡ v
unfolding read_package
package_hold nothing s l v r at here h = taken_value h
package_hold ignored_bytes s l v r at here h = taken_value h
package_hold a_package s l v r at here h = ap (take (length v)) (sym here.0 ∙ taken_value h) ∙ take_all (length v) v (omega arith)

body_holds : (code : ℕ) (l : Layout) (at : ℕ) (s : List ℕ) (c : Counted) → Walked code l at s c → PartsAre s (layout_places l at s c.command) c.command c.long
unfolding layout_places
body_holds code l at s c w =
    let counted : length c.command.numbers ≡ length w.blocks
    = ap length w.are_numbers ∙ length-map (map (λ (f : Formed). f.element) w.blocks) (λ (e : Element). e.number) ∙ length-map w.blocks (λ (f : Formed). f.element) in
    let is = blocks_hold _ _ l.elements s w.from_blocks w.blocks w.from_data _ (length c.command.numbers) counted w.blocks_there w.blocks_read in
    let elements = ap (map (λ (f : Formed). f.element)) is in
    record {
      first = codes_hold 9 10 l.first s w.from_first c.command.first w.from_second _ w.first_there w.first_read;
      second = codes_hold 11 12 l.second s w.from_second c.command.second w.from_blocks _ w.second_there w.second_read;
      numbers = ap (map (λ (e : Element). e.number)) elements ∙ sym w.are_numbers;
      places = ap (map (λ (e : Element). e.place)) elements ∙ sym w.are_places;
      modes = ap (map (λ (e : Element). e.mode)) elements ∙ sym w.are_modes;
      long_ones = ap long_count is ∙ sym w.are_long;
      block_data = data_hold l.block_data _ s w.from_data c.command.block_data w.from_ending _ w.data_there w.data_read;
      issue_package = package_hold l.behind s w.from_package c.command.issue_package w.left _ w.package_there w.package_read;
    }

-- a refusal has no command
none_hold : (s : List ℕ) (at n : ℕ) (code : Option ℕ) → Hold s at (refused n code)
none_hold s at n code c long is = absurd (not_given is)

step_holds : (code at : ℕ) (s body : List ℕ) (x : Step Counted) → read_body code (layout_of code) body ≡ x → Leaves at s body → Hold s at (answer_of code x)
step_holds code at s body (taken c rest) h here d long is =
    let w = walked code (layout_of code) at s body c rest here h in
    let there = subst (λ (k : ℕ). PartsAre s (layout_places (layout_of k) at s c.command) c.command c.long) (sym w.its_code) (body_holds code (layout_of code) at s c w) in
    subst (λ (x : Command). PartsAre s (layout_places (layout_of x.code) at s x) x long) (given_is is)
    (subst (λ (n : ℕ). PartsAre s (layout_places (layout_of c.command.code) at s c.command) c.command n) (given_long is) there)
step_holds code at s body (refuse n) h here d long is = none_hold s at n (Some code) d long is

plain_holds : (k : Class) (code : ℕ) (body : List ℕ) → Hold (code ∷ body) 1 (read_plain_as k code body)
plain_holds Plain code body = step_holds code 1 (code ∷ body) body (read_body code (layout_of code) body) refl (refl, omega arith)
plain_holds Secure code body = none_hold (code ∷ body) 1 4 (Some code)
plain_holds Unknown code body = none_hold (code ∷ body) 1 5 (Some code)

payload_holds : (s : List ℕ) → Hold s 1 (read_payload s)
unfolding read_payload
payload_holds [] = none_hold [] 1 3 None
payload_holds (code ∷ body) = plain_holds (class_of code) code body

secure_as_holds : (k : Class) (code : ℕ) (s : List ℕ) → Hold s 0 (read_secure_as k code s)
secure_as_holds Plain code s = none_hold s 0 5 (Some code)
secure_as_holds Secure code s = step_holds code 0 s s (read_body code (layout_of code) s) refl (refl, omega arith)
secure_as_holds Unknown code s = none_hold s 0 5 (Some code)

secure_holds : (code : ℕ) (s : List ℕ) → Hold s 0 (read_secure code s)
unfolding read_secure
secure_holds code s = secure_as_holds (class_of code) code s

frame_holds : (s : List ℕ) → Hold (drop 1 s) 1 (read_frame s)
unfolding read_frame
frame_holds [] = none_hold [] 1 1 None
frame_holds (n ∷ payload) = go (eqb n (suc (length payload)))
  where
    go : (b : Bool) → Hold payload 1 (cond b (read_payload payload) (refused 2 None))
    go true = payload_holds payload
    go false = none_hold payload 1 2 None

pub places_hold : PlacesHold
places_hold = (payload_holds, secure_holds, frame_holds)

-- each kind of part, wherever it is put
codes_behind : (range : Codes) (at n : ℕ) → BehindFront (has_codes range) (codes_part range at n)
codes_behind no_codes at n = refl
codes_behind (least to greatest) at n = omega arith

blocks_behind_front : (b : Bool) (at n : ℕ) → BehindFront b (blocks_part b at n)
blocks_behind_front false at n = refl
blocks_behind_front true at n = omega arith

data_behind : (b : Bool) (at n : ℕ) → (b ≡ true → 1 ≤ at) → BehindFront b (data_part b at n)
data_behind false at n h = refl
data_behind true at n h = h refl

package_behind : (b : Behind) (at n : ℕ) → (b ≡ a_package → 1 ≤ at) → BehindFront (has_package b) (package_part b at n)
package_behind nothing at n h = refl
package_behind ignored_bytes at n h = refl
package_behind a_package at n h = h refl

-- a block list has its count byte
count_byte : (b : Bool) (s : List ℕ) (at n : ℕ) → b ≡ true → 1 ≤ blocks_size b s at n
count_byte b s at n e = rw e (omega arith)

pub parts_behind_front : PartsBehindFront
unfolding layout_places
parts_behind_front at s c long =
    let l = layout_of c.code in (
      codes_behind l.first (first_at l at) (length c.first),
      codes_behind l.second (second_at l at c) (length c.second),
      blocks_behind_front l.elements (blocks_at l at c) (length c.numbers),
      data_behind l.block_data (data_at l at s c) (length c.block_data) λ there.
          let one = count_byte l.elements s (blocks_at l at c) (length c.numbers) (data_behind_blocks c.code there) in omega (arith, one),
      package_behind l.behind (package_at l at s c) (length c.issue_package) λ there.
          let one = package_behind_bytes c.code there in omega (arith, one),
    )
