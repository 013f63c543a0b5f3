-- What a read leaves as it was, bytes moved to the front, and the room behind what waits to be written.
-- Assumes nothing.
use Rattle.std.proofs.Common.{ℕ, ◌+◌, ◌-◌, ◌≤◌, ◌<◌, ◌≡◌, refl, sym, ap, ◌∙◌, Bool, true, false, cond, leb, List, ◌++◌, append-nil, length, take, drop, zero-add, length-drop, arith}
use Rattle.std.proofs.Math.Nat.{sub-zero}
use Rattle.std.proofs.Math.Seq.{paste, drop-append_seam}
use Rattle.std.proofs.lemmas.Bool.{lt-leb, le-leb, leb-true}
use Rattle.std.proofs.lemmas.List.{drop-take, take-append-le, length-take-le}
use Rattle.std.proofs.lemmas.List.Edits.{paste_none, take-paste}
use Rattle.std.specs.Io.KnownBytes.{Consumes}
use Rattle.std.specs.declared.option.Option.{Option}
use Rattle.felica_put.specs.Put.{Buffer}
use Rattle.felica_put.specs.declared.Output.{Output}
use Rattle.felica_stream.specs.Held.{moved, still_waiting, IsWithin, RoomMade}

-- what a read puts behind the bytes held
behind_front : (at n : ℕ) (s buf rest : List ℕ) → at ≤ length s → n ≤ length buf → drop at (take (at + n) (take at s ++ (buf ++ rest))) ≡ take n buf
behind_front at n s buf rest h k =
    let front : length (take at s) ≡ at = length-take-le at s h in
    let there : drop at (take at s ++ (buf ++ rest)) ≡ buf ++ rest = ap (λ (m : ℕ). drop m (take at s ++ (buf ++ rest))) (sym front) ∙ drop-append_seam (take at s) (buf ++ rest) in
    drop-take at n (take at s ++ (buf ++ rest)) ∙ ap (take n) there ∙ take-append-le n buf rest k

pub read_behind : (old new : Option (List ℕ)) (at n : ℕ) (s buf rest : List ℕ) → at ≤ length s → n ≤ length buf → Consumes old new (take n buf)
    → Consumes old new (drop at (take (at + n) (take at s ++ (buf ++ rest))))
read_behind old new at n s buf rest h k takes = rw (behind_front at n s buf rest h k) takes

-- what is moved, by the tests on the two places
pub move_inside : (s : List ℕ) (from end : ℕ) {l : List ℕ} → end ≤ length s → l ≡ paste s 0 (drop from s) (end - from) → l ≡ moved s from end
unfolding moved
move_inside s from end h e = rw (le-leb end (length s) h) e

pub move_none : (s : List ℕ) (from end : ℕ) → end < from → s ≡ moved s from end
unfolding moved
move_none s from end h =
    let none : end - from ≡ 0 = omega arith in
    go (leb end (length s)) (ap (paste s 0 (drop from s)) (sym none))
  where
    go : (fits : Bool) → paste s 0 (drop from s) 0 ≡ paste s 0 (drop from s) (end - from) → s ≡ cond fits (paste s 0 (drop from s) (end - from)) s
    go true e = paste_none s 0 (drop from s) ∙ e
    go false e = refl

pub move_short : (s : List ℕ) (from end : ℕ) → length s < end → s ≡ moved s from end
unfolding moved
move_short s from end h = rw (lt-leb end (length s) h)

-- where output is written or not, there is room behind what waits
module _ (next room n : ℕ) where
  waits : (b : Bool) → leb (next + room) n ≡ b → cond b next 0 ≤ n
  waits true q = omega (arith, leb-true _ _ q)
  waits false q = omega arith

  made : (b : Bool) → leb (next + room) n ≡ b → room ≤ n → cond b next 0 + room ≤ n
  made true q h = leb-true _ _ q
  made false q h = omega arith

-- what waits is what is written where room is made, and what still waits
still : (out : List ℕ) (next : ℕ) (fits : Bool) → take next out ≡ take (next - cond fits next 0) out ++ take (cond fits next 0) out
still out next true = let none : next - next ≡ 0 = omega arith in rw none
still out next false = rw sub-zero (sym (append-nil (take next out)))

module _ {a b : Output ℕ} {room : ℕ} (e : RoomMade a b room) where
  pub still_waits : take a.len a.room.now ≡ take (a.len - b.len) a.room.now ++ take b.len b.room.now
  still_waits =
      ap (λ (x : Buffer). take a.len a.room.now) e.held
      ∙ still a.room.now a.len (leb (a.len + room) (length a.room.now))
      ∙ ap (λ (x : Buffer). take (a.len - x.next) a.room.now ++ take x.next x.bytes) (sym e.held)

  pub still_is : b.len ≡ still_waiting (length a.room.now) a.len room
  still_is = ap (λ (x : Buffer). x.next) e.held

  pub room_length : length b.room.now ≡ length a.room.now
  room_length = ap (λ (x : Buffer). length x.bytes) e.held

  pub waits_inside : IsWithin b
  waits_inside = omega (arith, still_is, room_length, waits a.len room (length a.room.now) (leb (a.len + room) (length a.room.now)) refl)

  pub room_made : room ≤ length a.room.now → b.len + room ≤ length b.room.now
  room_made h = omega (arith, still_is, room_length, made a.len room (length a.room.now) (leb (a.len + room) (length a.room.now)) refl h)

-- the bytes between two places, moved to the front
pub rest_moved : (s : List ℕ) (from end : ℕ) → from ≤ end → end ≤ length s → take (end - from) (moved s from end) ≡ drop from (take end s)
unfolding moved
rest_moved s from end h k =
    let all : from + (end - from) ≡ end = omega arith in
    rw (le-leb end (length s) k)
    (ap (λ (n : ℕ). take n (paste s 0 (drop from s) (end - from))) (sym (zero-add (end - from)))
    ∙ take-paste s 0 (drop from s) (end - from) (omega arith) (rw (length-drop from s) (omega arith))
    ∙ sym (drop-take from (end - from) s) ∙ ap (λ (n : ℕ). drop from (take n s)) all)
