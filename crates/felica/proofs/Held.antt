-- Lines answered one behind another, and the rest of the input kept.
-- Assumes nothing.
use Rattle.std.proofs.Common.{ℕ, ◌+◌, ◌-◌, ◌≤◌, ◌<◌, ◌≡◌, refl, sym, ap, ◌∙◌, subst, arith, Bool, true, false, List, [], ◌∷◌, ◌++◌, append_assoc, append-nil, length, take, drop, length-append, length-drop, drop-drop, ◌⊎◌, inl, inr}
use Rattle.std.specs.Prelude.{Option, Some}
use Rattle.std.specs.Io.KnownBytes.{Appends}
use Rattle.std.proofs.KnownBytes.{Appends-nil, Appends-trans}
use Rattle.felica_text.specs.Text.{place_of}
use Rattle.felica_put.specs.declared.Output.{Output}
use Rattle.felica_put.specs.Output.{Puts, held}
use Rattle.felica_put.specs.Put.{Buffer}
use Rattle.felica_put.proofs.Laws.{put_taken, put_within, kept}
use Rattle.felica_calls.specs.Fault.{fault_text}
use Rattle.felica_calls.specs.declared.fault.Fault.TheVariants.{LineTooLong}
use Rattle.felica_stream.specs.Held.{RoomMade}
use Rattle.felica_stream.proofs.Held.{room_length, waits_inside, room_made, still_waits}
use Rattle.felica.specs.Lines.{TakesAnswer, lines_from, max_line, LineText, Answers}
use Rattle.felica_answering.specs.Answers.{CallText}
use Rattle.felica_answering.specs.Room.{answer_room}
use Rattle.felica.specs.Room.{input_size, HasAnswerRoom}
use Rattle.felica.specs.Held.{Passed, NoEnd, AnsweredUpTo, AllAnswered, LineAnswered, LastAnswered}
use Rattle.felica.proofs.Lines.{line_found, no_line_found, last_line, no_last_line, none_in_nothing}

-- the text of a line that some bytes had been passed over of, and of one that none had
pub long_line_text : (passed line : List ℕ) → input_size ≤ length passed → LineText (passed ++ line) (fault_text LineTooLong)
long_line_text passed line h = record { call = λ k. absurd (omega (arith, h, k, length-append passed line)); too_long = λ k. refl }

pub line_text : (passed line text : List ℕ) → passed ≡ [] → length line ≤ max_line → CallText line text → LineText (passed ++ line) text
line_text passed line text none short is = subst (λ (x : List ℕ). LineText (x ++ line) text) (sym none) (record { call = λ k. is; too_long = λ k. absurd (omega (arith, k, short)) })

-- an answer put in the room that was made for it
module _ {o p q : Output ℕ} (line text : List ℕ) (made : RoomMade o p answer_room) (room : HasAnswerRoom o) (short : length text < answer_room) (puts : Puts p q (text ++ (10 ∷ []))) where
  fits : p.len + length (text ++ (10 ∷ [])) ≤ length p.room.now
  fits = omega (arith, room_made made room.answer, short, length-append text (10 ∷ []))

  pub answer_put : (v w : Option (List ℕ)) → LineText line text → Appends v w (take (o.len - p.len) o.room.now) → LineAnswered v (held o) line w (held q)
  answer_put v w is taken = record {
    text = text;
    is_text = is;
    written = take (o.len - p.len) o.room.now;
    waits =
        ap (λ (x : List ℕ). x ++ (text ++ (10 ∷ []))) (still_waits made)
        ∙ append_assoc (take (o.len - p.len) o.room.now) (take p.len p.room.now) (text ++ (10 ∷ []))
        ∙ ap (λ (x : List ℕ). take (o.len - p.len) o.room.now ++ x)
        (sym (ap (λ (b : Buffer). take b.next b.bytes) puts.held ∙ put_taken (text ++ (10 ∷ [])) p.room.now p.len fits));
    taken = taken;
  }

-- room is there still
pub room_kept : {o p : Output ℕ} {room : ℕ} → RoomMade o p room → HasAnswerRoom o → HasAnswerRoom p
room_kept made h = record { inside = waits_inside made; answer = omega (arith, room_length made, h.answer) }

pub room_still : {p q : Output ℕ} {text : List ℕ} → Puts p q text → HasAnswerRoom p → HasAnswerRoom q
room_still {p} {q} {text} puts h =
    record { inside = put_within _ _ _ puts.held h.inside; answer = omega (arith, h.answer, ap (λ (b : Buffer). length b.bytes) puts.held, (kept (held p) text).long) }

-- one line more, and the rest of a line passed over
pub answered_start : (v : Option (List ℕ)) (b : Buffer) (before s : List ℕ) → AnsweredUpTo v b before s v b before s
answered_start v b before s = record { texts = []; written = []; answers = λ behind rest answers. answers; waits = append-nil (take b.next b.bytes); taken = Appends-nil v }

module _ (v : Option (List ℕ)) (b : Buffer) (before s : List ℕ) (w : Option (List ℕ)) (c : Buffer) (passed left : List ℕ) (l : AnsweredUpTo v b before s w c passed left) where
  pub answered_line : (n : ℕ) (z : Option (List ℕ)) (d : Buffer) (next : List ℕ) → next ≡ drop (n + 1) left → place_of 10 left ≡ Some n → LineAnswered w c (passed ++ take n left) z d
      → AnsweredUpTo v b before s z d [] next
  answered_line n z d next is found a = subst (AnsweredUpTo v b before s z d []) (sym is) (record {
    texts = l.texts ++ (a.text ++ (10 ∷ []));
    written = l.written ++ a.written;
    answers = λ behind rest answers.
        let first = subst (λ (lines : List (List ℕ)). Answers lines (a.text ++ (10 ∷ rest))) (sym (line_found passed left behind n found)) (a.text, rest, a.is_text, answers, refl) in
        let whole : l.texts ++ (a.text ++ (10 ∷ rest)) ≡ (l.texts ++ (a.text ++ (10 ∷ []))) ++ rest =
        ap (λ (x : List ℕ). l.texts ++ x) (sym (append_assoc a.text (10 ∷ []) rest)) ∙ sym (append_assoc l.texts (a.text ++ (10 ∷ [])) rest) in
        subst (Answers (lines_from before (s ++ behind))) whole (l.answers behind (a.text ++ (10 ∷ rest)) first);
    waits =
        sym (append_assoc (take b.next b.bytes) l.texts (a.text ++ (10 ∷ [])))
        ∙ ap (λ (x : List ℕ). x ++ (a.text ++ (10 ∷ []))) l.waits
        ∙ append_assoc l.written (take c.next c.bytes) (a.text ++ (10 ∷ []))
        ∙ ap (λ (x : List ℕ). l.written ++ x) a.waits
        ∙ sym (append_assoc l.written a.written (take d.next d.bytes));
    taken = Appends-trans v w z l.written a.written l.taken a.taken;
  })

  pub answered_passed : NoEnd left → AnsweredUpTo v b before s w c (passed ++ left) []
  answered_passed none = record {
    texts = l.texts;
    written = l.written;
    answers = λ behind rest answers. l.answers behind rest (subst (λ (lines : List (List ℕ)). Answers lines rest) (sym (no_line_found passed left behind none)) answers);
    waits = l.waits;
    taken = l.taken;
  }

-- the bytes behind the lines that are answered
pub rest_start : (s : List ℕ) → s ≡ drop (length s - length s) s
rest_start s = let none : length s - length s ≡ 0 = omega arith in rw none refl

pub rest_next : (s left next : List ℕ) (n : ℕ) → left ≡ drop (length s - length left) s → length left ≤ length s → next ≡ drop (n + 1) left → n < length left
    → (next ≡ drop (length s - length next) s) × (length next ≤ length s)
rest_next s left next n is inside e h =
    let size : length next ≡ length left - (n + 1) = ap length e ∙ length-drop (n + 1) left in
    let far : (length s - length left) + (n + 1) ≡ length s - length next = omega (arith, size, inside, h) in
    (e ∙ ap (drop (n + 1)) is ∙ drop-drop (n + 1) (length s - length left) s ∙ ap (λ (k : ℕ). drop k s) far, omega (arith, size, inside))

-- a line that is too long is passed over
pub passed_over : (v : Option (List ℕ)) (b : Buffer) (long : Bool) (s : List ℕ) (w : Option (List ℕ)) (c : Buffer) (now : Bool) (left : List ℕ) → AllAnswered v b long s w c now left
    → (now ≡ true) ⊎ (input_size ≤ length left) → AllAnswered v b long s w c true []
passed_over v b long s w c now left all either = (
  none_in_nothing,
  λ before is.
      let done = all.1 before is in
      (done.0 ++ left, far done.0 done.1 either, answered_passed v b before s w c done.0 left done.2 all.0),
)
  where
    far : (passed : List ℕ) → Passed now passed → (now ≡ true) ⊎ (input_size ≤ length left) → input_size ≤ length (passed ++ left)
    far passed is (inl e) = let long : input_size ≤ length passed = rw e at is in omega (arith, long, length-append passed left)
    far passed is (inr h) = omega (arith, h, length-append passed left)

-- there is a last line where some bytes of it are held or passed over
pub some_passed : (long : Bool) (passed left : List ℕ) → long ≡ true → Passed long passed → 0 < length (passed ++ left)
some_passed long passed left e is = let far : input_size ≤ length passed = rw e at is in omega (arith, far, length-append passed left)

pub some_held : (passed left : List ℕ) → 0 < length left → 0 < length (passed ++ left)
some_held passed left h = omega (arith, h, length-append passed left)

-- the last line, if there is one
pub no_last : (v : Option (List ℕ)) (b : Buffer) (long : Bool) (left : List ℕ) → long ≡ false → left ≡ [] → LastAnswered v b long left v b
no_last v b long left short none end passed is =
    let empty : passed ≡ [] = rw short at is in
    ([], [], rw (empty, none) (rw no_last_line refl), append-nil (take b.next b.bytes), Appends-nil v)

pub last_answered : (v : Option (List ℕ)) (b : Buffer) (long : Bool) (left : List ℕ) (w : Option (List ℕ)) (c : Buffer)
    → ((passed : List ℕ) → Passed long passed → 0 < length (passed ++ left)) → ((passed : List ℕ) → Passed long passed → LineAnswered v b (passed ++ left) w c)
    → LastAnswered v b long left w c
last_answered v b long left w c some answered none passed is =
    let a = answered passed is in
    let last = subst (λ (lines : List (List ℕ)). Answers lines (a.text ++ (10 ∷ []))) (sym (last_line passed left none (some passed is))) (a.text, [], a.is_text, refl, refl) in
    (a.text ++ (10 ∷ []), a.written, last, a.waits, a.taken)

-- one line alone
pub takes_answer : (line : List ℕ) (v w z : Option (List ℕ)) (b c : Buffer) → b.next ≡ 0 → LineAnswered v b line w c → Appends w z (take c.next c.bytes) → TakesAnswer line v z
takes_answer line v w z b c none a taken =
    let nothing : take b.next b.bytes ≡ [] = ap (λ (n : ℕ). take n b.bytes) none in
    let whole : a.written ++ take c.next c.bytes ≡ a.text ++ (10 ∷ []) = sym a.waits ∙ ap (λ (x : List ℕ). x ++ (a.text ++ (10 ∷ []))) nothing in
    (a.text ++ (10 ∷ []), (a.text, [], a.is_text, refl, refl), subst (Appends v z) whole (Appends-trans v w z a.written (take c.next c.bytes) a.taken taken))
