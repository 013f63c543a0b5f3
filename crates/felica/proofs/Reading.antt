-- Piece after piece is read, and its lines are answered.
-- Assumes nothing.
use Rattle.std.proofs.Common.{ℕ, ◌+◌, ◌-◌, ◌≤◌, ◌≡◌, refl, sym, ap, ◌∙◌, subst, arith, Bool, false, List, [], ◌++◌, append_assoc, append-nil, length, take, drop, length-append, length-drop, length-take-le}
use Rattle.std.specs.Prelude.{Option, None, Some}
use Rattle.std.specs.Io.KnownBytes.{Consumes, Appends}
use Rattle.std.proofs.KnownBytes.{Appends-nil, Appends-trans, Consumes-nil, Consumes-trans}
use Rattle.felica_put.specs.declared.Output.{Output}
use Rattle.felica_put.specs.Output.{held}
use Rattle.felica_put.specs.Put.{Buffer}
use Rattle.felica_stream.specs.Held.{RoomMade}
use Rattle.felica_stream.proofs.Held.{still_waits}
use Rattle.felica_stream.proofs.Reading.{read_split}
use Rattle.felica.specs.Lines.{lines_from, lines_of, Answers, TakesAnswers}
use Rattle.felica.specs.Held.{AllAnswered, ReadAndAnswered, at_end, too_long, AllRead, LastAnswered}

-- nothing is read yet
pub read_none : (q v : Option (List ℕ)) (o : Output ℕ) (long : Bool) {bytes : List ℕ} → bytes ≡ [] → long ≡ false → o.len ≡ 0 → ReadAndAnswered q q v v (held o) long bytes
read_none q v o long none short start = record {
  input = [];
  written = [];
  passed = [];
  is_passed = rw short refl;
  answers = λ behind rest answers. rw start (rw none at answers);
  given = Consumes-nil q;
  taken = Appends-nil v;
}

-- what waits is written
pub read_written : (q r v w z : Option (List ℕ)) {o p : Output ℕ} {room : ℕ} (long : Bool) (s : List ℕ) → RoomMade o p room → Appends w z (take (o.len - p.len) o.room.now)
    → (done : ReadAndAnswered q r v w (held o) long s) → (x : ReadAndAnswered q r v z (held p) long s) × (length x.input ≡ length done.input)
read_written q r v w z {o} {p} long s made more done =
    let written = take (o.len - p.len) o.room.now in (
      record {
        input = done.input;
        written = done.written ++ written;
        passed = done.passed;
        is_passed = done.is_passed;
        answers = λ behind rest answers.
            subst (Answers (lines_of (done.input ++ behind)))
            (ap (λ (x : List ℕ). done.written ++ (x ++ rest)) (still_waits made)
            ∙ ap (λ (x : List ℕ). done.written ++ x) (append_assoc written (take p.len p.room.now) rest)
            ∙ sym (append_assoc done.written written (take p.len p.room.now ++ rest)))
            (done.answers behind rest answers);
        given = done.given;
        taken = Appends-trans v w z done.written written done.taken more;
      },
      refl,
    )

-- One more piece is read behind the bytes held, and the lines that end with it are answered.
pub read_turn : (q r s v w z : Option (List ℕ)) (a : Buffer) (long : Bool) (before room : List ℕ) (end more : ℕ) (c : Buffer) (now : Bool) (left : List ℕ) → end ≤ more → more ≤ length room
    → take end room ≡ take end before → Consumes r s (drop end (take more room)) → (done : ReadAndAnswered q r v w a long (take end before)) → AllAnswered w a long (take more room) z c now left
    → (x : ReadAndAnswered q s v z c now left) × (length x.input ≡ length done.input + (more - end))
read_turn q r s v w z a long before room end more c now left h k same takes done all =
    let piece = drop end (take more room) in
    let split : take more room ≡ take end before ++ piece = read_split room end more h k ∙ ap (λ (x : List ℕ). x ++ piece) same in
    let next = all.1 done.passed done.is_passed in
    let l = next.2 in
    let far : length piece ≡ more - end = rw (length-drop end (take more room), length-take-le more room k) refl in (
      record {
        input = done.input ++ piece;
        written = done.written ++ l.written;
        passed = next.0;
        is_passed = next.1;
        answers = λ behind rest answers.
            let step = l.answers behind rest answers in
            let whole = subst (λ (x : List ℕ). Answers (lines_from done.passed x) (l.texts ++ rest)) (ap (λ (x : List ℕ). x ++ behind) split ∙ append_assoc (take end before) piece behind) step in
            let ends =
            ap (λ (x : List ℕ). done.written ++ x) (sym (append_assoc (take a.next a.bytes) l.texts rest) ∙ ap (λ (x : List ℕ). x ++ rest) l.waits ∙ append_assoc l.written (take c.next c.bytes) rest)
            ∙ sym (append_assoc done.written l.written (take c.next c.bytes ++ rest)) in
            subst (Answers (lines_of ((done.input ++ piece) ++ behind))) ends
            (subst (λ (x : List ℕ). Answers (lines_of x) (done.written ++ (take a.next a.bytes ++ (l.texts ++ rest)))) (sym (append_assoc done.input piece behind))
            (done.answers (piece ++ behind) (l.texts ++ rest) whole));
        given = Consumes-trans q r s done.input piece done.given takes;
        taken = Appends-trans v w z done.written l.written done.taken l.taken;
      },
      length-append done.input piece ∙ ap (λ (n : ℕ). length done.input + n) far,
    )

-- Where all is read and the last line is answered, and what waits then is taken, the answers to the input are.
pub takes_answers : (q r v w z y : Option (List ℕ)) (c : Buffer) (long : Bool) (left : List ℕ) (d : Buffer) → AllRead q r v w c long left → LastAnswered w c long left z d
    → Appends z y (take d.next d.bytes) → TakesAnswers q v y
takes_answers None r v w z y c long left d all last taken = tt
takes_answers (Some xs) None v w z y c long left d (none, (x, end)) last taken = absurd x.given
takes_answers (Some xs) (Some r) v w z y c long left d (none, (x, too_long h)) last taken = λ short. absurd (omega (arith, h, short, ap length x.given, length-append x.input r))
takes_answers (Some xs) (Some r) v w z y c long left d (none, (x, at_end e)) last taken = λ short.
    let l = last none x.passed x.is_passed in
    let whole : x.input ++ [] ≡ xs = ap (λ (r : List ℕ). x.input ++ r) (sym e) ∙ sym x.given in
    let answers = x.answers [] l.0 (subst (λ (s : List ℕ). Answers (lines_from x.passed s) l.0) (sym (append-nil left)) l.2) in (
      x.written ++ (take c.next c.bytes ++ l.0),
      subst (λ (s : List ℕ). Answers (lines_of s) (x.written ++ (take c.next c.bytes ++ l.0))) whole answers,
      Appends-trans v w y x.written (take c.next c.bytes ++ l.0) x.taken
          (subst (Appends w y) (sym l.3) (Appends-trans w z y l.1 (take d.next d.bytes) l.4 taken)),
    )
