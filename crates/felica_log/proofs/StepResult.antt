-- What a step has done where it stopped: the text that it put, the bytes that it listed, and what holds there. One induction over the records that may be read.
-- Assumes nothing.
use Rattle.std.proofs.Common.{ℕ, zero, suc, ◌+◌, ◌≤◌, ◌<◌, add_comm, arith, ◌≡◌, refl, sym, ap, ◌∙◌, subst, ◌⊎◌, inl, inr, Bool, true, false, List, [], ◌++◌, append_assoc, append-nil, length, take, drop, length-append, length-drop, drop-drop, leb-true, Result, Ok, Err}
use Rattle.std.proofs.lemmas.List.{take-append-le, drop-append-le}
use Rattle.felica_format.specs.Read.{read_frame}
use Rattle.felica_put.specs.Put.{Buffer, put}
use Rattle.felica_put.proofs.Laws.{put_append, put_room, kept}
use Rattle.felica_totals.specs.declared.Totals.{Totals}
use Rattle.felica_totals.specs.Count.{counted}
use Rattle.felica_line.specs.Line.{record_line, is_accepted, blocks_in}
use Rattle.felica_line.proofs.Bounds.{blocks_few, line_length}
use Rattle.felica_log.specs.declared.Stop.{Stop}
use Rattle.felica_log.specs.Listing.{counted_as, records_left, listing_from}
use Rattle.felica_log.specs.Step.{Reached, reached, line_room, room_in, step_from}
use Rattle.felica_log.specs.Rules.{Stopped, Sound}
use Rattle.felica_log.specs.Ahead.{ahead_of}
use Rattle.felica_log.proofs.Front.{front_whole, one_left}
use Rattle.felica_log.proofs.Turn.{Lists, frame_ahead, stop_ahead, counted_frame, counted_records, step_stopped, step_listed}

-- one more record in the listing of any log that goes on with s
listing_next : (t : Totals) (s behind : List ℕ) (space size : ℕ) → Lists s space t size
    → listing_from (records_left t) t (s ++ behind)
    ≡ record_line (t.records + 1) (read_frame (take size (drop 1 s)))
    ++ listing_from (records_left (counted_as t (read_frame (take size (drop 1 s))))) (counted_as t (read_frame (take size (drop 1 s)))) (drop (size + 1) s ++ behind)
unfolding listing_from
listing_next t s behind space size l =
    let rest = drop 1 s in
    let long : size ≤ length rest = omega (arith, l.whole, ap length l.is) in
    let more : size ≤ length (rest ++ behind) = rw (length-append rest behind) (omega arith) in
    let left = counted_records t (is_accepted (read_frame (take size rest))) (blocks_in (read_frame (take size rest))) in
    let behind_it : drop (size + 1) s ≡ drop size rest = ap (λ (n : ℕ). drop n s) (add_comm size 1) ∙ sym (drop-drop size 1 s) in
    ap (λ (m : List ℕ). listing_from (records_left t) t (m ++ behind)) l.is
    ∙ rw (one_left t l.few, front_whole size (rest ++ behind) more, take-append-le size rest behind long, drop-append-le size rest behind long, left, behind_it)

counted_sound : (t : Totals) (frame : List ℕ) → t.records < 1000000 → Sound t → Sound (counted_as t (read_frame frame))
counted_sound t frame few s = go (is_accepted (read_frame frame)) (blocks_in (read_frame frame)) (blocks_few frame)
  where
    go : (accepted : Bool) (blocks : ℕ) → blocks ≤ 255 → Sound (counted t accepted blocks)
    go true blocks h = record { few = omega (arith, few); records = omega (arith, s.records); blocks = omega (arith, s.blocks, h) }
    go false blocks h = record { few = omega (arith, few); records = omega (arith, s.records); blocks = s.blocks }

pub record StepResult (b : Buffer) (t : Totals) (used : ℕ) (s : List ℕ) (r : Reached) : Type 0 where
  pub text : List ℕ
  pub far : ℕ
  pub puts : r.out ≡ put b text
  pub room : (b.next + length text ≤ length b.bytes) ⊎ (text ≡ [])
  pub uses : r.used ≡ used + far
  pub inside : far ≤ length s
  pub still : far ≡ 0 → r.out ≡ b
  pub lists : (behind : List ℕ) → listing_from (records_left t) t (s ++ behind) ≡ text ++ listing_from (records_left r.totals) r.totals (drop far s ++ behind)
  pub stopped : Stopped r.stop (room_in r.out) r.totals (drop far s)
  pub sound : Sound t → Sound r.totals

stopped_here : (b : Buffer) (t : Totals) (used : ℕ) (s : List ℕ) {stop : Stop} → ahead_of s (room_in b) t ≡ Err stop → StepResult b t used s (reached b t used stop)
unfolding put
stopped_here b t used s e = record {
  text = [];
  far = 0;
  puts = refl;
  room = inr refl;
  uses = omega arith;
  inside = omega arith;
  still = λ e. refl;
  lists = λ behind. refl;
  stopped = stop_ahead s (room_in b) t e;
  sound = λ h. h;
}

-- the room for a line and for what a step puts behind it
room_both : (b : Buffer) (line text : List ℕ) → length line ≤ line_room → line_room ≤ room_in b
    → ((put b line).next + length text ≤ length (put b line).bytes) ⊎ (text ≡ []) → b.next + length (line ++ text) ≤ length b.bytes
room_both b line text short space (inl h) =
    let fits : b.next + length line ≤ length b.bytes = omega arith in
    let next : (put b line).next ≡ b.next + length line = ap (λ (x : Buffer). x.next) (put_room line b.bytes b.next fits) in
    let long : length (put b line).bytes ≡ length b.bytes = (kept b line).long in
    rw (length-append line text) (omega (arith, h, next, long))
room_both b line text short space (inr e) = rw (e, append-nil line) (omega arith)

-- one more record, and the result of the step behind it
one_more : (b : Buffer) (t : Totals) (used : ℕ) (s : List ℕ) (size : ℕ) {r : Reached} → Lists s (room_in b) t size
    → StepResult (put b (record_line (t.records + 1) (read_frame (take size (drop 1 s))))) (counted_as t (read_frame (take size (drop 1 s)))) (used + (size + 1)) (drop (size + 1) s) r
    → StepResult b t used s r
one_more b t used s size {r} l rest =
    let frame = take size (drop 1 s) in
    let line = record_line (t.records + 1) (read_frame frame) in
    let few = l.few in
    let there = drop-drop rest.far (size + 1) s in
    record {
      text = line ++ rest.text;
      far = size + 1 + rest.far;
      puts = rest.puts ∙ sym (put_append b line rest.text);
      room = inl (room_both b line rest.text (line_length (t.records + 1) frame (omega (arith, few))) (leb-true line_room (room_in b) l.line) rest.room);
      uses = rest.uses ∙ omega arith;
      inside = omega (arith, rest.inside, length-drop (size + 1) s, l.whole);
      still = λ e. absurd (omega arith);
      lists = λ behind.
          listing_next t s behind _ size l ∙ ap (λ (x : List ℕ). line ++ x) (rest.lists behind ∙ ap (λ (x : List ℕ). rest.text ++ listing_from (records_left r.totals) r.totals (x ++ behind)) there)
          ∙ sym (append_assoc line rest.text _);
      stopped = subst (Stopped r.stop (room_in r.out) r.totals) there rest.stopped;
      sound = λ h. rest.sound (counted_sound t frame few h);
    }

one_less : (t : Totals) (frame : List ℕ) (n : ℕ) → records_left t ≡ suc n → records_left (counted_as t (read_frame frame)) ≡ n
one_less t frame n e = counted_records t (is_accepted (read_frame frame)) (blocks_in (read_frame frame)) ∙ omega arith

pub step_result : (n : ℕ) (b : Buffer) (t : Totals) (used : ℕ) (s : List ℕ) → records_left t ≡ n → StepResult b t used s (step_from (records_left t) b t used s)
step_result zero b t used s left = go (ahead_of s (room_in b) t) refl
  where
    go : (a : Result ℕ Stop) → ahead_of s (room_in b) t ≡ a → StepResult b t used s (step_from (records_left t) b t used s)
    go (Err stop) e = subst (StepResult b t used s) (sym (step_stopped b t used s e)) (stopped_here b t used s e)
    go (Ok size) e = let few = (frame_ahead s (room_in b) t e).few in absurd (omega arith)
step_result (suc n) b t used s left = go (ahead_of s (room_in b) t) refl (λ c u k l. step_result n c u k l)
  where
    go : (a : Result ℕ Stop) → ahead_of s (room_in b) t ≡ a
        → ((c : Buffer) (u : Totals) (k : ℕ) (l : List ℕ) → records_left u ≡ n → StepResult c u k l (step_from (records_left u) c u k l))
        → StepResult b t used s (step_from (records_left t) b t used s)
    go (Err stop) e later = subst (StepResult b t used s) (sym (step_stopped b t used s e)) (stopped_here b t used s e)
    go (Ok size) e later =
        let l = frame_ahead s (room_in b) t e in
        let frame = take size (drop 1 s) in
        let u = counted_as t (read_frame frame) in
        subst (StepResult b t used s) (sym (step_listed b t used s size l refl (sym (counted_frame t frame l.counts))))
        (one_more b t used s size l (later (put b (record_line (t.records + 1) (read_frame frame))) u (used + (size + 1)) (drop (size + 1) s) (one_less t frame n left)))
