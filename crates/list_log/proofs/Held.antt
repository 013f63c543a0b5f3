-- Steps over the bytes held, one behind another, and piece after piece of a log that is read and listed.
-- Assumes nothing.
use Rattle.std.proofs.Common.{ℕ, suc, ◌+◌, ◌-◌, ◌≤◌, ◌<◌, add-zero, arith, ◌≡◌, refl, sym, ap, ◌∙◌, subst, ◌⊎◌, inl, inr, Bool, true, false, ◌&&◌, true≢false, List, [], ◌∷◌, ◌++◌, append_assoc, append-nil, ltb, leb, length, get_or, take, drop, length-drop, length-append, length-take-le, drop-drop, get_or-drop, ltb-true, ltb-false, leb-true, leb-false, le-leb}
use Rattle.std.specs.Prelude.{None, Some, Result, Ok, Err, IfErr}
use Rattle.std.specs.declared.option.Option.{Option}
use Rattle.std.specs.Io.KnownBytes.{Consumes, Keeps, Appends, IsAtEnd}
use Rattle.std.proofs.KnownBytes.{Appends-nil, Appends-trans, Consumes-nil, Consumes-trans, Consumes-kept}
use Rattle.felica_put.specs.declared.Output.{Output}
use Rattle.felica_put.specs.Output.{Puts, held}
use Rattle.felica_put.specs.Put.{Buffer}
use Rattle.felica_put.proofs.Laws.{put_room, put_taken, put_within, kept}
use Rattle.felica_totals.specs.declared.Totals.{Totals}
use Rattle.felica_totals.specs.Count.{no_totals}
use Rattle.felica_stream.specs.Held.{RoomMade}
use Rattle.felica_stream.specs.declared.failure.Failure.{Failure}
use Rattle.felica_stream.specs.declared.failure.Failure.TheVariants.{Read, Write}
use Rattle.felica_stream.proofs.Held.{room_length, waits_inside, room_made, still_waits}
use Rattle.felica_stream.proofs.Reading.{read_split}
use Rattle.felica_log.specs.declared.Stop.{Stop}
use Rattle.felica_log.specs.Listing.{max_records, records_left, listing_from, listing}
use Rattle.felica_log.specs.Step.{Reached, reached, lacks_room, line_room, room_for_line, step, end_text}
use Rattle.felica_log.specs.Rules.{lines, Sound, NoneLeft}
use Rattle.felica_log.proofs.Front.{front_whole}
use Rattle.felica_log.proofs.Rules.{end_listed_from, full_behind, step_lists, step_keeps, step_inside, sound_kept, none_left_behind, room_used}
use Rattle.felica_log.proofs.StepResult.{step_result}
use Rattle.list_log.specs.Held.{HasLineRoom, ListedUpTo, RestKept, ReadAndListed, WhereUnread, ReadToEnd, at_end, at_limit, too_long, AllRead, TakesListing, EndPut, over}

-- where room is made for a line
module _ {o p : Output ℕ} (made : RoomMade o p line_room) where
  pub line_room_made : HasLineRoom o → HasLineRoom p
  line_room_made h = record { inside = waits_inside made; line = omega (arith, room_length made, h.line) }

  pub line_fits : HasLineRoom o → room_for_line (held p) ≡ true
  line_fits h = le-leb line_room (length p.room.now - p.len) (omega (arith, room_made made h.line))

-- one step more
module _ (b : Buffer) (u : Totals) (piece : List ℕ) {out : Buffer} {v : Totals} {n : ℕ} {stop : Stop} (e : reached out v n stop ≡ step b u piece) where
  pub inside_after : (held : List ℕ) (used : ℕ) → piece ≡ drop used held → used ≤ length held → used + n ≤ length held
  inside_after held used is h =
      let step : n ≤ length piece = subst (λ (r : Reached). r.used ≤ length piece) (sym e) (step_inside b u piece).0 in
      omega (arith, step, ap length is ∙ length-drop used held, h)

  length_after : length out.bytes ≡ length b.bytes
  length_after =
      let puts = step_result (records_left u) b u 0 piece refl in
      ap (λ (r : Reached). length r.out.bytes) e ∙ ap (λ (c : Buffer). length c.bytes) puts.puts ∙ (kept b puts.text).long

  next_inside : b.next ≤ length b.bytes → out.next ≤ length out.bytes
  next_inside h = subst (λ (r : Reached). r.out.next ≤ length r.out.bytes) (sym e) ((step_inside b u piece).1 h)

  pub sound_after : Sound u → Sound v
  sound_after s = subst (λ (r : Reached). Sound r.totals) (sym e) (sound_kept b u piece s)

  pub none_after : (held : List ℕ) (used : ℕ) → piece ≡ drop used held → Sound u → lacks_room stop ≡ false → NoneLeft v (drop (used + n) held)
  none_after held used is s other =
      let none = none_left_behind b u piece s (subst (λ (r : Reached). lacks_room r.stop ≡ false) e other) in
      subst (NoneLeft v) (ap (drop n) is ∙ drop-drop n used held) (subst (λ (r : Reached). NoneLeft r.totals (drop r.used piece)) (sym e) none)

  pub some_used : room_for_line b ≡ true → lacks_room stop ≡ true → n ≡ 0 → ⊥
  some_used room lacks none = room_used b u piece room (subst (λ (r : Reached). lacks_room r.stop ≡ true) e lacks) (subst (λ (r : Reached). r.used ≡ 0) e none)

  pub listed_step : (w z : Option (List ℕ)) (t : Totals) (a : Buffer) (held : List ℕ) (used : ℕ) → piece ≡ drop used held → ListedUpTo w t a held z u b used → ListedUpTo w t a held z v out (used + n)
  listed_step w z t a held used is l = subst (λ (r : Reached). ListedUpTo w t a held z r.totals r.out (used + r.used)) (sym e) (record {
    lines = l.lines ++ lines b (step b u piece);
    written = l.written;
    lists = λ behind.
        l.lists behind
        ∙ ap (λ (x : List ℕ). l.lines ++ listing_from (records_left u) u (x ++ behind)) (sym is)
        ∙ ap (λ (x : List ℕ). l.lines ++ x) (step_lists b u piece behind)
        ∙ ap (λ (x : List ℕ). l.lines ++ (lines b (step b u piece) ++ listing_from (records_left (step b u piece).totals) (step b u piece).totals (x ++ behind)))
        (ap (drop (step b u piece).used) is ∙ drop-drop (step b u piece).used used held)
        ∙ sym (append_assoc l.lines (lines b (step b u piece)) _);
    waits =
        sym (append_assoc (take a.next a.bytes) l.lines (lines b (step b u piece)))
        ∙ ap (λ (x : List ℕ). x ++ lines b (step b u piece)) l.waits
        ∙ append_assoc l.written (take b.next b.bytes) (lines b (step b u piece))
        ∙ ap (λ (x : List ℕ). l.written ++ x) (sym (step_keeps b u piece).0);
    taken = l.taken;
  })

  -- the output has room for a line still
  pub room_after : {o p : Output ℕ} → b ≡ held o → out ≡ held p → HasLineRoom o → HasLineRoom p
  room_after {o} {p} is now h = record {
    inside = subst (λ (x : Buffer). x.next ≤ length x.bytes) now (next_inside (subst (λ (x : Buffer). x.next ≤ length x.bytes) (sym is) h.inside));
    line = omega (arith, ap (λ (x : Buffer). length x.bytes) is, ap (λ (x : Buffer). length x.bytes) now, length_after, h.line);
  }

-- where room is made, the writer takes what is written
pub listed_room : (v w z : Option (List ℕ)) (t : Totals) (a : Buffer) (bytes : List ℕ) (u : Totals) (used : ℕ) {o p : Output ℕ} → RoomMade o p line_room
    → Appends w z (take (o.len - p.len) o.room.now) → ListedUpTo v t a bytes w u (held o) used → ListedUpTo v t a bytes z u (held p) used
listed_room v w z t a bytes u used {o} {p} made more l = record {
  lines = l.lines;
  written = l.written ++ take (o.len - p.len) o.room.now;
  lists = l.lists;
  waits = l.waits ∙ ap (λ (x : List ℕ). l.written ++ x) (still_waits made) ∙ sym (append_assoc l.written (take (o.len - p.len) o.room.now) (take p.len p.room.now));
  taken = Appends-trans v w z l.written (take (o.len - p.len) o.room.now) l.taken more;
}

pub listed_start : (v : Option (List ℕ)) (t : Totals) (a : Buffer) (held : List ℕ) → ListedUpTo v t a held v t a 0
listed_start v t a held = record { lines = []; written = []; lists = λ behind. refl; waits = append-nil (take a.next a.bytes); taken = Appends-nil v }

pub none_kept : (v : Option (List ℕ)) (t : Totals) (a : Buffer) (held : List ℕ) (w : Option (List ℕ)) (u : Totals) (b : Buffer) (rest : List ℕ) → RestKept v t a held w u b rest → NoneLeft u rest
none_kept v t a held w u b rest (used, all, is) = subst (NoneLeft u) (sym is) all.1

-- behind what is put, there is room for a line still
pub room_still : {p q : Output ℕ} {text : List ℕ} → Puts p q text → HasLineRoom p → HasLineRoom q
room_still {p} {q} {text} puts h =
    record { inside = put_within _ _ _ puts.held h.inside; line = omega (arith, h.line, ap (λ (b : Buffer). length b.bytes) puts.held, (kept (held p) text).long) }

-- the lines behind the records stand whole behind what waits
module _ {o p q : Output ℕ} (text : List ℕ) (made : RoomMade o p line_room) (room : HasLineRoom o) (short : length text ≤ line_room) (puts : Puts p q text) where
  fits : p.len + length text ≤ length p.room.now
  fits = omega (arith, room_made made room.line, short)

  end_whole : take q.len q.room.now ≡ take p.len p.room.now ++ text
  end_whole = ap (λ (b : Buffer). take b.next b.bytes) puts.held ∙ put_taken text p.room.now p.len fits

  pub end_put : EndPut (held o) text q.room.now
  end_put =
      let far : q.len ≡ p.len + length text = ap (λ (b : Buffer). b.next) (puts.held ∙ put_room text p.room.now p.len fits) in
      let whole : take (p.len + length text) q.room.now ≡ take p.len p.room.now ++ text = ap (λ (k : ℕ). take k q.room.now) (sym far) ∙ end_whole in
      subst (λ (b : Buffer). take (b.next + length text) q.room.now ≡ take b.next b.bytes ++ text) made.held whole

  -- and the writer takes them, with what waits
  pub end_taken : (u v z : Option (List ℕ)) → Appends u v (take (o.len - p.len) o.room.now) → Appends v z (take q.len q.room.now) → Appends u z (take o.len o.room.now ++ text)
  end_taken u v z first second =
      let all = Appends-trans u v z (take (o.len - p.len) o.room.now) (take q.len q.room.now) first second in
      subst (Appends u z)
      (ap (λ (x : List ℕ). take (o.len - p.len) o.room.now ++ x) end_whole ∙ sym (append_assoc (take (o.len - p.len) o.room.now) (take p.len p.room.now) text)
      ∙ ap (λ (x : List ℕ). x ++ text) (sym (still_waits made)))
      all

-- what is left where none is: less than a record
rest_short : (t : Totals) (s : List ℕ) → NoneLeft t s → t.records < max_records → get_or s 0 0 < 256 → length s < 256
rest_short t [] none few byte = omega arith
rest_short t (x ∷ s) none few byte = go (leb x (length s)) refl
  where
    go : (whole : Bool) → leb x (length s) ≡ whole → suc (length s) < 256
    go true e = let full = none (take x s) (drop x s) (front_whole x s (leb-true _ _ e)) in absurd (omega (arith, full, few))
    go false e = omega (arith, leb-false x (length s) e, byte)

pub less_left : (t : Totals) (s : List ℕ) (k : ℕ) → NoneLeft t (drop k s) → k ≤ length s → get_or s k 0 < 256 → t.records < max_records → length s < k + 256
less_left t s k none inside byte few = omega (arith, rest_short t (drop k s) none few (rw (get_or-drop, add-zero) byte), length-drop k s)

-- while it goes on, less than a record is held
pub held_short : (ended : Bool) (t : Totals) (held : ℕ) → over ended t held ≡ false → (t.records < max_records → held < 256) → held < 256
unfolding over
held_short true t held e short = absurd (true≢false e)
held_short false t held e short = go (leb max_records t.records) refl (ltb 0 held) refl e
  where
    go : (full : Bool) → leb max_records t.records ≡ full → (some : Bool) → ltb 0 held ≡ some → (full && some) ≡ false → held < 256
    go true f true g e = absurd (true≢false e)
    go true f false g e = omega (arith, ltb-false 0 held g)
    go false f some g e = short (leb-false max_records t.records f)

-- nothing is read yet
pub read_none : (q v : Option (List ℕ)) (t : Totals) (o : Output ℕ) {bytes : List ℕ} → bytes ≡ [] → o.len ≡ 0 → t ≡ no_totals → ReadAndListed q q v v t (held o) bytes
unfolding listing
read_none q v t o none start e = record {
  log = [];
  written = [];
  lists = λ behind. rw (none, e, start) refl;
  given = Consumes-nil q;
  taken = Appends-nil v;
}

-- what waits is written
pub read_written : (q r v w z : Option (List ℕ)) (t : Totals) {o p : Output ℕ} {room : ℕ} (bytes : List ℕ) → RoomMade o p room → Appends w z (take (o.len - p.len) o.room.now)
    → (done : ReadAndListed q r v w t (held o) bytes) → (x : ReadAndListed q r v z t (held p) bytes) × (length x.log ≡ length done.log)
read_written q r v w z t {o} {p} bytes made more done =
    let written = take (o.len - p.len) o.room.now in (
      record {
        log = done.log;
        written = done.written ++ written;
        lists = λ behind.
            done.lists behind
            ∙ ap (λ (x : List ℕ). done.written ++ (x ++ listing_from (records_left t) t (bytes ++ behind))) (still_waits made)
            ∙ ap (λ (x : List ℕ). done.written ++ x) (append_assoc written (take p.len p.room.now) (listing_from (records_left t) t (bytes ++ behind)))
            ∙ sym (append_assoc done.written written (take p.len p.room.now ++ listing_from (records_left t) t (bytes ++ behind)));
        given = done.given;
        taken = Appends-trans v w z done.written written done.taken more;
      },
      refl,
    )

-- a read that fails takes nothing from the reader
pub read_failed : (q r s v w : Option (List ℕ)) (t : Totals) (c : Buffer) {before bytes : List ℕ} → Keeps r s → bytes ≡ before → ReadAndListed q r v w t c before → ReadAndListed q s v w t c bytes
read_failed q r s v w t c kept same done =
    rw same (record { log = done.log; written = done.written; lists = done.lists; given = Consumes-kept q r s done.log done.given kept; taken = done.taken })

pub where_unread : {A : Type 0} (r : Result A Failure) {P : Type 0} → P → IfErr r (λ (why : Failure). WhereUnread why P)
where_unread (Ok x) p = tt
where_unread (Err Read) p = p
where_unread (Err Write) p = tt

-- so many bytes more have been read than before
abbrev pub Longer : (q r v w : Option (List ℕ)) (t : Totals) (a : Buffer) (held : List ℕ) → ReadAndListed q r v w t a held → (p s y z : Option (List ℕ)) (u : Totals) (c : Buffer) (rest : List ℕ) → ℕ → Type 0
Longer q r v w t a held done p s y z u c rest n = (x : ReadAndListed p s y z u c rest) × (length x.log ≡ length done.log + n)

-- One more piece is read behind the bytes held, and they are listed with it.
pub read_turn : (q r s v w z : Option (List ℕ)) (t : Totals) (a : Buffer) (before input : List ℕ) (held more : ℕ) (u : Totals) (c : Buffer) (rest : List ℕ) → held ≤ more → more ≤ length input
    → take held input ≡ take held before → Consumes r s (drop held (take more input)) → (done : ReadAndListed q r v w t a (take held before)) → RestKept w t a (take more input) z u c rest → Longer q r v w t a (take held before) done q s v z u c rest (more - held)
read_turn q r s v w z t a before input held more u c rest h k same takes done (used, all, is) =
    let piece = drop held (take more input) in
    let l = all.0 in
    let split : take more input ≡ take held before ++ piece = read_split input held more h k ∙ ap (λ (x : List ℕ). x ++ piece) same in
    let next : List ℕ → List ℕ = λ behind. listing_from (records_left u) u (rest ++ behind) in
    let far : length piece ≡ more - held = rw (length-drop held (take more input), length-take-le more input k) refl in (
      record {
        log = done.log ++ piece;
        written = done.written ++ l.written;
        lists = λ behind.
            ap listing (append_assoc done.log piece behind) ∙ done.lists (piece ++ behind)
            ∙ ap (λ (x : List ℕ). done.written ++ (take a.next a.bytes ++ listing_from (records_left t) t x)) (sym (append_assoc (take held before) piece behind) ∙ ap (λ (x : List ℕ). x ++ behind) (sym split))
            ∙ ap (λ (x : List ℕ). done.written ++ (take a.next a.bytes ++ x)) (l.lists behind ∙ ap (λ (x : List ℕ). l.lines ++ listing_from (records_left u) u (x ++ behind)) (sym is))
            ∙ ap (λ (x : List ℕ). done.written ++ x) (sym (append_assoc (take a.next a.bytes) l.lines (next behind)) ∙ ap (λ (x : List ℕ). x ++ next behind) l.waits ∙ append_assoc l.written (take c.next c.bytes) (next behind))
            ∙ sym (append_assoc done.written l.written (take c.next c.bytes ++ next behind));
        given = Consumes-trans q r s done.log piece done.given takes;
        taken = Appends-trans v w z done.written l.written done.taken l.taken;
      },
      length-append done.log piece ∙ ap (λ (n : ℕ). length done.log + n) far,
    )

-- why nothing more is to be read
over_why : (ended : Bool) (t : Totals) (held : ℕ) → over ended t held ≡ true → (ended ≡ true) ⊎ ((max_records ≤ t.records) × (0 < held))
unfolding over
over_why true t held e = inl refl
over_why false t held e = inr (both (leb max_records t.records) refl (ltb 0 held) refl e)
  where
    both : (full : Bool) → leb max_records t.records ≡ full → (some : Bool) → ltb 0 held ≡ some → (full && some) ≡ true → (max_records ≤ t.records) × (0 < held)
    both true f true g e = (leb-true max_records t.records f, ltb-true 0 held g)
    both true f false g e = absurd (true≢false (sym e))
    both false f some g e = absurd (true≢false (sym e))

pub goes_on : (ended : Bool) (t : Totals) (held : ℕ) → over ended t held ≡ false → ended ≡ false
unfolding over
goes_on true t held e = absurd (true≢false e)
goes_on false t held e = refl

pub all_read_once_over : (q r v w : Option (List ℕ)) (t : Totals) (c : Buffer) (rest : List ℕ) (ended : Bool) (n : ℕ) → over ended t n ≡ true → n ≡ length rest
    → (ended ≡ true → IsAtEnd r) → ReadAndListed q r v w t c rest → AllRead q r v w t c rest
all_read_once_over q r v w t c rest ended n e long end x = (x, go (over_why ended t n e))
  where
    go : (ended ≡ true) ⊎ ((max_records ≤ t.records) × (0 < n)) → ReadToEnd r t rest x.log
    go (inl is) = at_end (end is)
    go (inr full) = at_limit full.0 (omega (arith, full.1, long))

-- Where all is read and what waits and the last lines are taken, the listing of the log is.
module _ (xs r : List ℕ) (v w z : Option (List ℕ)) (t : Totals) (c : Buffer) (held : List ℕ) (none : NoneLeft t held) (x : ReadAndListed (Some xs) (Some r) v w t c held) where
  whole : ReadToEnd (Some r) t held x.log → length xs < 18446744073709551615 → listing xs ≡ x.written ++ (take c.next c.bytes ++ end_text t held)
  whole (at_end e) short =
      ap listing (x.given ∙ ap (λ (y : List ℕ). x.log ++ y) e) ∙ x.lists []
      ∙ ap (λ (y : List ℕ). x.written ++ (take c.next c.bytes ++ listing_from (records_left t) t y)) (append-nil held)
      ∙ ap (λ (y : List ℕ). x.written ++ (take c.next c.bytes ++ y)) (end_listed_from t (records_left t) held refl none)
  whole (at_limit full some) short =
      let byte = λ (e : held ≡ []). let none : length held ≡ 0 = ap length e in absurd (omega arith) in
      ap listing x.given ∙ x.lists r ∙ ap (λ (y : List ℕ). x.written ++ (take c.next c.bytes ++ y)) (full_behind t held r full byte)
  whole (too_long h) short = absurd (omega (arith, h, short, ap length x.given, length-append x.log r))

pub takes_listing : (q r v w z : Option (List ℕ)) (t : Totals) (c : Buffer) (held : List ℕ) → NoneLeft t held → AllRead q r v w t c held → Appends w z (take c.next c.bytes ++ end_text t held)
    → TakesListing q v z
takes_listing None r v w z t c held none all last = tt
takes_listing (Some xs) None v w z t c held none (x, all) last = absurd x.given
takes_listing (Some xs) (Some r) v w z t c held none (x, all) last = λ short.
    subst (Appends v z) (sym (whole xs r v w z t c held none x all short)) (Appends-trans v w z x.written (take c.next c.bytes ++ end_text t held) x.taken last)
