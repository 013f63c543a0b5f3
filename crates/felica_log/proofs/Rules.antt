-- The statements of specs/Rules.antt, each proved under its name.
-- Assumes nothing.
use Rattle.std.proofs.Common.{ℕ, zero, suc, ◌+◌, ◌-◌, ◌≤◌, ◌<◌, ◌^◌, arith, ◌≡◌, refl, sym, ap, ◌∙◌, subst, ◌⊎◌, inl, inr, Bool, true, false, cond, true≢false, List, [], ◌∷◌, ◌++◌, append_assoc, append-nil, leb, length, get_or, take, drop, length-append, length-take-le, lt-ltb}
use Rattle.std.proofs.Math.Seq.{take-append_seam, drop-append_seam}
use Rattle.felica_format.specs.Read.{read_frame}
use Rattle.felica_format.proofs.Tests.{and_both}
use Rattle.felica_put.specs.Put.{Buffer, put}
use Rattle.felica_put.proofs.Laws.{put_room, put_taken, kept}
use Rattle.felica_totals.specs.declared.Totals.{Totals}
use Rattle.felica_totals.specs.Count.{has_room}
use Rattle.felica_text.proofs.Text.{decimal_length}
use Rattle.felica_line.specs.Line.{record_line}
use Rattle.felica_log.specs.Listing.{Front, nothing, cut_by, frame_then, front, at_front, cut_line, total_line, counted_as, records_left}
use Rattle.felica_log.specs.Listing.{listing_from, listing}
use Rattle.felica_log.specs.declared.Stop.{Stop}
use Rattle.felica_log.specs.declared.Stop.TheVariants.{AtEnd, AtLimit, AtCut, NoRoom, TotalsFull}
use Rattle.felica_log.specs.Step.{lacks_room, line_room, room_in, max_blocks, room_for_line, step, rest_line, end_text}
use Rattle.felica_log.specs.Rules.{lines, StepLists, StepKeeps, StepInside, Stopped, StopsExactly, SoundStart, SoundKept, SoundRoom, NoneLeft, NothingLeftOver, NoneLeftBehind, RoomUsed, EndFits}
use Rattle.felica_log.specs.Rules.{reads, steps, after, all_read, PiecesListed, EndListed, FullListed}
use Rattle.felica_log.proofs.Front.{none_left}
use Rattle.felica_log.proofs.StepResult.{StepResult, step_result}

-- a text that found room stands where it was put, and what lies before and behind it is as it was
between : (b : Buffer) (text : List ℕ) → (b.next + length text ≤ length b.bytes) ⊎ (text ≡ []) → take ((put b text).next - b.next) (drop b.next (put b text).bytes) ≡ text
unfolding put
between b text (inl h) =
    let is = put_room text b.bytes b.next h in
    let front : length (take b.next b.bytes) ≡ b.next = length-take-le b.next b.bytes (omega arith) in
    let behind = drop (b.next + length text) b.bytes in
    let long : b.next + length text - b.next ≡ length text = omega arith in
    let there : drop b.next (take b.next b.bytes ++ text ++ behind) ≡ text ++ behind =
    ap (drop b.next) (append_assoc (take b.next b.bytes) text behind)
    ∙ ap (λ (n : ℕ). drop n (take b.next b.bytes ++ (text ++ behind))) (sym front)
    ∙ drop-append_seam (take b.next b.bytes) (text ++ behind) in
    ap (λ (x : Buffer). take (x.next - b.next) (drop b.next x.bytes)) is ∙ rw (long, there) (take-append_seam text behind)
between b text (inr e) = let none : b.next - b.next ≡ 0 = omega arith in rw (e, none)

up_to : (b : Buffer) (text : List ℕ) → (b.next + length text ≤ length b.bytes) ⊎ (text ≡ []) → take (put b text).next (put b text).bytes ≡ take b.next b.bytes ++ text
unfolding put
up_to b text (inl h) = put_taken text b.bytes b.next h
up_to b text (inr e) = rw (e, append-nil (take b.next b.bytes))

module _ (b : Buffer) (t : Totals) (piece : List ℕ) where
  result : StepResult b t 0 piece (step b t piece)
  result = step_result (records_left t) b t 0 piece refl

  used_far : (step b t piece).used ≡ result.far
  used_far = result.uses ∙ omega arith

  text_of_lines : lines b (step b t piece) ≡ result.text
  text_of_lines = ap (λ (x : Buffer). take (x.next - b.next) (drop b.next x.bytes)) result.puts ∙ between b result.text result.room

pub step_lists : StepLists
step_lists b t piece behind =
    let c = result b t piece in
    c.lists behind
    ∙ ap (λ (x : List ℕ). x ++ listing_from (records_left (step b t piece).totals) (step b t piece).totals (drop c.far piece ++ behind)) (sym (text_of_lines b t piece))
    ∙ ap (λ (n : ℕ). lines b (step b t piece) ++ listing_from (records_left (step b t piece).totals) (step b t piece).totals (drop n piece ++ behind)) (sym (used_far b t piece))

pub step_keeps : StepKeeps
step_keeps b t piece =
    let c = result b t piece in (
      ap (λ (x : Buffer). take x.next x.bytes) c.puts ∙ up_to b c.text c.room ∙ ap (λ (x : List ℕ). take b.next b.bytes ++ x) (sym (text_of_lines b t piece)),
      subst (λ (x : Buffer). drop x.next x.bytes ≡ drop x.next b.bytes) (sym c.puts) ((kept b c.text).behind (put b c.text).next (omega arith)),
    )

pub step_inside : StepInside
step_inside b t piece =
    let c = result b t piece in (
      omega (arith, c.inside, used_far b t piece),
      λ h. subst (λ (x : Buffer). x.next ≤ length x.bytes) (sym c.puts) ((kept b c.text).within h),
    )

pub stops_exactly : StopsExactly
stops_exactly b t piece =
    subst (λ (n : ℕ). Stopped (step b t piece).stop (room_in (step b t piece).out) (step b t piece).totals (drop n piece)) (sym (used_far b t piece)) (result b t piece).stopped

pub sound_start : SoundStart
sound_start = record { few = omega arith; records = omega arith; blocks = omega arith }

pub sound_kept : SoundKept
sound_kept b t piece = (result b t piece).sound

pub sound_room : SoundRoom
unfolding has_room
sound_room t s =
    and_both (lt-ltb (t.records + 1) (2 ^ 64) (omega (arith, s.few)))
    (and_both (lt-ltb (t.accepted + 1) (2 ^ 64) (omega (arith, s.few, s.records)))
    (and_both (lt-ltb (t.refused + 1) (2 ^ 64) (omega (arith, s.few, s.records)))
    (lt-ltb (t.blocks + 255) (2 ^ 64) (omega (arith, s.few, s.records, s.blocks)))))

nothing_whole : {frame rest : List ℕ} → nothing ≡ frame_then frame rest → ⊥
nothing_whole e = let z : ◌≡◌ {A = ℕ} 0 1 = cc in omega arith

cut_whole : {missing : ℕ} {frame rest : List ℕ} → cut_by missing ≡ frame_then frame rest → ⊥
cut_whole e = let z : ◌≡◌ {A = ℕ} 0 1 = cc in omega arith

pub nothing_left_over : NothingLeftOver
unfolding front
nothing_left_over t [] h frame rest e = absurd (nothing_whole e)
nothing_left_over t (x ∷ s) h frame rest e = absurd (omega arith)

stop_none : (stop : Stop) (space : ℕ) (t : Totals) (rest : List ℕ) → Stopped stop space t rest → lacks_room stop ≡ false → has_room t max_blocks ≡ true → NoneLeft t rest
stop_none AtEnd space t rest none other totals frame r e = nothing_left_over t rest (ap length none) frame r e
stop_none AtLimit space t rest (full, some) other totals frame r e = full
stop_none AtCut space t rest (few, (missing, cut)) other totals frame r e = absurd (cut_whole (sym cut ∙ e))
stop_none NoRoom space t rest short other totals frame r e = absurd (true≢false other)
stop_none TotalsFull space t rest (whole, room, none) other totals frame r e = absurd (true≢false (sym totals ∙ none))

pub none_left_behind : NoneLeftBehind
none_left_behind b t piece s other =
    let r = step b t piece in
    stop_none r.stop (room_in r.out) r.totals (drop r.used piece) (stops_exactly b t piece) other (sound_room r.totals (sound_kept b t piece s))

stop_short : (stop : Stop) (space : ℕ) (t : Totals) (rest : List ℕ) → Stopped stop space t rest → lacks_room stop ≡ true → leb line_room space ≡ false
stop_short AtEnd space t rest none lacks = absurd (true≢false (sym lacks))
stop_short AtLimit space t rest none lacks = absurd (true≢false (sym lacks))
stop_short AtCut space t rest none lacks = absurd (true≢false (sym lacks))
stop_short NoRoom space t rest (whole, short) lacks = short
stop_short TotalsFull space t rest none lacks = absurd (true≢false (sym lacks))

pub room_used : RoomUsed
room_used b t piece room lacks e =
    let r = step b t piece in
    let still = (result b t piece).still (sym (used_far b t piece) ∙ e) in
    true≢false (sym room ∙ ap room_for_line (sym still) ∙ stop_short r.stop (room_in r.out) r.totals (drop r.used piece) (stops_exactly b t piece) lacks)

cut_length : (missing : ℕ) → missing < 256 → length (cut_line missing) ≤ 8
cut_length missing h = let digits = decimal_length 2 missing (omega arith) in simp length-append (omega arith)

rest_length : (n : ℕ) (rest : List ℕ) → get_or rest 0 0 < 256 → length (rest_line n rest) ≤ 8
unfolding front
rest_length zero [] small = omega arith
rest_length zero (x ∷ s) small = omega arith
rest_length (suc n) [] small = omega arith
rest_length (suc n) (x ∷ s) small = go (leb x (length s))
  where
    go : (whole : Bool) → length (at_front (cond whole (frame_then (take x s) (drop x s)) (cut_by (x - length s))) [] cut_line (λ frame rest. [])) ≤ 8
    go true = omega arith
    go false = cut_length (x - length s) (omega (arith, small))

pub end_fits : EndFits
unfolding end_text total_line
end_fits t rest s small =
    let before = rest_length (records_left t) rest small in
    let records = decimal_length 6 t.records (omega (arith, s.few)) in
    let accepted = decimal_length 6 t.accepted (omega (arith, s.few, s.records)) in
    let refused = decimal_length 6 t.refused (omega (arith, s.few, s.records)) in
    let blocks = decimal_length 8 t.blocks (omega (arith, s.few, s.records, s.blocks)) in
    simp length-append (omega arith)

pub pieces_listed : PiecesListed
unfolding listing
pieces_listed [] behind = refl
pieces_listed (reads piece ∷ done) behind =
    let s = after done in
    ap listing (append_assoc (all_read done) piece behind) ∙ pieces_listed done (piece ++ behind)
    ∙ ap (λ (x : List ℕ). s.written ++ listing_from (records_left s.totals) s.totals x) (sym (append_assoc s.held piece behind))
pieces_listed (steps b ∷ done) behind =
    let s = after done in
    pieces_listed done behind ∙ ap (λ (x : List ℕ). s.written ++ x) (step_lists b s.totals s.held behind) ∙ sym (append_assoc s.written (lines b (step b s.totals s.held)) _)

-- the lines behind the records, where none is left to be read
pub end_listed_from : (t : Totals) (n : ℕ) (s : List ℕ) → records_left t ≡ n → NoneLeft t s
    → listing_from (records_left t) t s ≡ end_text t s
unfolding listing_from end_text
end_listed_from t zero s left none = rw left
end_listed_from t (suc n) s left none = rw left (go (front s) refl)
  where
    go : (f : Front) → front s ≡ f
        → at_front f (total_line t) (λ missing. cut_line missing ++ total_line t) (λ frame rest. record_line (t.records + 1) (read_frame frame) ++ listing_from n (counted_as t (read_frame frame)) rest)
        ≡ at_front f [] cut_line (λ frame rest. []) ++ total_line t
    go nothing e = refl
    go (cut_by missing) e = refl
    go (frame_then frame rest) e = let full = none frame rest e in absurd (omega arith)

pub end_listed : EndListed
end_listed actions none =
    let s = after actions in
    ap listing (sym (append-nil (all_read actions))) ∙ pieces_listed actions []
    ∙ ap (λ (x : List ℕ). s.written ++ listing_from (records_left s.totals) s.totals x) (append-nil s.held)
    ∙ ap (λ (x : List ℕ). s.written ++ x) (end_listed_from s.totals (records_left s.totals) s.held refl none)

-- and where no more records may be read, whatever follows
pub full_behind : (t : Totals) (s behind : List ℕ) → 1000000 ≤ t.records → (s ≡ [] → ⊥) → listing_from (records_left t) t (s ++ behind) ≡ end_text t s
unfolding listing_from end_text
full_behind t [] behind full some = absurd (some refl)
full_behind t (x ∷ s) behind full some = rw (none_left t full)

pub full_listed : FullListed
full_listed actions behind full some =
    let s = after actions in
    pieces_listed actions behind ∙ ap (λ (x : List ℕ). s.written ++ x) (full_behind s.totals s.held behind full some)
