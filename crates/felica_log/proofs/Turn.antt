-- A turn of the loop that lists a piece: what stands ahead decides whether the step stops or lists one more record.
-- Assumes nothing.
use Rattle.std.proofs.Common.{ℕ, zero, suc, ◌+◌, ◌-◌, ◌≤◌, ◌<◌, ◌^◌, add_comm, add-one, arith, ◌≡◌, refl, sym, ap, ◌∙◌, subst, Bool, true, false, cond, List, [], ◌∷◌, ltb, leb, length, get_or, take, drop, length-drop, length-take-le, drop-drop, ltb-true, ltb-false, leb-true, leb-false, lt-ltb, le-leb, Result, Ok, Err}
use Rattle.std.proofs.lemmas.Bool.{lt-leb}
use Rattle.std.specs.declared.option.Option.{Option}
use Rattle.felica_format.specs.Read.{Answer as Reading, gives, refused, read_frame}
use Rattle.felica_format.proofs.Tests.{and_both}
use Rattle.felica_put.specs.Put.{Buffer, put}
use Rattle.felica_put.proofs.Laws.{take_rest}
use Rattle.felica_totals.specs.declared.Totals.{Totals}
use Rattle.felica_totals.specs.Count.{counted, has_room, counted_within, counted_record}
use Rattle.felica_totals.proofs.Room.{room, counted_with_room}
use Rattle.felica_line.specs.Line.{record_line, is_accepted, blocks_in, accepted_blocks}
use Rattle.felica_line.proofs.Bounds.{blocks_few}
use Rattle.felica_log.specs.declared.Stop.{Stop}
use Rattle.felica_log.specs.declared.Stop.TheVariants.{AtEnd, AtLimit, AtCut, NoRoom, TotalsFull}
use Rattle.felica_log.specs.Listing.{front, counted_as, max_records, records_left}
use Rattle.felica_log.specs.Step.{Reached, reached, line_room, room_in, max_blocks, step_from}
use Rattle.felica_log.specs.Rules.{WholeAhead, Stopped}
use Rattle.felica_log.specs.Ahead.{ahead_of}
use Rattle.felica_log.proofs.Front.{front_whole, front_cut, front_some, none_left, one_left, length_behind}

-- what `ahead_of` tests, on a list of which only the length and the first byte are known
pub ahead_none : (s : List ℕ) (space : ℕ) (t : Totals) → length s < 1 → ahead_of s space t ≡ Err AtEnd
unfolding ahead_of
ahead_none [] space t e = refl
ahead_none (x ∷ s) space t e = absurd (omega arith)

pub ahead_some : (s : List ℕ) (space : ℕ) (t : Totals) → 1 ≤ length s
    → ahead_of s space t
    ≡ cond (leb 1000000 t.records) (Err AtLimit)
    (cond (ltb (length (take (length s - 1) (drop 1 s))) (get_or s 0 0)) (Err AtCut)
    (cond (ltb space 128) (Err NoRoom)
    (cond (has_room t 255) (Ok (get_or s 0 0)) (Err TotalsFull))))
unfolding ahead_of
ahead_some [] space t some = absurd (omega arith)
ahead_some (x ∷ s) space t some = let n : length (take (suc (length s) - 1) s) ≡ length s = omega (arith, length_behind (x ∷ s)) in rw n refl

-- what is known where a record is to be listed
pub record Lists (s : List ℕ) (space : ℕ) (t : Totals) (size : ℕ) : Type 0 where
  pub few : t.records < max_records
  pub whole : size < length s
  pub is : s ≡ size ∷ drop 1 s
  pub line : leb line_room space ≡ true
  pub counts : has_room t max_blocks ≡ true

-- what `ahead_of` says of the rest, the buffer's room and the totals
abbrev Says : Result ℕ Stop → List ℕ → ℕ → Totals → Type 0
Says (Ok size) s space t = Lists s space t size
Says (Err stop) s space t = Stopped stop space t s

ahead_says : (s : List ℕ) (space : ℕ) (t : Totals) → Says (ahead_of s space t) s space t
unfolding ahead_of
ahead_says [] space t = refl
ahead_says (x ∷ s) space t = go (leb max_records t.records) refl (ltb (length s) x) refl (ltb space line_room) refl (has_room t max_blocks) refl
  where
    ahead : leb max_records t.records ≡ false → ltb (length s) x ≡ false → WholeAhead t (x ∷ s)
    ahead l c = (leb-false _ _ l, (take x s, drop x s, front_whole x s (ltb-false _ _ c)))

    go : (limit : Bool) → leb max_records t.records ≡ limit → (cut : Bool) → ltb (length s) x ≡ cut → (short : Bool) → ltb space line_room ≡ short
        → (fits : Bool) → has_room t max_blocks ≡ fits
        → Says (cond limit (Err AtLimit) (cond cut (Err AtCut) (cond short (Err NoRoom) (cond fits (Ok x) (Err TotalsFull))))) (x ∷ s) space t
    go true l cut c short r fits f = (leb-true _ _ l, λ q. let z = ap length q in omega arith)
    go false l true c short r fits f = (leb-false _ _ l, (x - length s, front_cut x s (ltb-true _ _ c)))
    go false l false c true r fits f = (ahead l c, lt-leb line_room space (ltb-true _ _ r))
    go false l false c false r true f = record {
      few = leb-false _ _ l;
      whole = let h : x ≤ length s = ltb-false _ _ c in omega arith;
      is = refl;
      line = le-leb line_room space (ltb-false _ _ r);
      counts = f;
    }
    go false l false c false r false f = (ahead l c, le-leb line_room space (ltb-false _ _ r), f)

pub frame_ahead : (s : List ℕ) (space : ℕ) (t : Totals) {size : ℕ} → ahead_of s space t ≡ Ok size → Lists s space t size
frame_ahead s space t e = subst (λ (a : Result ℕ Stop). Says a s space t) e (ahead_says s space t)

pub stop_ahead : (s : List ℕ) (space : ℕ) (t : Totals) {stop : Stop} → ahead_of s space t ≡ Err stop → Stopped stop space t s
stop_ahead s space t e = subst (λ (a : Result ℕ Stop). Says a s space t) e (ahead_says s space t)

-- the step stops there
pub step_ended : (n : ℕ) (b : Buffer) (t : Totals) (used : ℕ) (s : List ℕ) → length s ≡ 0 → step_from n b t used s ≡ reached b t used AtEnd
unfolding step_from front
step_ended zero b t used [] e = refl
step_ended (suc n) b t used [] e = refl
step_ended n b t used (x ∷ s) e = absurd (omega arith)

step_stops : (stop : Stop) (b : Buffer) (t : Totals) (used : ℕ) (s : List ℕ) → Stopped stop (room_in b) t s → step_from (records_left t) b t used s ≡ reached b t used stop
unfolding step_from
step_stops AtEnd b t used s none = step_ended (records_left t) b t used s (ap length none)
step_stops AtLimit b t used [] (full, some) = absurd (some refl)
step_stops AtLimit b t used (x ∷ s) (full, some) = rw (none_left t full, front_some x s AtEnd AtLimit)
step_stops AtCut b t used s (few, (missing, cut)) = rw (one_left t few, cut)
step_stops NoRoom b t used s ((few, (frame, rest, whole)), short) = rw (one_left t few, whole, short)
step_stops TotalsFull b t used s ((few, (frame, rest, whole)), space, none) = rw (one_left t few, whole, space, none)

pub step_stopped : (b : Buffer) (t : Totals) (used : ℕ) (s : List ℕ) {stop : Stop} → ahead_of s (room_in b) t ≡ Err stop
    → step_from (records_left t) b t used s ≡ reached b t used stop
step_stopped b t used s {stop} e = step_stops stop b t used s (stop_ahead s (room_in b) t e)

-- totals that have room for 255 blocks have room for those of a frame
pub counted_frame : (t : Totals) (frame : List ℕ) → has_room t 255 ≡ true
    → counted_within t (is_accepted (read_frame frame)) (blocks_in (read_frame frame)) ≡ counted_as t (read_frame frame)
unfolding has_room
counted_frame t frame h =
    let most = room t 255 h in
    let few = blocks_few frame in
    let sum : t.blocks + blocks_in (read_frame frame) < 2 ^ 64 = omega (arith, most.sum, few) in
    counted_with_room t (blocks_in (read_frame frame)) (is_accepted (read_frame frame))
    (and_both (lt-ltb _ _ most.records) (and_both (lt-ltb _ _ most.accepted) (and_both (lt-ltb _ _ most.refused) (lt-ltb _ _ sum))))

-- what a record counts for
counted_reading : (t : Totals) (r : Reading) → counted_record t (accepted_blocks r) ≡ counted_within t (is_accepted r) (blocks_in r)
counted_reading t (gives c long) = refl
counted_reading t (refused n code) = refl

pub counted_records : (t : Totals) (accepted : Bool) (blocks : ℕ) → 1000000 - (counted t accepted blocks).records ≡ 1000000 - (t.records + 1)
counted_records t true blocks = refl
counted_records t false blocks = refl

-- one more record
listed_next : (b : Buffer) (t : Totals) (used size : ℕ) (s : List ℕ) → Lists (size ∷ s) (room_in b) t size
    → step_from (records_left t) b t used (size ∷ s)
    ≡ step_from (records_left (counted_as t (read_frame (take size s)))) (put b (record_line (t.records + 1) (read_frame (take size s)))) (counted_as t (read_frame (take size s)))
    (used + (size + 1)) (drop size s)
unfolding step_from
listed_next b t used size s l =
    let long : size ≤ length s = (let h = l.whole in omega arith) in
    let behind : suc (length (take size s)) ≡ size + 1 = ap suc (length-take-le size s long) ∙ sym (add-one size) in
    let left = counted_records t (is_accepted (read_frame (take size s))) (blocks_in (read_frame (take size s))) in
    rw (one_left t l.few, front_whole size s long, l.line, l.counts, left, behind)

pub step_listed : (b : Buffer) (t : Totals) (used : ℕ) (s : List ℕ) (size : ℕ) {c : Buffer} {u : Totals} → Lists s (room_in b) t size
    → c ≡ put b (record_line (t.records + 1) (read_frame (take size (drop 1 s))))
    → u ≡ counted_within t (is_accepted (read_frame (take size (drop 1 s)))) (blocks_in (read_frame (take size (drop 1 s))))
    → step_from (records_left t) b t used s ≡ step_from (records_left u) c u (used + (size + 1)) (drop (size + 1) s)
step_listed b t used s size {c} {u} l e q =
    let frame = take size (drop 1 s) in
    let line = record_line (t.records + 1) (read_frame frame) in
    let counts : counted_as t (read_frame frame) ≡ u = sym (q ∙ counted_frame t frame l.counts) in
    let rest : drop size (drop 1 s) ≡ drop (size + 1) s = drop-drop size 1 s ∙ ap (λ (n : ℕ). drop n s) (add_comm 1 size) in
    ap (step_from (records_left t) b t used) l.is
    ∙ listed_next b t used size (drop 1 s) (subst (λ (m : List ℕ). Lists m (room_in b) t size) l.is l)
    ∙ ap (λ (v : Totals). step_from (records_left v) (put b line) v (used + (size + 1)) (drop size (drop 1 s))) counts
    ∙ ap (λ (d : Buffer). step_from (records_left u) d u (used + (size + 1)) (drop size (drop 1 s))) (sym e)
    ∙ ap (step_from (records_left u) c u (used + (size + 1))) rest

pub frame_inside : (piece : List ℕ) (used space : ℕ) (t : Totals) {size : ℕ}
    → ahead_of (take (length piece - used) (drop used piece)) space t ≡ Ok size → used + (size + 1) ≤ length piece
frame_inside piece used space t e =
    let whole = (frame_ahead _ space t e).whole in
    let long = ap length (take_rest used piece) ∙ length-drop used piece in
    omega (arith, whole, long)

-- The loop's invariant is stated of what is left: going on from here gives what the whole step gives. `rest` is the piece from `used` on, `space` the buffer's room.
module _ (piece : List ℕ) (b : Buffer) (t : Totals) (used : ℕ) {all : Reached} where
  pub turn_stopped : (rest : List ℕ) (space : ℕ) {stop : Stop} → rest ≡ drop used piece → space ≡ room_in b → ahead_of rest space t ≡ Err stop
      → step_from (records_left t) b t used (drop used piece) ≡ all → reached b t used stop ≡ all
  turn_stopped rest space is room e inv =
      sym (step_stopped b t used (drop used piece) (ap (λ (l : List ℕ). ahead_of l (room_in b) t) (sym is) ∙ ap (λ (n : ℕ). ahead_of rest n t) (sym room) ∙ e)) ∙ inv

  pub turn_listed : (rest frame : List ℕ) (space size : ℕ) {c : Buffer} {u : Totals} {record_is : Option ℕ} → rest ≡ drop used piece
      → frame ≡ take size (drop 1 rest) → space ≡ room_in b → ahead_of rest space t ≡ Ok size
      → c ≡ put b (record_line (t.records + 1) (read_frame frame)) → record_is ≡ accepted_blocks (read_frame frame)
      → u ≡ counted_record t record_is → step_from (records_left t) b t used (drop used piece) ≡ all
      → step_from (records_left u) c u (used + (size + 1)) (drop (used + (size + 1)) piece) ≡ all
  turn_listed rest frame space size {c} {u} is cut room e line counts_as count inv =
      let lists = subst (λ (l : List ℕ). Lists l (room_in b) t size) is (subst (λ (n : ℕ). Lists rest n t size) room (frame_ahead rest space t e)) in
      let here : frame ≡ take size (drop 1 (drop used piece)) = cut ∙ ap (λ (l : List ℕ). take size (drop 1 l)) is in
      let text = line ∙ ap (λ (f : List ℕ). put b (record_line (t.records + 1) (read_frame f))) here in
      let counts : u ≡ counted_within t (is_accepted (read_frame (take size (drop 1 (drop used piece))))) (blocks_in (read_frame (take size (drop 1 (drop used piece))))) =
      count ∙ ap (counted_record t) counts_as ∙ counted_reading t (read_frame frame) ∙ ap (λ (f : List ℕ). counted_within t (is_accepted (read_frame f)) (blocks_in (read_frame f))) here in
      ap (λ (l : List ℕ). step_from (records_left u) c u (used + (size + 1)) l) (sym (drop-drop (size + 1) used piece))
      ∙ sym (step_listed b t used (drop used piece) size lists text counts) ∙ inv
