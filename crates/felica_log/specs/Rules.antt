-- What follows from the definitions of listing and step, as statements. Each is proved under its name in proofs/Rules.antt.
-- Assumes nothing.
use Rattle.std.specs.Prelude.{ℕ, ◌+◌, ◌-◌, ◌*◌, ◌≤◌, ◌<◌, ◌≡◌, true, false, List, [], ◌∷◌, ◌++◌, leb, length, get_or, take, drop}
use Rattle.felica_put.specs.Put.{Buffer}
use Rattle.felica_totals.specs.declared.Totals.{Totals}
use Rattle.felica_totals.specs.Count.{no_totals, has_room}
use Rattle.felica_log.specs.declared.Stop.{Stop}
use Rattle.felica_log.specs.declared.Stop.TheVariants.{AtEnd, AtLimit, AtCut, NoRoom, TotalsFull}
use Rattle.felica_log.specs.Listing.{cut_by, frame_then, front, max_records, records_left, listing_from, listing}
use Rattle.felica_log.specs.Step.{Reached, lacks_room, line_room, room_in, max_blocks, room_for_line, step, end_text}

-- the bytes that a step has put behind those that the buffer held
abbrev pub lines : Buffer → Reached → List ℕ
lines b r = take (r.out.next - b.next) (drop b.next r.out.bytes)

-- A step lists the front of the listing of any log that goes on with the piece, none of its lines cut off; the rest of that listing begins where the step stopped.
abbrev pub StepLists : Type 0
StepLists = (b : Buffer) (t : Totals) (piece behind : List ℕ)
    → listing_from (records_left t) t (piece ++ behind)
    ≡ lines b (step b t piece) ++ listing_from (records_left (step b t piece).totals) (step b t piece).totals (drop (step b t piece).used piece ++ behind)

-- They stand behind what the buffer held up to its place, and all other bytes keep their values.
abbrev pub StepKeeps : Type 0
StepKeeps = (b : Buffer) (t : Totals) (piece : List ℕ)
    → (take (step b t piece).out.next (step b t piece).out.bytes ≡ take b.next b.bytes ++ lines b (step b t piece))
    × (drop (step b t piece).out.next (step b t piece).out.bytes ≡ drop (step b t piece).out.next b.bytes)

-- It uses no more than the piece, and stays inside the buffer.
abbrev pub StepInside : Type 0
StepInside = (b : Buffer) (t : Totals) (piece : List ℕ)
    → ((step b t piece).used ≤ length piece) × (b.next ≤ length b.bytes → (step b t piece).out.next ≤ length (step b t piece).out.bytes)

-- a whole record that may be read stands at the front
abbrev pub WholeAhead : Totals → List ℕ → Type 0
WholeAhead t s = (t.records < max_records) × ((frame : List ℕ) × (rest : List ℕ) × (front s ≡ frame_then frame rest))

-- What holds in front of the rest of the piece where a step stops and the buffer has some room left. Before a whole record that may be read it stops only where room
-- is lacking.
abbrev pub Stopped : Stop → ℕ → Totals → List ℕ → Type 0
Stopped AtEnd space t rest = rest ≡ []
Stopped AtLimit space t rest = (max_records ≤ t.records) × (rest ≡ [] → ⊥)
Stopped AtCut space t rest = (t.records < max_records) × ((missing : ℕ) × (front rest ≡ cut_by missing))
Stopped NoRoom space t rest = WholeAhead t rest × (leb line_room space ≡ false)
Stopped TotalsFull space t rest = WholeAhead t rest × (leb line_room space ≡ true) × (has_room t max_blocks ≡ false)

abbrev pub StopsExactly : Type 0
StopsExactly = (b : Buffer) (t : Totals) (piece : List ℕ)
    → Stopped (step b t piece).stop (room_in (step b t piece).out) (step b t piece).totals (drop (step b t piece).used piece)

-- Totals as records make them, which have room for one more.
pub record Sound (t : Totals) : Type 0 where
  pub few : t.records ≤ max_records
  pub records : t.accepted + t.refused ≡ t.records
  pub blocks : t.blocks ≤ max_blocks * t.accepted

abbrev pub SoundStart : Type 0
SoundStart = Sound no_totals

abbrev pub SoundKept : Type 0
SoundKept = (b : Buffer) (t : Totals) (piece : List ℕ) → Sound t → Sound (step b t piece).totals

abbrev pub SoundRoom : Type 0
SoundRoom = (t : Totals) → Sound t → has_room t max_blocks ≡ true

-- no whole record that may still be read stands at the front
abbrev pub NoneLeft : Totals → List ℕ → Type 0
NoneLeft t s = (frame rest : List ℕ) → front s ≡ frame_then frame rest → max_records ≤ t.records

abbrev pub NothingLeftOver : Type 0
NothingLeftOver = (t : Totals) (s : List ℕ) → length s ≡ 0 → NoneLeft t s

-- Where a step does not stop for want of room, none is left; where it does, and had room for a line, it has listed something.
abbrev pub NoneLeftBehind : Type 0
NoneLeftBehind = (b : Buffer) (t : Totals) (piece : List ℕ) → Sound t → lacks_room (step b t piece).stop ≡ false
    → NoneLeft (step b t piece).totals (drop (step b t piece).used piece)

abbrev pub RoomUsed : Type 0
RoomUsed = (b : Buffer) (t : Totals) (piece : List ℕ) → room_for_line b ≡ true → lacks_room (step b t piece).stop ≡ true → (step b t piece).used ≡ 0 → ⊥

-- The room that a step asks for is enough for the lines behind the records, too.
abbrev pub EndFits : Type 0
EndFits = (t : Totals) (rest : List ℕ) → Sound t → get_or rest 0 0 < 256 → length (end_text t rest) ≤ line_room

-- What a program does: it reads one more piece of the log behind what it holds, or makes a step over what it holds, into some buffer, and writes the lines.
pub data Action : Type 0 where
  reads : List ℕ → Action
  steps : Buffer → Action

pub record State : Type 0 where
  pub written : List ℕ
  pub totals : Totals
  pub held : List ℕ

abbrev pub state : List ℕ → Totals → List ℕ → State
state written totals held = record { written = written; totals = totals; held = held }

abbrev pub stepped : State → Buffer → Reached → State
stepped s b r = state (s.written ++ lines b r) r.totals (drop r.used s.held)

abbrev pub act : State → Action → State
act s (reads piece) = state s.written s.totals (s.held ++ piece)
act s (steps b) = stepped s b (step b s.totals s.held)

-- the state after some actions; the list has the last of them first
abbrev pub after : List Action → State
after [] = state [] no_totals []
after (a ∷ before) = act (after before) a

abbrev pub all_read : List Action → List ℕ
all_read [] = []
all_read (reads piece ∷ before) = all_read before ++ piece
all_read (steps b ∷ before) = all_read before

-- Whatever the pieces and the buffers are: what is written is the front of the listing of the log, and the rest of it is that of what is held and what follows.
abbrev pub PiecesListed : Type 0
PiecesListed = (actions : List Action) (behind : List ℕ)
    → listing (all_read actions ++ behind)
    ≡ (after actions).written ++ listing_from (records_left (after actions).totals) (after actions).totals ((after actions).held ++ behind)

-- Where none is left, the lines behind the records complete the listing of what was read.
abbrev pub EndListed : Type 0
EndListed = (actions : List Action) → NoneLeft (after actions).totals (after actions).held
    → listing (all_read actions) ≡ (after actions).written ++ end_text (after actions).totals (after actions).held

-- "After 1,000,000 records reading stops, with the line FULL if a byte follows": whatever else follows it.
abbrev pub FullListed : Type 0
FullListed = (actions : List Action) (behind : List ℕ) → max_records ≤ (after actions).totals.records → ((after actions).held ≡ [] → ⊥)
    → listing (all_read actions ++ behind) ≡ (after actions).written ++ end_text (after actions).totals (after actions).held
