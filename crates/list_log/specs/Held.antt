-- What the program has listed of the bytes that it holds. Where it is known what a reader has left and what a writer holds, these definitions tie the listing to that;
-- of the system's own reader and writer their contracts say nothing, and there these definitions say what is proved between them.
-- Assumes nothing.
use Rattle.std.specs.Prelude.{ℕ, ◌+◌, ◌-◌, ◌^◌, ◌≡◌, ◌≤◌, ◌<◌, IfSome, Bool, ◌||◌, ◌&&◌, List, ◌++◌, ltb, leb, length, take, drop}
use Rattle.std.specs.declared.option.Option.{Option}
use Rattle.std.specs.Io.KnownBytes.{Consumes, Appends, IsAtEnd}
use Rattle.felica_totals.specs.declared.Totals.{Totals}
use Rattle.felica_put.specs.Put.{Buffer}
use Rattle.felica_put.specs.declared.Output.{Output}
use Rattle.felica_stream.specs.Held.{still_waiting, IsWithin}
use Rattle.felica_stream.specs.declared.failure.Failure.{Failure}
use Rattle.felica_stream.specs.declared.failure.Failure.TheVariants.{Read, Write}
use Rattle.felica_log.specs.Listing.{max_records, records_left, listing_from, listing}
use Rattle.felica_log.specs.Step.{line_room}
use Rattle.felica_log.specs.Rules.{NoneLeft}
use Rattle.list_log.specs.declared.input.Input.{Input}

-- Of the bytes held so many are listed; the totals went from t to u, the output from b to c, and what the writer holds from v to w.
pub record ListedUpTo (v : Option (List ℕ)) (t : Totals) (b : Buffer) (held : List ℕ) (w : Option (List ℕ)) (u : Totals) (c : Buffer) (used : ℕ) : Type 0 where
  pub lines : List ℕ
  pub written : List ℕ
  -- the lines are the front of the listing of any log that goes on with these bytes; the rest of it is that of the bytes left
  pub lists : (behind : List ℕ) → listing_from (records_left t) t (held ++ behind) ≡ lines ++ listing_from (records_left u) u (drop used held ++ behind)
  -- what waited and the lines behind it are what was written and what waits now
  pub waits : take b.next b.bytes ++ lines ≡ written ++ take c.next c.bytes
  pub taken : Appends v w written

-- All whole records of those held are listed that may be read.
abbrev pub AllListed : Option (List ℕ) → Totals → Buffer → List ℕ → Option (List ℕ) → Totals → Buffer → ℕ → Type 0
AllListed v t b held w u c used = ListedUpTo v t b held w u c used × NoneLeft u (drop used held)

-- The same, and the bytes left stand at the front of the input now.
abbrev pub RestKept : Option (List ℕ) → Totals → Buffer → List ℕ → Option (List ℕ) → Totals → Buffer → List ℕ → Type 0
RestKept v t b held w u c rest = (used : ℕ) × AllListed v t b held w u c used × (rest ≡ drop used held)

-- Some log has been read: its listing is what was written, what waits, and the listing of the bytes held and what follows them. What the reader has left went from q to r, and
-- what the writer holds from v to w.
pub record ReadAndListed (q r v w : Option (List ℕ)) (t : Totals) (c : Buffer) (held : List ℕ) : Type 0 where
  pub log : List ℕ
  pub written : List ℕ
  pub lists : (behind : List ℕ) → listing (log ++ behind) ≡ written ++ (take c.next c.bytes ++ listing_from (records_left t) t (held ++ behind))
  pub given : Consumes q r log
  pub taken : Appends v w written

-- Nothing is left to be read of a log: its end is reached, a byte follows the last record that may be read, or the log is so long that the turns of the loop over it do not suffice.
pub data ReadToEnd (r : Option (List ℕ)) (t : Totals) (held log : List ℕ) : Type 0 where
  at_end : IsAtEnd r → ReadToEnd r t held log
  at_limit : max_records ≤ t.records → 0 < length held → ReadToEnd r t held log
  too_long : 2 ^ 64 - 1 ≤ length log → ReadToEnd r t held log

-- The same of the log that has been read, which is read to its end.
abbrev pub AllRead : Option (List ℕ) → Option (List ℕ) → Option (List ℕ) → Option (List ℕ) → Totals → Buffer → List ℕ → Type 0
AllRead q r v w t c held = (x : ReadAndListed q r v w t c held) × ReadToEnd r t held x.log

-- what holds where a read failed; of a write that failed it says nothing
abbrev pub WhereUnread : Failure → Type 0 → Type 0
WhereUnread Read p = p
WhereUnread Write p = Unit {0}

-- Where it is known what the reader has left, and that is no longer than a machine can count, the writer takes its listing.
abbrev pub TakesListing : Option (List ℕ) → Option (List ℕ) → Option (List ℕ) → Type 0
TakesListing q v w = IfSome q (λ log. length log < 2 ^ 64 - 1 → Appends v w (listing log))

-- The last bytes that are written: those that wait, and a text behind them.
abbrev pub EndPut : Buffer → List ℕ → List ℕ → Type 0
EndPut b text after =
    take (still_waiting (length b.bytes) b.next line_room + length text) after ≡ take (still_waiting (length b.bytes) b.next line_room) b.bytes ++ text

-- an output with room for a line, which holds no more than its room
pub record HasLineRoom (out : Output ℕ) : Type 0 where
  pub inside : IsWithin out
  pub line : line_room ≤ length out.room.now

-- the bytes that an input holds
abbrev pub bytes_in : Input → List ℕ
bytes_in input = take input.held input.room.now

-- nothing more is to be read: the input has ended, or a byte follows the last record that may be read
unfoldable pub over : Bool → Totals → ℕ → Bool
over ended t held = ended || (leb max_records t.records && ltb 0 held)
