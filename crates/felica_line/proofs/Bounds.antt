-- How much a frame can list: no accepted frame has more than 64 codes, 255 blocks or 255 long elements, and no line of a listing is longer than the room that a step asks for.
-- Assumes nothing.
use Rattle.std.proofs.Common.{ℕ, suc, ◌≤◌, ◌≡◌, ◌⊎◌, inl, inr, refl, Bool, true, false, cond, List, [], ◌∷◌, length, get_or, length-append, arith}
use Rattle.std.proofs.Math.Dec.{eqb}
use Rattle.std.specs.Prelude.{Option, None, Some}
use Rattle.felica_format.specs.Command.{Command}
use Rattle.felica_format.specs.Layout.{class_of, layout_of}
use Rattle.felica_format.specs.Read.{counted, Answer as Reading, gives, refused, read_payload, read_frame}
use Rattle.felica_format.proofs.Steps.{not_given}
use Rattle.felica_format.proofs.Rows.{few_codes, every_layout}
use Rattle.felica_format.proofs.Demand3.{plain_gives}
use Rattle.felica_command.proofs.Few.{body_few}
use Rattle.felica_format.specs.Grounds.{Number}
use Rattle.felica_format.proofs.Grounds.{frame_refusals}
use Rattle.felica_text.proofs.Text.{decimal_length}
use Rattle.felica_fields.specs.Refused.{refused_text}
use Rattle.felica_fields.proofs.Length.{refused_length}
use Rattle.felica_line.proofs.Rules.{each_mark}
use Rattle.felica_line.specs.Line.{mark_text, marks_text, mark_field, listed_codes, accepted_text, frame_text, record_line, blocks_in}

-- what an accepted frame lists
pub record Listed (c : Command) (long : ℕ) : Type 0 where
  pub codes : length (listed_codes c) ≤ 64
  pub blocks : length c.numbers ≤ 255
  pub longs : long ≤ 255

payload_few : (s : List ℕ) (c : Command) (long : ℕ) → read_payload s ≡ gives c long → Listed c long
unfolding read_payload
payload_few [] c long h = absurd (not_given h)
payload_few (code ∷ body) c long h =
    let (plain, rest, read) = plain_gives (class_of code) code body c long h in
    let few = body_few code (layout_of code) (every_layout code) body (counted c long) rest read in
    let bounds = few_codes code plain in
    record { codes = rw (length-append c.first c.second) (omega (arith, few.first, few.second, bounds.0, bounds.1)); blocks = few.blocks; longs = few.longs }

pub frame_few : (s : List ℕ) (c : Command) (long : ℕ) → read_frame s ≡ gives c long → Listed c long
unfolding read_frame
frame_few [] c long h = absurd (not_given h)
frame_few (n ∷ payload) c long h = by_size (eqb n (suc (length payload))) h
  where
    by_size : (test : Bool) → cond test (read_payload payload) (refused 2 None) ≡ gives c long → Listed c long
    by_size true h = payload_few payload c long h
    by_size false h = absurd (not_given h)

pub blocks_few : (s : List ℕ) → blocks_in (read_frame s) ≤ 255
blocks_few s = go (read_frame s) refl
  where
    go : (reading : Reading) → read_frame s ≡ reading → blocks_in reading ≤ 255
    go (gives c long) e = (frame_few s c long e).blocks
    go (refused n code) e = omega arith

-- a mark is one byte
mark_length : (code : ℕ) → length (mark_text code) ≡ 1
mark_length code = each_mark code (λ mark. length mark ≡ 1) (λ is. refl) (λ low. refl) refl refl

marks_length : (codes : List ℕ) → length (marks_text codes) ≡ length codes
marks_length [] = refl
marks_length (code ∷ codes) = rw (length-append (mark_text code) (marks_text codes), mark_length code, marks_length codes) (omega arith)

mark_field_length : (codes : List ℕ) → length codes ≤ 64 → length (mark_field codes) ≤ 64
unfolding mark_field
mark_field_length [] h = omega arith
mark_field_length (code ∷ codes) h = rw (marks_length (code ∷ codes)) h

accepted_length : (code : ℕ) (codes : List ℕ) (blocks long : ℕ) → length codes ≤ 64 → blocks ≤ 255 → long ≤ 255 → length (accepted_text code codes blocks long) ≤ 81
unfolding accepted_text
accepted_length code codes blocks long few within most =
    let counted = decimal_length 1 (length codes) (omega arith) in
    let number = decimal_length 2 blocks (omega arith) in
    let figure = decimal_length 2 long (omega arith) in
    let marks = mark_field_length codes few in
    simp (length-append) (omega arith)

refused_in : (s : List ℕ) (n : ℕ) (code : Option ℕ) → Number 1 3 n None code ⊎ Number 4 20 n (Some (get_or s 1 0)) code → length (refused_text n code) ≤ 81
refused_in s n code (inl x) = let short = refused_length n code (omega (arith, x.1)) in omega arith
refused_in s n code (inr x) = let short = refused_length n code (omega (arith, x.1)) in omega arith

frame_length : (s : List ℕ) → length (frame_text (read_frame s)) ≤ 81
frame_length s = go (read_frame s) refl
  where
    go : (reading : Reading) → read_frame s ≡ reading → length (frame_text reading) ≤ 81
    go (gives c long) e = let few = frame_few s c long e in accepted_length c.code (listed_codes c) (length c.numbers) long few.codes few.blocks few.longs
    go (refused n code) e = refused_in s n code (frame_refusals s n code e)

-- the line of a record that may be read
pub line_length : (ordinal : ℕ) (s : List ℕ) → ordinal ≤ 1000000 → length (record_line ordinal (read_frame s)) ≤ 128
unfolding record_line
line_length ordinal s h =
    let digits = decimal_length 6 ordinal (omega arith) in
    let frame = frame_length s in
    simp (length-append) (omega arith)
