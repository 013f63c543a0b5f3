-- Document 01's sample and other logs with their listings, and logs whose listing ends at a limit; computed in proofs/Examples.antt.
-- Assumes nothing.
use Rattle.std.specs.Prelude.{ℕ, ◌≡◌, List, [], ◌∷◌, ◌++◌}
-- the type of text literals, for which std has no name
use Prim.Native.String.{String}
use Rattle.felica_format.specs.Examples.{I8}
use Rattle.felica_text.specs.Text.{text}
use Rattle.felica_totals.specs.Count.{no_totals}
use Rattle.felica_log.specs.Listing.{line_end, listing_from, listing}

-- a log and the lines of its listing
pub record Sample : Type 0 where
  pub log : List ℕ
  pub lines : List String

abbrev pub lines_text : List String → List ℕ
lines_text [] = []
lines_text (line ∷ lines) = text line ++ (line_end ++ lines_text lines)

abbrev pub AllSamplesListed : List Sample → Type 0
AllSamplesListed [] = Unit {0}
AllSamplesListed (s ∷ rest) = (listing s.log ≡ lines_text s.lines) × AllSamplesListed rest

abbrev pub sample : List ℕ → List String → Sample
sample log lines = record { log = log; lines = lines }

-- "For 06 06 00 FF FF 00 00, 01 01, 10 10 06 I8 01 0B 10 01 80 00"; a log that is cut off; an empty one; Authentication1 with an area and two services; Request Service with an area of
-- attribute 1, the system and two services; Read Without Encryption with three elements, of which the first and the last are long
unfoldable pub samples : List Sample
samples =
    sample
    ((0x06 ∷ 0x06 ∷ 0x00 ∷ 0xFF ∷ 0xFF ∷ 0x00 ∷ 0x00 ∷ 0x01 ∷ 0x01 ∷ 0x10 ∷ 0x10 ∷ 0x06 ∷ []) ++ (I8 ++ (0x01 ∷ 0x0B ∷ 0x10 ∷ 0x01 ∷ 0x80 ∷ 0x00 ∷ [])))
    ("1 OK 00 0 0 0 -" ∷ "2 NO 3 --" ∷ "3 OK 06 1 1 0 o" ∷ "TOTAL 3 2 1 1" ∷ [])
    ∷ sample (0x00 ∷ 0x02 ∷ 0x02 ∷ 0x14 ∷ 0x05 ∷ 0x05 ∷ []) ("1 NO 1 --" ∷ "2 NO 4 14" ∷ "CUT 4" ∷ "TOTAL 2 0 2 0" ∷ [])
    ∷ sample [] ("TOTAL 0 0 0 0" ∷ [])
    ∷ sample
    ((0x1A ∷ 0x1A ∷ 0x10 ∷ []) ++ (I8 ++ ((0x01 ∷ 0x00 ∷ 0x00 ∷ 0x02 ∷ 0x08 ∷ 0x10 ∷ 0x0B ∷ 0x10 ∷ []) ++ I8)))
    ("1 OK 10 3 0 0 ako" ∷ "TOTAL 1 1 0 0" ∷ [])
    ∷ sample
    ((0x13 ∷ 0x13 ∷ 0x02 ∷ []) ++ (I8 ++ (0x04 ∷ 0x01 ∷ 0x00 ∷ 0xFF ∷ 0xFF ∷ 0x0B ∷ 0x10 ∷ 0x08 ∷ 0x10 ∷ [])))
    ("1 OK 02 4 0 0 asok" ∷ "TOTAL 1 1 0 0" ∷ [])
    ∷ sample
    ((0x16 ∷ 0x16 ∷ 0x06 ∷ []) ++ (I8 ++ (0x01 ∷ 0x08 ∷ 0x10 ∷ 0x03 ∷ 0x00 ∷ 0x05 ∷ 0x00 ∷ 0x80 ∷ 0x05 ∷ 0x00 ∷ 0x05 ∷ 0x01 ∷ [])))
    ("1 OK 06 1 3 2 k" ∷ "TOTAL 1 1 0 3" ∷ [])
    ∷ []

-- the same where at most n records are read
abbrev pub AllListedUpTo : ℕ → List Sample → Type 0
AllListedUpTo n [] = Unit {0}
AllListedUpTo n (s ∷ rest) = (listing_from n no_totals s.log ≡ lines_text s.lines) × AllListedUpTo n rest

-- "with the line FULL if a byte follows", with a limit of one record: two records, one, one and a cut one
unfoldable pub limit_samples : List Sample
limit_samples =
    sample (0x01 ∷ 0x01 ∷ 0x02 ∷ 0x02 ∷ 0x14 ∷ []) ("1 NO 3 --" ∷ "FULL" ∷ "TOTAL 1 0 1 0" ∷ [])
    ∷ sample (0x01 ∷ 0x01 ∷ []) ("1 NO 3 --" ∷ "TOTAL 1 0 1 0" ∷ [])
    ∷ sample (0x01 ∷ 0x01 ∷ 0x05 ∷ 0x05 ∷ []) ("1 NO 3 --" ∷ "FULL" ∷ "TOTAL 1 0 1 0" ∷ [])
    ∷ []
