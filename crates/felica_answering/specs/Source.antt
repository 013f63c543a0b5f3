-- What the definitions say of the bytes of a call.
-- Assumes nothing.
use Rattle.std.specs.Prelude.{ℕ, List, drop}
use Rattle.felica_format.specs.Read.{Answer as Reading, read_frame, read_payload, read_secure}
use Rattle.felica_calls.specs.declared.source.Source.{Source}
use Rattle.felica_calls.specs.declared.source.Source.TheVariants.{Frame, Payload, Secure}

-- what they give
abbrev pub reading_of : Source → List ℕ → Reading
reading_of Frame s = read_frame s
reading_of Payload s = read_payload s
reading_of (Secure code) s = read_secure code s

-- the payload that the places of a result count from, and where its body begins
abbrev pub payload_in : Source → List ℕ → List ℕ
payload_in Frame s = drop 1 s
payload_in Payload s = s
payload_in (Secure code) s = s

abbrev pub body_at : Source → ℕ
body_at Frame = 1
body_at Payload = 1
body_at (Secure code) = 0
