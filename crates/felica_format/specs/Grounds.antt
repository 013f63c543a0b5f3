-- "A refusal gives its number and, from 4 up, the command code", as statements. Each is proved under its name in proofs/Grounds.antt.
-- Assumes nothing.
use Rattle.std.specs.Prelude.{ℕ, ◌≤◌, ◌≡◌, ◌⊎◌, List, get_or}
use Rattle.std.specs.Prelude.{Option, None, Some}
use Rattle.felica_format.specs.Read.{refused, read_payload, read_frame, read_secure}

-- a number from least to greatest, alone or with the code
abbrev pub Number : ℕ → ℕ → ℕ → Option ℕ → Option ℕ → Type 0
Number least greatest n given code = (least ≤ n) × (n ≤ greatest) × (code ≡ given)

-- the code is the byte behind the length byte
abbrev pub FrameRefusals : Type 0
FrameRefusals = (s : List ℕ) (n : ℕ) (code : Option ℕ) → read_frame s ≡ refused n code → Number 1 3 n None code ⊎ Number 4 20 n (Some (get_or s 1 0)) code

abbrev pub PayloadRefusals : Type 0
PayloadRefusals = (s : List ℕ) (n : ℕ) (code : Option ℕ) → read_payload s ≡ refused n code → Number 3 3 n None code ⊎ Number 4 20 n (Some (get_or s 0 0)) code

-- an empty secure payload is not 3, so the code is always there
abbrev pub SecureRefusals : Type 0
SecureRefusals = (k : ℕ) (s : List ℕ) (n : ℕ) (code : Option ℕ) → read_secure k s ≡ refused n code → Number 5 20 n (Some k) code
