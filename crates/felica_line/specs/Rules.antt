-- Which codes get which mark, for every code, as statements. Each is proved under its name in proofs/Rules.antt.
-- Assumes nothing.
use Rattle.std.specs.Prelude.{ℕ, ◌%◌, ◌≡◌, ◌⊎◌, ◌≢◌, ◌↔◌}
use Rattle.felica_text.specs.Text.{text}
use Rattle.felica_line.specs.Line.{key_text, mark_text}

-- "FFFF names the system and gets `s`."
abbrev pub SystemExactly : Type 0
SystemExactly = (code : ℕ) → (mark_text code ≡ text "s") ↔ (code ≡ 0xFFFF)

-- "A listed code whose low six bits are 0 or 1 shall get the mark `a`."
abbrev pub AreaExactly : Type 0
AreaExactly = (code : ℕ) → (mark_text code ≡ text "a") ↔ ((code % 64 ≡ 0) ⊎ (code % 64 ≡ 1))

-- "other codes keep theirs"
abbrev pub OthersKept : Type 0
OthersKept = (code : ℕ) → code ≢ 0xFFFF → code % 64 ≢ 0 → code % 64 ≢ 1 → mark_text code ≡ key_text code
