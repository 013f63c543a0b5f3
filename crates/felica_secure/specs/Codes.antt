-- Secure codes that share a layout.
-- Assumes nothing.
use Rattle.std.specs.Prelude.{ℕ, ◌≡◌, ◌⊎◌}

abbrev pub ReadCode : ℕ → Type 0
ReadCode code = (code ≡ 0x14) ⊎ (code ≡ 0x44)

abbrev pub WriteCode : ℕ → Type 0
WriteCode code = (code ≡ 0x16) ⊎ (code ≡ 0x46)

abbrev pub RegisterCode : ℕ → Type 0
RegisterCode code = (code ≡ 0x82) ⊎ (code ≡ 0x84)
