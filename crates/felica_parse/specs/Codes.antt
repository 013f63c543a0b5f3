-- Plain codes that share a layout, and the codes that are not plain.
-- Assumes nothing.
use Rattle.std.specs.Prelude.{ℕ, ◌≡◌, ◌⊎◌}
use Rattle.felica_format.specs.Layout.{class_of}
use Rattle.felica_format.specs.declared.classes.Class.TheVariants.{Plain}

abbrev pub CodeListCode : ℕ → Type 0
CodeListCode code = (code ≡ 0x02) ⊎ ((code ≡ 0x0E) ⊎ ((code ≡ 0x1E) ⊎ (code ≡ 0x32)))

abbrev pub IdmAloneCode : ℕ → Type 0
IdmAloneCode code = (code ≡ 0x04) ⊎ ((code ≡ 0x0C) ⊎ (code ≡ 0x3A))

abbrev pub WordCode : ℕ → Type 0
WordCode code = (code ≡ 0x0A) ⊎ (code ≡ 0x24)

abbrev pub ReservedCode : ℕ → Type 0
ReservedCode code = (code ≡ 0x22) ⊎ ((code ≡ 0x38) ⊎ ((code ≡ 0x3C) ⊎ (code ≡ 0x3E)))

abbrev pub NotPlain : ℕ → Type 0
NotPlain code = class_of code ≡ Plain → ⊥
