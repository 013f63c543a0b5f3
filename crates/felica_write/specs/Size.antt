-- How many bytes a body has in its shortest form.
-- Assumes nothing.
use Rattle.std.specs.Prelude.{ℕ, ◌+◌, cond, List, ltb, sum_by}
use Rattle.felica_format.specs.Layout.{Layout}
use Rattle.felica_format.specs.Read.{size_of}
use Rattle.felica_command.specs.Places.{selector_size, codes_size}

-- of elements with these block numbers
abbrev pub short_size : List ℕ → ℕ
short_size ns = sum_by (λ n. cond (ltb n 256) 2 3) ns

-- of all but the package: with so many first and second codes, these block numbers and so many bytes of data
abbrev pub front_size : Layout → ℕ → ℕ → List ℕ → ℕ → ℕ
front_size l first second numbers data' =
    cond l.idm 8 0 + selector_size l.selector + (codes_size l.first first + codes_size l.second second)
    + (cond l.elements (1 + short_size numbers) 0 + data') + size_of l.ending
