-- The names of fields. Behind each stands the form of its value: 1, 2 or 8 bytes, a challenge (C), a list of words (W) or of numbers (N), any bytes (B).
-- Assumes nothing.
use Rattle.std.specs.Prelude.{ℕ, suc, Bool, cond, List, [], ◌∷◌, length, Option, None, Some, nat_eq}
use Rattle.std.specs.Option.{option_map, unwrap_or}
use Rattle.std.specs.List.{starts_with}
-- std has no name for the type of a text between quotes
use Prim.Native.String.{String}
use Rattle.felica_text.specs.Text.{text}

unfoldable pub names : List ℕ
names = text " idm=8 first=W second=W numbers=W places=N modes=N data=B package=B system=2 request=1 slots=1 parent=2 index=2 node=2 property=2 type=1 operation=1 encryption=1 packet=1 challenge=C issue_id=8 issue_parameter=8"

abbrev pub begins_with : List ℕ → List ℕ → Bool
begins_with key s = starts_with nat_eq s key

-- where a key stands first
unfoldable pub place_in : List ℕ → List ℕ → Option ℕ
place_in key [] = None
place_in key (d ∷ ds) = cond (begins_with key (d ∷ ds)) (Some 0) (option_map suc (place_in key ds))

-- the number of a name: its place in the table, where it stands with the space before it and the `=` behind it
abbrev pub number_of : String → ℕ
number_of name = unwrap_or (place_in (text name) names) (length names)
