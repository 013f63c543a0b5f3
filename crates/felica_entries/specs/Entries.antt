-- One entry of a part: entry i of a list of codes is the two-byte number at its place, element i is the one behind i elements, with the
-- form that it had.
-- Assumes nothing.
use Rattle.std.specs.Prelude.{ℕ, ◌+◌, ◌*◌, ◌≤◌, ◌<◌, ◌≡◌, cond, List, length, get_or, drop, ltb, leb, Option, Some, None}
use Rattle.felica_format.specs.Basic.{◌and◌, word_at, Step, taken, refuse, bind}
use Rattle.felica_format.specs.Command.{Formed}
use Rattle.felica_format.specs.Read.{read_element, read_each}
use Rattle.felica_command.specs.Meaning.{codes_at, formed_at}
use Rattle.felica_command.specs.declared.command.Part.{Part}
use Rattle.felica_command.specs.declared.types.ServiceCode.{ServiceCode}
use Rattle.felica_command.specs.declared.types.NodeCode.{NodeCode}
use Rattle.felica_cursor.specs.Steps.{formed_is}
use Rattle.felica_cursor.specs.declared.cursor.FormedElement.{FormedElement}

-- none where the part has no such entry, or where its two bytes do not stand in the payload
unfoldable pub code_entry : List ℕ → Part → ℕ → Option ℕ
code_entry s p i = cond (ltb i p.count and leb (p.start + 2 * i + 2) (length s)) (Some (word_at s (p.start + 2 * i))) None

abbrev pub value_of : {A : Type 0} → Step A → Option A
value_of (taken a rest) = Some a
value_of (refuse n) = None

-- the element behind i others
abbrev pub element_behind : ℕ → List ℕ → Step Formed
element_behind i l = bind (read_each i l) λ before rest. read_element rest

unfoldable pub element_entry : List ℕ → Part → ℕ → Option Formed
element_entry s p i = cond (ltb i p.count) (value_of (element_behind i (drop p.start s))) None

-- what each answer says
abbrev pub service_code_found : Option ServiceCode → Option ℕ
service_code_found (Some code) = Some code.0
service_code_found None = None

abbrev pub node_code_found : Option NodeCode → Option ℕ
node_code_found (Some code) = Some code.0
node_code_found None = None

abbrev pub block_found : Option FormedElement → Option Formed
block_found (Some e) = Some (formed_is e)
block_found None = None

-- An entry of a list of codes that lies inside the payload, or of a block list that has as many elements as its part says, is that entry of the list.
abbrev pub CodeOfList : Type 0
CodeOfList = (s : List ℕ) (p : Part) (i : ℕ) → p.start + 2 * p.count ≤ length s → i < p.count → code_entry s p i ≡ Some (get_or (codes_at s p) i 0)

abbrev pub ElementOfList : Type 0
ElementOfList = (s : List ℕ) (p : Part) (i : ℕ) (none_such : Formed) → length (formed_at s p) ≡ p.count → i < p.count
    → element_entry s p i ≡ Some (get_or (formed_at s p) i none_such)
