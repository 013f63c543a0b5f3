-- "A command is its code with every fixed field and list that the writer takes, data and package included, zero or empty where the layout
-- lacks them; two are one when all of these agree. Length byte, counts, reserved bytes, forms and ignored tail are no part of it."
-- Assumes nothing.
use Rattle.std.specs.Prelude.{ℕ, ◌+◌, Bool, cond, List, [], ◌∷◌, map, get_or, drop}
use Rattle.felica_format.specs.Basic.{zeros}

-- The fields of the fixed bytes that end a body, by code:
--   number      00 system code; 0A service index; 1A parent node code; 24 node code; 2E property; 82 area code; 84 service code
--   index       1A index
--   option      00 request code; 20 encryption type
--   choice      00 time slots; 20 packet type
--   challenge   16 bytes. 40, 42: the challenge; 10, 12: the challenge of 8 bytes, then eight 00; 80: issue id, then issue parameter
pub record EndFields : Type 0 where
  pub number : ℕ
  pub index : ℕ
  pub option : ℕ
  pub choice : ℕ
  pub challenge : List ℕ

abbrev pub end_fields : ℕ → ℕ → ℕ → ℕ → List ℕ → EndFields
end_fields n i o c b = record { number = n; index = i; option = o; choice = c; challenge = b }

-- where a layout has none of them
abbrev pub no_fields : EndFields
no_fields = end_fields 0 0 0 0 (zeros 16)

--   idm            8 bytes
--   selector       28 property type; 40 operation parameter
--   first          the code list; of 10 the areas
--   second         10 services
--   numbers, places, modes   the block list: of each element its block number, its place in the service list, its access mode
--   block_data      08, 16, 46: 16 bytes for each element
--   issue_package   80, 82, 84: the package (`package` alone is a word of the language)
pub record Command : Type 0 where
  pub code : ℕ
  pub idm : List ℕ
  pub selector : ℕ
  pub first : List ℕ
  pub second : List ℕ
  pub numbers : List ℕ
  pub places : List ℕ
  pub modes : List ℕ
  pub block_data : List ℕ
  pub number : ℕ
  pub index : ℕ
  pub option : ℕ
  pub choice : ℕ
  pub challenge : List ℕ
  pub issue_package : List ℕ

-- one element of a block list
pub record Element : Type 0 where
  pub number : ℕ
  pub place : ℕ
  pub mode : ℕ

-- An element as it stood in the bytes, with the form that it had. The form is no part of the command.
pub record Formed : Type 0 where
  pub element : Element
  pub long : Bool

-- "how many were long"
abbrev pub long_count : List Formed → ℕ
long_count [] = 0
long_count (f ∷ fs) = cond f.long 1 0 + long_count fs

-- the elements that the three lists name; a place or mode that is missing counts as 0
unfoldable pub zip_elements : List ℕ → List ℕ → List ℕ → List Element
zip_elements [] places modes = []
zip_elements (n ∷ numbers) places modes =
    record { number = n; place = get_or places 0 0; mode = get_or modes 0 0 } ∷ zip_elements numbers (drop 1 places) (drop 1 modes)

abbrev pub elements_of : Command → List Element
elements_of c = zip_elements c.numbers c.places c.modes

abbrev pub end_fields_of : Command → EndFields
end_fields_of c = end_fields c.number c.index c.option c.choice c.challenge

-- the command of the parts read
abbrev pub command_of : ℕ → List ℕ → ℕ → List ℕ → List ℕ → List Element → List ℕ → EndFields → List ℕ → Command
command_of code idm selector first second elements block_data ending issue_package =
    record {
      code = code;
      idm = idm;
      selector = selector;
      first = first;
      second = second;
      numbers = map (λ e. e.number) elements;
      places = map (λ e. e.place) elements;
      modes = map (λ e. e.mode) elements;
      block_data = block_data;
      number = ending.number;
      index = ending.index;
      option = ending.option;
      choice = ending.choice;
      challenge = ending.challenge;
      issue_package = issue_package;
    }
