-- What a result says of the payload that it was read from: the number and values of document 01 for each of its cases.
-- Assumes nothing.
use Rattle.std.specs.Prelude.{◌≡◌, ℕ, List, [], map, take, drop, Option, Result, Ok, Err}
use Rattle.felica_format.specs.Basic.{Step, taken, refuse, zeros}
use Rattle.felica_format.specs.Reasons.{number_of}
use Rattle.felica_format.specs.declared.error.Reason.{Reason}
use Rattle.felica_format.specs.Command.{Command, Element, Formed, end_fields, command_of}
use Rattle.felica_format.specs.Read.{words_of, read_each, Answer as Reading, gives, refused}
use Rattle.felica_command.specs.Types.{property_of, property_index, node_property_byte, encryption_byte, packet_byte}
use Rattle.felica_command.specs.declared.types.ContainerProperty.{ContainerProperty}
use Rattle.felica_command.specs.declared.types.ContainerProperty.TheVariants.{Property1}
use Rattle.felica_command.specs.declared.command.Part.{Part}
use Rattle.felica_command.specs.declared.command.FelicaStandardCommand.{FelicaStandardCommand}
use Rattle.felica_command.specs.declared.command.FelicaStandardCommand.TheVariants.{Polling, RequestService, RequestResponse, ReadWithoutEncryption}
use Rattle.felica_command.specs.declared.command.FelicaStandardCommand.TheVariants.{WriteWithoutEncryption, SearchServiceCode, RequestSystemCode}
use Rattle.felica_command.specs.declared.command.FelicaStandardCommand.TheVariants.{RequestBlockInformation, Authentication1, Authentication2, Read}
use Rattle.felica_command.specs.declared.command.FelicaStandardCommand.TheVariants.{Write, ReadV2, WriteV2, RequestCodeList}
use Rattle.felica_command.specs.declared.command.FelicaStandardCommand.TheVariants.{RequestBlockInformationEx, SetParameter}
use Rattle.felica_command.specs.declared.command.FelicaStandardCommand.TheVariants.{GetContainerIssueInformation, GetAreaInformation}
use Rattle.felica_command.specs.declared.command.FelicaStandardCommand.TheVariants.{GetNodeProperty, GetContainerProperty, RequestServiceV2}
use Rattle.felica_command.specs.declared.command.FelicaStandardCommand.TheVariants.{GetSystemStatus, RequestProductInformation}
use Rattle.felica_command.specs.declared.command.FelicaStandardCommand.TheVariants.{RequestSpecificationVersion, ResetMode, Authentication1V2}
use Rattle.felica_command.specs.declared.command.FelicaStandardCommand.TheVariants.{Authentication2V2, GetContainerId, RegisterIssueId, RegisterArea}
use Rattle.felica_command.specs.declared.command.FelicaStandardCommand.TheVariants.{RegisterService, ChangeSystemBlock}
use Rattle.felica_command.specs.declared.command.Refusal.{Refusal}
use Rattle.felica_command.specs.declared.command.Parsed.{Parsed}

abbrev pub part : ℕ → ℕ → Part
part start count = record { start = start; count = count }

-- a part that the command lacks
abbrev pub no_part : Part
no_part = part 0 0

-- what a part of the payload s holds, as two-byte codes, as elements, as bytes
abbrev pub codes_at : List ℕ → Part → List ℕ
codes_at s p = words_of p.count (drop p.start s)

abbrev pub value_or : {A : Type 0} → A → Step A → A
value_or d (taken a rest) = a
value_or d (refuse n) = d

abbrev pub formed_at : List ℕ → Part → List Formed
formed_at s p = value_or [] (read_each p.count (drop p.start s))

abbrev pub elements_at : List ℕ → Part → List Element
elements_at s p = map (λ f. f.element) (formed_at s p)

abbrev pub bytes_at : List ℕ → Part → List ℕ
bytes_at s p = take p.count (drop p.start s)

-- What a kind says: the fields of `Command`, lists and data as parts, zero or no part where it lacks them. `property` is 2E's, as a typed value.
pub record Fields : Type 0 where
  pub code : ℕ
  pub selector : ℕ
  pub first : Part
  pub second : Part
  pub elements : Part
  pub block_data : Part
  pub number : ℕ
  pub index : ℕ
  pub option : ℕ
  pub choice : ℕ
  pub issue_package : Part
  pub property : ContainerProperty

abbrev pub fields : ℕ → ℕ → Part → Part → Part → Part → ℕ → ℕ → ℕ → ℕ → Part → ContainerProperty → Fields
fields code sel f g e d n i o c p property =
    record {
      code = code;
      selector = sel;
      first = f;
      second = g;
      elements = e;
      block_data = d;
      number = n;
      index = i;
      option = o;
      choice = c;
      issue_package = p;
      property = property;
    }

-- The words of the table: the fixed bytes alone; a code list, behind a selector or none; a block list, with codes and data or none; a package.
abbrev pub fixed : ℕ → ℕ → ℕ → ℕ → ℕ → Fields
fixed code n i o c = fields code 0 no_part no_part no_part no_part n i o c no_part Property1

abbrev pub listed : ℕ → ℕ → Part → Fields
listed code sel codes = fields code sel codes no_part no_part no_part 0 0 0 0 no_part Property1

abbrev pub blocks : ℕ → Part → Part → Part → Fields
blocks code codes elements d = fields code 0 codes no_part elements d 0 0 0 0 no_part Property1

abbrev pub packed : ℕ → ℕ → Part → Fields
packed code n p = fields code 0 no_part no_part no_part no_part n 0 0 0 p Property1

-- "the 33 commands, 25 plain and 8 secure": a row for each, with its code and its fields
abbrev pub fields_of : FelicaStandardCommand → Fields
fields_of (Polling system request slots) = fixed 0x00 system 0 request slots
fields_of (RequestService codes) = listed 0x02 0 codes
fields_of RequestResponse = fixed 0x04 0 0 0 0
fields_of (ReadWithoutEncryption codes elements) = blocks 0x06 codes elements no_part
fields_of (WriteWithoutEncryption codes elements d) = blocks 0x08 codes elements d
fields_of (SearchServiceCode index) = fixed 0x0A index 0 0 0
fields_of RequestSystemCode = fixed 0x0C 0 0 0 0
fields_of (RequestBlockInformation codes) = listed 0x0E 0 codes
fields_of (Authentication1 areas services) = fields 0x10 0 areas services no_part no_part 0 0 0 0 no_part Property1
fields_of Authentication2 = fixed 0x12 0 0 0 0
fields_of (Read elements) = blocks 0x14 no_part elements no_part
fields_of (Write elements d) = blocks 0x16 no_part elements d
fields_of (ReadV2 elements) = blocks 0x44 no_part elements no_part
fields_of (WriteV2 elements d) = blocks 0x46 no_part elements d
fields_of (RequestCodeList parent index) = fixed 0x1A parent.0 index 0 0
fields_of (RequestBlockInformationEx codes) = listed 0x1E 0 codes
fields_of (SetParameter encryption packet) = fixed 0x20 0 0 (encryption_byte encryption) (packet_byte packet)
fields_of GetContainerIssueInformation = fixed 0x22 0 0 0 0
fields_of (GetAreaInformation node) = fixed 0x24 node.0 0 0 0
fields_of (GetNodeProperty type codes) = listed 0x28 (node_property_byte type) codes
fields_of (GetContainerProperty property) = fields 0x2E 0 no_part no_part no_part no_part (property_index property) 0 0 0 no_part property
fields_of (RequestServiceV2 codes) = listed 0x32 0 codes
fields_of GetSystemStatus = fixed 0x38 0 0 0 0
fields_of RequestProductInformation = fixed 0x3A 0 0 0 0
fields_of RequestSpecificationVersion = fixed 0x3C 0 0 0 0
fields_of ResetMode = fixed 0x3E 0 0 0 0
fields_of (Authentication1V2 operation codes) = listed 0x40 operation codes
fields_of Authentication2V2 = fixed 0x42 0 0 0 0
fields_of GetContainerId = fixed 0x70 0 0 0 0
fields_of (RegisterIssueId p) = packed 0x80 0 p
fields_of (RegisterArea area p) = packed 0x82 area.0 p
fields_of (RegisterService service p) = packed 0x84 service.0 p
fields_of ChangeSystemBlock = fixed 0x8E 0 0 0 0

-- the command of these fields, with the parts in the payload s and the arrays beside them
abbrev pub command_is : List ℕ → List ℕ → List ℕ → Fields → Command
command_is s idm challenge f =
    command_of f.code idm f.selector (codes_at s f.first) (codes_at s f.second) (elements_at s f.elements) (bytes_at s f.block_data)
    (end_fields f.number f.index f.option f.choice challenge) (bytes_at s f.issue_package)

-- "A refusal gives its number and, from 4 up, the command code"
abbrev pub refusal_is : Refusal → Reading
refusal_is why = refused (number_of why.reason) why.command_code

-- a result of the parser, and how many elements of its command were long
abbrev pub ParserResult : Type 0
ParserResult = Result Parsed Refusal

abbrev pub long_of : ParserResult → ℕ
long_of (Ok p) = p.long
long_of (Err why) = 0

-- what a result says of the payload s
abbrev pub meaning : List ℕ → ParserResult → Reading
meaning s (Ok p) = gives (command_is s p.idm p.challenge (fields_of p.command)) p.long
meaning s (Err why) = refusal_is why

-- What `meaning` leaves open is pinned: a property is the one of its number, so that `Unknown` never holds 0 or 1.
abbrev pub Canonical : ParserResult → Type 0
Canonical (Ok p) = (fields_of p.command).property ≡ property_of (property_index (fields_of p.command).property)
Canonical (Err why) = Unit {0}

abbrev pub refusal : Reason → Option ℕ → Refusal
refusal reason code = record { reason = reason; command_code = code }

-- a command that has neither IDm nor challenge
abbrev pub bare : FelicaStandardCommand → Parsed
bare command = record { command = command; idm = zeros 8; challenge = zeros 16; long = 0 }
