-- The line that answers a call of the parser: `OK cc field=value ...`, or `NO n cc`, `NO n --` where the refusal has no code.
-- Assumes nothing.
use Rattle.std.specs.Prelude.{ℕ, Bool, true, false, List, [], ◌++◌}
use Rattle.felica_command.specs.Types.{property_index, node_property_byte, encryption_byte, packet_byte}
use Rattle.std.specs.Prelude.{Ok, Err}
use Rattle.felica_command.specs.Meaning.{fields_of, ParserResult}
use Rattle.felica_command.specs.declared.command.FelicaStandardCommand.{FelicaStandardCommand}
use Rattle.felica_command.specs.declared.command.FelicaStandardCommand.TheVariants.{Polling, RequestService, RequestResponse, ReadWithoutEncryption}
use Rattle.felica_command.specs.declared.command.FelicaStandardCommand.TheVariants.{WriteWithoutEncryption, SearchServiceCode, RequestSystemCode}
use Rattle.felica_command.specs.declared.command.FelicaStandardCommand.TheVariants.{RequestBlockInformation, Authentication1, Authentication2, Read}
use Rattle.felica_command.specs.declared.command.FelicaStandardCommand.TheVariants.{Write, ReadV2, WriteV2, RequestCodeList}
use Rattle.felica_command.specs.declared.command.FelicaStandardCommand.TheVariants.{RequestBlockInformationEx, SetParameter}
use Rattle.felica_command.specs.declared.command.FelicaStandardCommand.TheVariants.{GetContainerIssueInformation, GetAreaInformation}
use Rattle.felica_command.specs.declared.command.FelicaStandardCommand.TheVariants.{GetNodeProperty, GetContainerProperty, RequestServiceV2}
use Rattle.felica_command.specs.declared.command.FelicaStandardCommand.TheVariants.{GetSystemStatus, RequestProductInformation}
use Rattle.felica_command.specs.declared.command.FelicaStandardCommand.TheVariants.{RequestSpecificationVersion, ResetMode, Authentication1V2}
use Rattle.felica_command.specs.declared.command.FelicaStandardCommand.TheVariants.{Authentication2V2, GetContainerId, RegisterIssueId, RegisterArea}
use Rattle.felica_command.specs.declared.command.FelicaStandardCommand.TheVariants.{RegisterService, ChangeSystemBlock}
use Rattle.felica_text.specs.Text.{text, byte_text}
use Rattle.felica_fields.specs.Field.{byte_field, word_field, idm_field, first_field, second_field, blocks_field, data_field, package_field}
use Rattle.felica_fields.specs.Field.{challenge8, challenge16, issue_fields}
use Rattle.felica_fields.specs.Refused.{refusal_text}

-- the fields of a command in the order of the layouts: the IDm or none, codes with what stands before them, blocks with their data,
-- fixed fields, package
pub record Row : Type 0 where
  pub idm : Bool
  pub codes : List ℕ
  pub blocks : List ℕ
  pub fixed : List ℕ
  pub issue_package : List ℕ

abbrev pub row : Bool → List ℕ → List ℕ → List ℕ → List ℕ → Row
row idm codes blocks fixed issue_package =
    record { idm = idm; codes = codes; blocks = blocks; fixed = fixed; issue_package = issue_package }

-- the fields of each command in their order, read in the payload s, with the 16 bytes beside the command
unfoldable pub row_of : List ℕ → List ℕ → FelicaStandardCommand → Row
row_of s ch (Polling system request slots) =
    row false [] [] (word_field " system=" system ++ (byte_field " request=" request ++ byte_field " slots=" slots)) []
row_of s ch (RequestService codes) = row true (first_field s codes) [] [] []
row_of s ch RequestResponse = row true [] [] [] []
row_of s ch (ReadWithoutEncryption codes elements) = row true (first_field s codes) (blocks_field s elements) [] []
row_of s ch (WriteWithoutEncryption codes elements d) = row true (first_field s codes) (blocks_field s elements ++ data_field s d) [] []
row_of s ch (SearchServiceCode index) = row true [] [] (word_field " index=" index) []
row_of s ch RequestSystemCode = row true [] [] [] []
row_of s ch (RequestBlockInformation codes) = row true (first_field s codes) [] [] []
row_of s ch (Authentication1 areas services) = row true (first_field s areas ++ second_field s services) [] (challenge8 ch) []
row_of s ch Authentication2 = row true [] [] (challenge8 ch) []
row_of s ch (Read elements) = row false [] (blocks_field s elements) [] []
row_of s ch (Write elements d) = row false [] (blocks_field s elements ++ data_field s d) [] []
row_of s ch (ReadV2 elements) = row false [] (blocks_field s elements) [] []
row_of s ch (WriteV2 elements d) = row false [] (blocks_field s elements ++ data_field s d) [] []
row_of s ch (RequestCodeList parent index) = row true [] [] (word_field " parent=" parent.0 ++ word_field " index=" index) []
row_of s ch (RequestBlockInformationEx codes) = row true (first_field s codes) [] [] []
row_of s ch (SetParameter encryption packet) =
    row true [] [] (byte_field " encryption=" (encryption_byte encryption) ++ byte_field " packet=" (packet_byte packet)) []
row_of s ch GetContainerIssueInformation = row true [] [] [] []
row_of s ch (GetAreaInformation node) = row true [] [] (word_field " node=" node.0) []
row_of s ch (GetNodeProperty type codes) = row true (byte_field " type=" (node_property_byte type) ++ first_field s codes) [] [] []
row_of s ch (GetContainerProperty property) = row false [] [] (word_field " property=" (property_index property)) []
row_of s ch (RequestServiceV2 codes) = row true (first_field s codes) [] [] []
row_of s ch GetSystemStatus = row true [] [] [] []
row_of s ch RequestProductInformation = row true [] [] [] []
row_of s ch RequestSpecificationVersion = row true [] [] [] []
row_of s ch ResetMode = row true [] [] [] []
row_of s ch (Authentication1V2 operation codes) = row true (byte_field " operation=" operation ++ first_field s codes) [] (challenge16 ch) []
row_of s ch Authentication2V2 = row true [] [] (challenge16 ch) []
row_of s ch GetContainerId = row false [] [] [] []
row_of s ch (RegisterIssueId p) = row false [] [] (issue_fields ch) (package_field s p)
row_of s ch (RegisterArea area p) = row false [] [] (word_field " node=" area.0) (package_field s p)
row_of s ch (RegisterService service p) = row false [] [] (word_field " node=" service.0) (package_field s p)
row_of s ch ChangeSystemBlock = row false [] [] [] []

abbrev pub idm_text : Bool → List ℕ → List ℕ
idm_text true idm = idm_field idm
idm_text false idm = []

abbrev pub row_text : List ℕ → Row → List ℕ
row_text idm r = idm_text r.idm idm ++ (r.codes ++ (r.blocks ++ (r.fixed ++ r.issue_package)))

abbrev pub command_text : List ℕ → List ℕ → List ℕ → FelicaStandardCommand → List ℕ
command_text s idm ch kind = text "OK " ++ (byte_text (fields_of kind).code ++ row_text idm (row_of s ch kind))

-- the line of a result for the payload s
abbrev pub line_of : List ℕ → ParserResult → List ℕ
line_of s (Ok p) = command_text s p.idm p.challenge p.command
line_of s (Err why) = refusal_text why
