-- The number of each typed value, and the typed value of a number.
-- Assumes nothing.
use Rattle.std.specs.Prelude.{◌≡◌, ℕ, cond, eqb, Option, Some, None}
use Rattle.felica_format.specs.Command.{Element}
use Rattle.felica_command.specs.declared.types.BlockListElement.{BlockListElement}
use Rattle.felica_command.specs.declared.types.ContainerProperty.{ContainerProperty}
use Rattle.felica_command.specs.declared.types.ContainerProperty.TheVariants.{Property1, Property2, Unknown}
use Rattle.felica_command.specs.declared.types.NodePropertyType.{NodePropertyType}
use Rattle.felica_command.specs.declared.types.NodePropertyType.TheVariants.{ValueLimitedPurseService, MacCommunication}
use Rattle.felica_command.specs.declared.types.SetParameterEncryptionType.{SetParameterEncryptionType}
use Rattle.felica_command.specs.declared.types.SetParameterEncryptionType.TheVariants.{SrmType1, SrmType2}
use Rattle.felica_command.specs.declared.types.SetParameterPacketType.{SetParameterPacketType}
use Rattle.felica_command.specs.declared.types.SetParameterPacketType.TheVariants.{NodeCodeSize2, NodeCodeSize4}

-- "`ContainerProperty::Unknown` never comes out of parsing with 0 or 1."
abbrev pub property_of : ℕ → ContainerProperty
property_of n = cond (eqb n 0) Property1 (cond (eqb n 1) Property2 (Unknown n))

abbrev pub property_index : ContainerProperty → ℕ
property_index Property1 = 0
property_index Property2 = 1
property_index (Unknown n) = n

-- the type that a byte names, of two types
abbrev pub type_of : {T : Type 0} → T → T → ℕ → Option T
type_of first second b = cond (eqb b 0x00) (Some first) (cond (eqb b 0x01) (Some second) None)

-- a type is the type of its byte, and a byte that names a type is that type's
pub record TypeByte {T : Type 0} (byte : T → ℕ) (typed : ℕ → Option T) : Type 0 where
  pub back : (t : T) → typed (byte t) ≡ Some t
  pub only : (b : ℕ) (t : T) → typed b ≡ Some t → b ≡ byte t

-- "type 00 or 01" of 28
abbrev pub node_property_byte : NodePropertyType → ℕ
node_property_byte ValueLimitedPurseService = 0x00
node_property_byte MacCommunication = 0x01

abbrev pub node_property_type_of : ℕ → Option NodePropertyType
node_property_type_of b = type_of ValueLimitedPurseService MacCommunication b

-- "type 00 or 01, type 00 or 01" of 20
abbrev pub encryption_byte : SetParameterEncryptionType → ℕ
encryption_byte SrmType1 = 0x00
encryption_byte SrmType2 = 0x01

abbrev pub encryption_type_of : ℕ → Option SetParameterEncryptionType
encryption_type_of b = type_of SrmType1 SrmType2 b

abbrev pub packet_byte : SetParameterPacketType → ℕ
packet_byte NodeCodeSize2 = 0x00
packet_byte NodeCodeSize4 = 0x01

abbrev pub packet_type_of : ℕ → Option SetParameterPacketType
packet_type_of b = type_of NodeCodeSize2 NodeCodeSize4 b

-- an element of a block list
abbrev pub element_is : BlockListElement → Element
element_is e = record { number = e.block_number_or_key_version.0; place = e.service_code_list_index; mode = e.access_mode }
