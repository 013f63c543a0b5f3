-- A byte has a type exactly when it is 0 or 1, and is then that type's byte; each type is the type of its byte.
-- Assumes nothing.
use Rattle.std.specs.Prelude.{Some, None}
use Rattle.std.proofs.Common.{ℕ, ◌<◌, ◌≡◌, refl, sym, ap, ◌∙◌, Bool, true, false, cond, arith}
use Rattle.std.proofs.Math.Dec.{ltb, eqb}
use Rattle.std.proofs.lemmas.Bool.{eqb-true, eqb-false, lt-ltb, le-ltb}
use Rattle.felica_command.specs.Types.{property_of, property_index, TypeByte}
use Rattle.felica_command.specs.Types.{node_property_type_of, node_property_byte, encryption_type_of, encryption_byte, packet_type_of, packet_byte}
use Rattle.felica_command.specs.declared.types.ContainerProperty.{ContainerProperty}
use Rattle.felica_command.specs.declared.types.ContainerProperty.TheVariants.{Property1, Property2, Unknown}
use Rattle.felica_command.specs.declared.types.NodePropertyType.{NodePropertyType}
use Rattle.felica_command.specs.declared.types.NodePropertyType.TheVariants.{ValueLimitedPurseService, MacCommunication}
use Rattle.felica_command.specs.declared.types.SetParameterEncryptionType.{SetParameterEncryptionType}
use Rattle.felica_command.specs.declared.types.SetParameterEncryptionType.TheVariants.{SrmType1, SrmType2}
use Rattle.felica_command.specs.declared.types.SetParameterPacketType.{SetParameterPacketType}
use Rattle.felica_command.specs.declared.types.SetParameterPacketType.TheVariants.{NodeCodeSize2, NodeCodeSize4}

-- the byte of a type with two values x and y
module _ {T : Type 0} (byte : T → ℕ) (x y : T) (b : ℕ) where
  defined : (t : T) → byte x ≡ 0 → byte y ≡ 1 → cond (eqb b 0) (Some x) (cond (eqb b 1) (Some y) None) ≡ Some t → (ltb 1 b ≡ false) × (b ≡ byte t)
  defined t zero_is one_is = go (eqb b 0) (eqb b 1) refl refl
    where
      go : (p q : Bool) → eqb b 0 ≡ p → eqb b 1 ≡ q → cond p (Some x) (cond q (Some y) None) ≡ Some t → (ltb 1 b ≡ false) × (b ≡ byte t)
      go true q e f h = let z : b ≡ 0 = eqb-true b 0 e in let same : x ≡ t = cc in (le-ltb 1 b (omega arith), rw (← same) (z ∙ sym zero_is))
      go false true e f h = let z : b ≡ 1 = eqb-true b 1 f in let same : y ≡ t = cc in (le-ltb 1 b (omega arith), rw (← same) (z ∙ sym one_is))
      go false false e f h = cc

  undefined : cond (eqb b 0) (Some x) (cond (eqb b 1) (Some y) None) ≡ None → ltb 1 b ≡ true
  undefined = go (eqb b 0) (eqb b 1) refl refl
    where
      above : (eqb b 0 ≡ false) → (eqb b 1 ≡ false) → 1 < b
      above e f = let p = eqb-false b 0 e in let q = eqb-false b 1 f in omega arith

      go : (p q : Bool) → eqb b 0 ≡ p → eqb b 1 ≡ q → cond p (Some x) (cond q (Some y) None) ≡ None → ltb 1 b ≡ true
      go true q e f h = cc
      go false true e f h = cc
      go false false e f h = lt-ltb 1 b (above e f)

pub property_defined : (b : ℕ) (t : NodePropertyType) → node_property_type_of b ≡ Some t → (ltb 1 b ≡ false) × (b ≡ node_property_byte t)
property_defined b t = defined node_property_byte ValueLimitedPurseService MacCommunication b t refl refl

pub property_undefined : (b : ℕ) → node_property_type_of b ≡ None → ltb 1 b ≡ true
property_undefined b = undefined node_property_byte ValueLimitedPurseService MacCommunication b

pub encryption_defined : (b : ℕ) (t : SetParameterEncryptionType) → encryption_type_of b ≡ Some t → (ltb 1 b ≡ false) × (b ≡ encryption_byte t)
encryption_defined b t = defined encryption_byte SrmType1 SrmType2 b t refl refl

pub encryption_undefined : (b : ℕ) → encryption_type_of b ≡ None → ltb 1 b ≡ true
encryption_undefined b = undefined encryption_byte SrmType1 SrmType2 b

pub packet_defined : (b : ℕ) (t : SetParameterPacketType) → packet_type_of b ≡ Some t → (ltb 1 b ≡ false) × (b ≡ packet_byte t)
packet_defined b t = defined packet_byte NodeCodeSize2 NodeCodeSize4 b t refl refl

pub packet_undefined : (b : ℕ) → packet_type_of b ≡ None → ltb 1 b ≡ true
packet_undefined b = undefined packet_byte NodeCodeSize2 NodeCodeSize4 b

pub property_typed : TypeByte node_property_byte node_property_type_of
property_typed = record { back = property_back; only = λ b t e. (property_defined b t e).1 }
  where
    property_back : (t : NodePropertyType) → node_property_type_of (node_property_byte t) ≡ Some t
    property_back ValueLimitedPurseService = refl
    property_back MacCommunication = refl

pub encryption_typed : TypeByte encryption_byte encryption_type_of
encryption_typed = record { back = encryption_back; only = λ b t e. (encryption_defined b t e).1 }
  where
    encryption_back : (t : SetParameterEncryptionType) → encryption_type_of (encryption_byte t) ≡ Some t
    encryption_back SrmType1 = refl
    encryption_back SrmType2 = refl

pub packet_typed : TypeByte packet_byte packet_type_of
packet_typed = record { back = packet_back; only = λ b t e. (packet_defined b t e).1 }
  where
    packet_back : (t : SetParameterPacketType) → packet_type_of (packet_byte t) ≡ Some t
    packet_back NodeCodeSize2 = refl
    packet_back NodeCodeSize4 = refl

-- the property of an index has that index
pub index_of_property : (n : ℕ) → property_index (property_of n) ≡ n
index_of_property n = go (eqb n 0) (eqb n 1) refl refl
  where
    go : (p q : Bool) → eqb n 0 ≡ p → eqb n 1 ≡ q → property_index (cond p Property1 (cond q Property2 (Unknown n))) ≡ n
    go true q e f = sym (eqb-true n 0 e)
    go false true e f = sym (eqb-true n 1 f)
    go false false e f = refl

pub property_canonical : (n : ℕ) (p : ContainerProperty) → p ≡ property_of n → p ≡ property_of (property_index p)
property_canonical n p e = e ∙ ap property_of (sym (ap property_index e ∙ index_of_property n))
