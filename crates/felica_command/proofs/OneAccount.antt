-- No two results meet one account: the fields of a command tell its kind.
-- Assumes nothing.
use Rattle.std.proofs.Common.{ℕ, ◌≡◌, refl, sym, ap, ◌∙◌, cond, List, eqb}
use Rattle.std.specs.Prelude.{Option, Result, Ok, Err}
use Rattle.felica_format.specs.declared.error.Reason.{Reason}
use Rattle.felica_format.specs.Reasons.{number_of}
use Rattle.felica_format.specs.Command.{Command}
use Rattle.felica_format.specs.Read.{gives}
use Rattle.felica_command.specs.Types.{property_of, property_index}
use Rattle.felica_command.specs.Meaning.{Fields, fields_of, command_is, refusal_is, refusal, meaning, Canonical}
use Rattle.felica_command.specs.Places.{Places, places_in, places_of, OneAccount}
use Rattle.felica_command.specs.declared.types.NodePropertyType.{NodePropertyType}
use Rattle.felica_command.specs.declared.types.NodePropertyType.TheVariants.{ValueLimitedPurseService, MacCommunication}
use Rattle.felica_command.specs.declared.types.SetParameterEncryptionType.{SetParameterEncryptionType}
use Rattle.felica_command.specs.declared.types.SetParameterEncryptionType.TheVariants.{SrmType1, SrmType2}
use Rattle.felica_command.specs.declared.types.SetParameterPacketType.{SetParameterPacketType}
use Rattle.felica_command.specs.declared.types.SetParameterPacketType.TheVariants.{NodeCodeSize2, NodeCodeSize4}
use Rattle.felica_command.specs.declared.command.Part.{Part}
use Rattle.felica_command.specs.declared.command.FelicaStandardCommand.{FelicaStandardCommand}
use Rattle.felica_command.specs.declared.command.FelicaStandardCommand.TheVariants.{Polling, RequestService, RequestResponse, ReadWithoutEncryption}
use Rattle.felica_command.specs.declared.command.FelicaStandardCommand.TheVariants.{WriteWithoutEncryption, SearchServiceCode, RequestSystemCode}
use Rattle.felica_command.specs.declared.command.FelicaStandardCommand.TheVariants.{RequestBlockInformation, Authentication1, Authentication2, Read}
use Rattle.felica_command.specs.declared.command.FelicaStandardCommand.TheVariants.{Write, ReadV2, WriteV2, RequestCodeList}
use Rattle.felica_command.specs.declared.command.FelicaStandardCommand.TheVariants.{RequestBlockInformationEx, SetParameter}
use Rattle.felica_command.specs.declared.command.FelicaStandardCommand.TheVariants.{GetContainerIssueInformation, GetAreaInformation}
use Rattle.felica_command.specs.declared.command.FelicaStandardCommand.TheVariants.{GetNodeProperty, GetContainerProperty, RequestServiceV2}
use Rattle.felica_command.specs.declared.command.FelicaStandardCommand.TheVariants.{GetSystemStatus, RequestProductInformation}
use Rattle.felica_command.specs.declared.command.FelicaStandardCommand.TheVariants.{RequestSpecificationVersion, ResetMode, Authentication1V2}
use Rattle.felica_command.specs.declared.command.FelicaStandardCommand.TheVariants.{Authentication2V2, GetContainerId, RegisterIssueId, RegisterArea}
use Rattle.felica_command.specs.declared.command.FelicaStandardCommand.TheVariants.{RegisterService, ChangeSystemBlock}
use Rattle.felica_command.specs.declared.command.Parsed.{Parsed}
use Rattle.felica_command.specs.declared.command.Refusal.{Refusal}
use Rattle.felica_format.proofs.Reasons.{one_reason}

-- the kind that has these fields
kind_with : ℕ → ℕ → Places → ℕ → ℕ → ℕ → ℕ → FelicaStandardCommand
kind_with code selector at number index option choice =
    cond (eqb code 0x00) (Polling number option choice) (
    cond (eqb code 0x02) (RequestService at.first) (
    cond (eqb code 0x04) (RequestResponse) (
    cond (eqb code 0x06) (ReadWithoutEncryption at.first at.elements) (
    cond (eqb code 0x08) (WriteWithoutEncryption at.first at.elements at.block_data) (
    cond (eqb code 0x0A) (SearchServiceCode number) (
    cond (eqb code 0x0C) (RequestSystemCode) (
    cond (eqb code 0x0E) (RequestBlockInformation at.first) (
    cond (eqb code 0x10) (Authentication1 at.first at.second) (
    cond (eqb code 0x12) (Authentication2) (
    cond (eqb code 0x14) (Read at.elements) (
    cond (eqb code 0x16) (Write at.elements at.block_data) (
    cond (eqb code 0x44) (ReadV2 at.elements) (
    cond (eqb code 0x46) (WriteV2 at.elements at.block_data) (
    cond (eqb code 0x1A) (RequestCodeList (record { 0 = number }) index) (
    cond (eqb code 0x1E) (RequestBlockInformationEx at.first) (
    cond (eqb code 0x20) (SetParameter (cond (eqb option 0) SrmType1 SrmType2) (cond (eqb choice 0) NodeCodeSize2 NodeCodeSize4)) (
    cond (eqb code 0x22) (GetContainerIssueInformation) (
    cond (eqb code 0x24) (GetAreaInformation (record { 0 = number })) (
    cond (eqb code 0x28) (GetNodeProperty (cond (eqb selector 0) ValueLimitedPurseService MacCommunication) at.first) (
    cond (eqb code 0x2E) (GetContainerProperty (property_of number)) (
    cond (eqb code 0x32) (RequestServiceV2 at.first) (
    cond (eqb code 0x38) (GetSystemStatus) (
    cond (eqb code 0x3A) (RequestProductInformation) (
    cond (eqb code 0x3C) (RequestSpecificationVersion) (
    cond (eqb code 0x3E) (ResetMode) (
    cond (eqb code 0x40) (Authentication1V2 selector at.first) (
    cond (eqb code 0x42) (Authentication2V2) (
    cond (eqb code 0x70) (GetContainerId) (
    cond (eqb code 0x80) (RegisterIssueId at.issue_package) (
    cond (eqb code 0x82) (RegisterArea (record { 0 = number }) at.issue_package) (
    cond (eqb code 0x84) (RegisterService (record { 0 = number }) at.issue_package) (
    ChangeSystemBlock))))))))))))))))))))))))))))))))

kind_of : Fields → FelicaStandardCommand
kind_of f = kind_with f.code f.selector (places_in f) f.number f.index f.option f.choice

kind_same : {code code' selector selector' : ℕ} {at at' : Places} {number number' index index' option option' choice choice' : ℕ} → code ≡ code'
    → selector ≡ selector' → at ≡ at' → number ≡ number' → index ≡ index' → option ≡ option' → choice ≡ choice'
    → kind_with code selector at number index option choice ≡ kind_with code' selector' at' number' index' option' choice'
kind_same a b c d e f g = rw (a, b, c, d, e, f, g)

set_back : (a : SetParameterEncryptionType) (b : SetParameterPacketType) → kind_of (fields_of (SetParameter a b)) ≡ SetParameter a b
unfolding kind_of kind_with
set_back SrmType1 NodeCodeSize2 = refl
set_back SrmType1 NodeCodeSize4 = refl
set_back SrmType2 NodeCodeSize2 = refl
set_back SrmType2 NodeCodeSize4 = refl

node_back : (a : NodePropertyType) (b : Part) → kind_of (fields_of (GetNodeProperty a b)) ≡ GetNodeProperty a b
unfolding kind_of kind_with
node_back ValueLimitedPurseService b = refl
node_back MacCommunication b = refl

kind_back : (k : FelicaStandardCommand) → (fields_of k).property ≡ property_of (property_index (fields_of k).property) → kind_of (fields_of k) ≡ k
unfolding kind_of kind_with
kind_back (Polling a b c) h = refl
kind_back (RequestService a) h = refl
kind_back RequestResponse h = refl
kind_back (ReadWithoutEncryption a b) h = refl
kind_back (WriteWithoutEncryption a b c) h = refl
kind_back (SearchServiceCode a) h = refl
kind_back RequestSystemCode h = refl
kind_back (RequestBlockInformation a) h = refl
kind_back (Authentication1 a b) h = refl
kind_back Authentication2 h = refl
kind_back (Read a) h = refl
kind_back (Write a b) h = refl
kind_back (ReadV2 a) h = refl
kind_back (WriteV2 a b) h = refl
kind_back (RequestCodeList a b) h = refl
kind_back (RequestBlockInformationEx a) h = refl
kind_back (SetParameter a b) h = set_back a b
kind_back GetContainerIssueInformation h = refl
kind_back (GetAreaInformation a) h = refl
kind_back (GetNodeProperty a b) h = node_back a b
kind_back (GetContainerProperty a) h = ap GetContainerProperty (sym h)
kind_back (RequestServiceV2 a) h = refl
kind_back GetSystemStatus h = refl
kind_back RequestProductInformation h = refl
kind_back RequestSpecificationVersion h = refl
kind_back ResetMode h = refl
kind_back (Authentication1V2 a b) h = refl
kind_back Authentication2V2 h = refl
kind_back GetContainerId h = refl
kind_back (RegisterIssueId a) h = refl
kind_back (RegisterArea a b) h = refl
kind_back (RegisterService a b) h = refl
kind_back ChangeSystemBlock h = refl

parsed_same : {k k' : FelicaStandardCommand} {idm idm' challenge challenge' : List ℕ} {long long' : ℕ} → k ≡ k' → idm ≡ idm' → challenge ≡ challenge' → long ≡ long'
    → ◌≡◌ {A = Parsed} (record { command = k; idm = idm; challenge = challenge; long = long }) (record { command = k'; idm = idm'; challenge = challenge'; long = long' })
parsed_same p q r u = rw (p, q, r, u)

commands_one : (s : List ℕ) (p q : Parsed) → p.long ≡ q.long
    → command_is s p.idm p.challenge (fields_of p.command) ≡ command_is s q.idm q.challenge (fields_of q.command) → places_in (fields_of p.command) ≡ places_in (fields_of q.command)
    → Canonical (Ok p) → Canonical (Ok q) → p ≡ q
unfolding kind_of
commands_one s p q count e at h h' =
    let same = kind_same (ap (λ (c : Command). c.code) e) (ap (λ (c : Command). c.selector) e) at (ap (λ (c : Command). c.number) e)
    (ap (λ (c : Command). c.index) e) (ap (λ (c : Command). c.option) e) (ap (λ (c : Command). c.choice) e) in
    parsed_same (sym (kind_back p.command h) ∙ same ∙ kind_back q.command h') (ap (λ (c : Command). c.idm) e) (ap (λ (c : Command). c.challenge) e) count

refusal_same : {a b : Reason} {c d : Option ℕ} → a ≡ b → c ≡ d → refusal a c ≡ refusal b d
refusal_same p q = rw (p, q)

refusals_one : (w w' : Refusal) → refusal_is w ≡ refusal_is w' → w ≡ w'
refusals_one w w' e =
    let number : number_of w.reason ≡ number_of w'.reason = cc in
    let code : w.command_code ≡ w'.command_code = cc in
    refusal_same (one_reason w.reason w'.reason number) code

no_refusal : (c : Command) (long : ℕ) (w : Refusal) → gives c long ≡ refusal_is w → ⊥
no_refusal c long w e = cc

results_one : (s : List ℕ) (r t : Result Parsed Refusal) → meaning s r ≡ meaning s t → places_of r ≡ places_of t → Canonical r → Canonical t → r ≡ t
results_one s (Ok p) (Ok q) e at h h' =
    let same : command_is s p.idm p.challenge (fields_of p.command) ≡ command_is s q.idm q.challenge (fields_of q.command) = cc in
    let count : p.long ≡ q.long = cc in
    ap Ok (commands_one s p q count same at h h')
results_one s (Ok p) (Err w) e at h h' = absurd (no_refusal _ _ w e)
results_one s (Err w) (Ok p) e at h h' = absurd (no_refusal _ _ w (sym e))
results_one s (Err w) (Err w') e at h h' = ap Err (refusals_one w w' e)

pub one_account : OneAccount
one_account s at reading r t (m, p, c) (m', p', c') = results_one s r t (m ∙ sym m') (p ∙ sym p') c c'
