-- How long the lines are: the longest is that of a package.
-- Assumes nothing.
use Rattle.std.proofs.Common.{ℕ, ◌+◌, ◌*◌, ◌≤◌, ◌<◌, ◌≡◌, refl, sym, ap, ◌∙◌, subst, Bool, true, false, List, ◌++◌, length, length-append, length-drop, length-take, length-take-le, take, drop, Ok, Err, arith, ltb, ltb-false, Option, None, Some}
use Rattle.std.proofs.Math.Nat.{min-le_right}
use Rattle.std.proofs.Math.Seq.{take-append_seam}
use Rattle.felica_format.specs.Command.{Command}
use Rattle.felica_format.specs.Layout.{Layout, layout_of}
use Rattle.felica_format.specs.Read.{Answer as Reading, gives, refused}
use Rattle.felica_format.specs.Reasons.{number_of}
use Rattle.felica_format.specs.Writable.{written}
use Rattle.felica_format.proofs.Rows.{every_layout}
use Rattle.felica_command.specs.declared.command.Part.{Part}
use Rattle.felica_command.specs.declared.command.FelicaStandardCommand.{FelicaStandardCommand}
use Rattle.felica_command.specs.declared.command.FelicaStandardCommand.TheVariants.{Polling, RequestService, RequestResponse, ReadWithoutEncryption}
use Rattle.felica_command.specs.declared.command.FelicaStandardCommand.TheVariants.{WriteWithoutEncryption, SearchServiceCode, RequestSystemCode}
use Rattle.felica_command.specs.declared.command.FelicaStandardCommand.TheVariants.{RequestBlockInformation, Authentication1, Authentication2, Read}
use Rattle.felica_command.specs.declared.command.FelicaStandardCommand.TheVariants.{Write, ReadV2, WriteV2, RequestCodeList}
use Rattle.felica_command.specs.declared.command.FelicaStandardCommand.TheVariants.{RequestBlockInformationEx, SetParameter}
use Rattle.felica_command.specs.declared.command.FelicaStandardCommand.TheVariants.{GetContainerIssueInformation, GetAreaInformation}
use Rattle.felica_command.specs.declared.command.FelicaStandardCommand.TheVariants.{GetNodeProperty, GetContainerProperty, RequestServiceV2}
use Rattle.felica_command.specs.declared.command.FelicaStandardCommand.TheVariants.{GetSystemStatus, RequestProductInformation}
use Rattle.felica_command.specs.declared.command.FelicaStandardCommand.TheVariants.{RequestSpecificationVersion, ResetMode, Authentication1V2}
use Rattle.felica_command.specs.declared.command.FelicaStandardCommand.TheVariants.{Authentication2V2, GetContainerId, RegisterIssueId, RegisterArea}
use Rattle.felica_command.specs.declared.command.FelicaStandardCommand.TheVariants.{RegisterService, ChangeSystemBlock}
use Rattle.felica_command.specs.Meaning.{bytes_at, Fields, fields_of, command_is, ParserResult}
use Rattle.felica_command.specs.Places.{Places, places_in, blocks_part, blocks_at, layout_places, read_places, Account}
use Rattle.felica_command.proofs.Inside.{words_of_length}
use Rattle.felica_command.proofs.Few.{FewIn}
use Rattle.felica_text.specs.Text.{text, bytes_text, word_text, nibble_text, decimal_text}
use Rattle.felica_text.proofs.Text.{decimal_length}
use Rattle.felica_text.proofs.Length.{bytes_length, parted_length}
use Rattle.felica_fields.specs.Field.{first_field, second_field, blocks_field, data_field, package_field, challenge8, challenge16, issue_fields}
use Rattle.felica_fields.specs.Refused.{refused_text}
use Rattle.felica_fields.proofs.Length.{codes_length, blocks_length, refused_length}
use Rattle.felica_lists.specs.Lists.{Buffers, fits, lists_of, listed_if, listed}
use Rattle.felica_write.specs.Writing.{stored, store, writing}
use Rattle.felica_answers.specs.Answer.{Row, row_of, idm_text, row_text, line_of}
use Rattle.felica_answers.specs.Long.{long_line}
use Rattle.felica_answers.specs.Lists.{lists_text, list_line}
use Rattle.felica_answers.specs.Written.{written_line}

-- ── a field ─────────────────────────────────────────────────────────────────
first_length : (s : List ℕ) (p : Part) → length (first_field s p) ≤ 5 * p.count + 8
first_length s p = let long = codes_length s p in simp length-append (omega arith)

second_length : (s : List ℕ) (p : Part) → length (second_field s p) ≤ 5 * p.count + 9
second_length s p = let long = codes_length s p in simp length-append (omega arith)

blocks_field_length : (s : List ℕ) (p : Part) → length (blocks_field s p) ≤ 9 * p.count + 9
blocks_field_length s p = let long = blocks_length s p in simp length-append (omega arith)

data_length : (s : List ℕ) (p : Part) → length (data_field s p) ≤ 2 * length (bytes_at s p) + 7
data_length s p = let long = bytes_length (bytes_at s p) in simp length-append (omega arith)

package_length : (s : List ℕ) (p : Part) → length (package_field s p) ≤ 2 * length (bytes_at s p) + 10
package_length s p = let long = bytes_length (bytes_at s p) in simp length-append (omega arith)

module _ (ch : List ℕ) (whole : length ch ≡ 16) where
  half : length (take 8 ch) ≡ 8
  half = length-take-le 8 ch (omega arith)

  challenge8_length : length (challenge8 ch) ≤ 28
  challenge8_length = let n = half in let long = bytes_length (take 8 ch) in simp length-append (omega arith)

  challenge16_length : length (challenge16 ch) ≤ 44
  challenge16_length = let long = bytes_length ch in simp length-append (omega arith)

  issue_length : length (issue_fields ch) ≤ 61
  issue_length =
      let n = half in
      let m : length (drop 8 ch) ≡ 8 = length-drop 8 ch ∙ omega arith in
      let issue_id = bytes_length (take 8 ch) in
      let parameter = bytes_length (drop 8 ch) in
      simp length-append (omega arith)

-- ── a row ───────────────────────────────────────────────────────────────────
idm_length : (there : Bool) (idm : List ℕ) → length idm ≡ 8 → length (idm_text there idm) ≤ 22
idm_length true idm whole = let long = bytes_length idm in simp length-append (omega arith)
idm_length false idm whole = omega arith

abbrev Short : Row → Type 0
Short r = length r.codes + length r.blocks + length r.fixed + length r.issue_package ≤ 32850

row_within : (r : Row) (idm : List ℕ) → length idm ≡ 8 → Short r → length (row_text idm r) ≤ 32872
row_within r idm whole h = let long = idm_length r.idm idm whole in simp length-append (omega (arith, h, long))

-- what the fields of a command hold, with its IDm and the sixteen bytes beside it
record Small (s i ch : List ℕ) (f : Fields) : Type 0 where
  idm : length i ≡ 8
  challenge : length ch ≡ 16
  first : f.first.count ≤ 255
  second : f.second.count ≤ 255
  elements : f.elements.count ≤ 255
  block_data : length (bytes_at s f.block_data) ≤ 4080
  issue_package : length (bytes_at s f.issue_package) ≤ 16384

row_short : (s idm ch : List ℕ) (kind : FelicaStandardCommand) → Small s idm ch (fields_of kind) → Short (row_of s ch kind)
unfolding row_of
row_short s idm ch (Polling system request slots) h = omega arith
row_short s idm ch (RequestService codes) h = omega (arith, h.first, first_length s codes)
row_short s idm ch RequestResponse h = omega arith
row_short s idm ch (ReadWithoutEncryption codes elements) h = omega (arith, h.first, h.elements, first_length s codes, blocks_field_length s elements)
row_short s idm ch (WriteWithoutEncryption codes elements d) h = simp length-append (omega (arith, h.first, h.elements, h.block_data, first_length s codes, blocks_field_length s elements, data_length s d))
row_short s idm ch (SearchServiceCode index) h = omega arith
row_short s idm ch RequestSystemCode h = omega arith
row_short s idm ch (RequestBlockInformation codes) h = omega (arith, h.first, first_length s codes)
row_short s idm ch (Authentication1 areas services) h = simp length-append (omega (arith, h.first, h.second, first_length s areas, second_length s services, challenge8_length ch h.challenge))
row_short s idm ch Authentication2 h = omega (arith, challenge8_length ch h.challenge)
row_short s idm ch (Read elements) h = omega (arith, h.elements, blocks_field_length s elements)
row_short s idm ch (Write elements d) h = simp length-append (omega (arith, h.elements, h.block_data, blocks_field_length s elements, data_length s d))
row_short s idm ch (ReadV2 elements) h = omega (arith, h.elements, blocks_field_length s elements)
row_short s idm ch (WriteV2 elements d) h = simp length-append (omega (arith, h.elements, h.block_data, blocks_field_length s elements, data_length s d))
row_short s idm ch (RequestCodeList parent index) h = omega arith
row_short s idm ch (RequestBlockInformationEx codes) h = omega (arith, h.first, first_length s codes)
row_short s idm ch (SetParameter encryption packet) h = omega arith
row_short s idm ch GetContainerIssueInformation h = omega arith
row_short s idm ch (GetAreaInformation node) h = omega arith
row_short s idm ch (GetNodeProperty type codes) h = simp length-append (omega (arith, h.first, first_length s codes))
row_short s idm ch (GetContainerProperty property) h = omega arith
row_short s idm ch (RequestServiceV2 codes) h = omega (arith, h.first, first_length s codes)
row_short s idm ch GetSystemStatus h = omega arith
row_short s idm ch RequestProductInformation h = omega arith
row_short s idm ch RequestSpecificationVersion h = omega arith
row_short s idm ch ResetMode h = omega arith
row_short s idm ch (Authentication1V2 operation codes) h = simp length-append (omega (arith, h.first, first_length s codes, challenge16_length ch h.challenge))
row_short s idm ch Authentication2V2 h = omega (arith, challenge16_length ch h.challenge)
row_short s idm ch GetContainerId h = omega arith
row_short s idm ch (RegisterIssueId p) h = omega (arith, h.issue_package, issue_length ch h.challenge, package_length s p)
row_short s idm ch (RegisterArea area p) h = omega (arith, h.issue_package, package_length s p)
row_short s idm ch (RegisterService service p) h = omega (arith, h.issue_package, package_length s p)
row_short s idm ch ChangeSystemBlock h = omega arith

-- ── a result ────────────────────────────────────────────────────────────────
part_few : (b : Bool) (at n : ℕ) → (blocks_part b at n).count ≤ n
part_few true at n = omega arith
part_few false at n = omega arith

pub take_few : (n : ℕ) (l : List ℕ) → length (take n l) ≤ length l
take_few n l = rw (length-take n l) (min-le_right n (length l))

part_short : (s : List ℕ) (p : Part) → length (bytes_at s p) ≤ length s
part_short s p =
    let few = take_few p.count (drop p.start s) in
    let behind = length-drop p.start s in
    omega (arith, few, behind)

small : (s idm ch : List ℕ) (at long : ℕ) (f : Fields) → FewIn (gives (command_is s idm ch f) long)
    → places_in f ≡ read_places at s (gives (command_is s idm ch f) long) → length s ≤ 16384 → Small s idm ch f
unfolding layout_places
small s idm ch at long f (code, few) places short =
    let c : Command = command_is s idm ch f in
    let l : Layout = layout_of c.code in
    let narrow = every_layout code in
    let first : length c.first ≡ f.first.count = words_of_length f.first.count (drop f.first.start s) in
    let second : length c.second ≡ f.second.count = words_of_length f.second.count (drop f.second.start s) in
    let elements : f.elements.count ≡ (blocks_part l.elements (blocks_at l at c) (length c.numbers)).count = ap (λ (q : Places). q.elements.count) places in
    let fewer : (blocks_part l.elements (blocks_at l at c) (length c.numbers)).count ≤ length c.numbers = part_few l.elements (blocks_at l at c) (length c.numbers) in
    let pack = part_short s f.issue_package in
    record {
      idm = few.idm;
      challenge = few.challenge;
      first = omega (arith, first, few.first, narrow.first);
      second = omega (arith, second, few.second, narrow.second);
      elements = omega (arith, elements, fewer, few.blocks);
      block_data = few.block_data;
      issue_package = omega (arith, pack, short);
    }

-- the line of a result for a payload of at most 16,384 bytes
pub answer_length : (s : List ℕ) (at : ℕ) (reading : Reading) (p : ParserResult) → FewIn reading → length s ≤ 16384 → Account s at reading p
    → length (line_of s p) ≤ 32877
answer_length s at reading (Ok p) few short (says, places, canonical) =
    let given = subst FewIn (sym says) few in
    let stand = subst (λ (r : Reading). places_in (fields_of p.command) ≡ read_places at s r) (sym says) places in
    let few = small s p.idm p.challenge at p.long (fields_of p.command) given stand short in
    let fields = row_within (row_of s p.challenge p.command) p.idm few.idm (row_short s p.idm p.challenge p.command few) in
    omega (arith, fields)
answer_length s at reading (Err why) few short (says, places, canonical) =
    let number : number_of why.reason ≤ 20 = subst FewIn (sym says) few in
    let line = refused_length (number_of why.reason) why.command_code (omega arith) in
    omega (arith, line)

-- how many elements were long
pub long_length : (reading : Reading) → FewIn reading → length (long_line reading) ≤ 12
long_length (gives c long) (code, few) = let digits = decimal_length 2 long (omega (arith, few.longs)) in simp length-append (omega (arith, digits))
long_length (refused n code) few = let line = refused_length n code (omega (arith, few)) in omega (arith, line)

-- the five lists
lists_length : (code : ℕ) (first second numbers places modes : List ℕ) → length first ≤ 255 → length second ≤ 255 → length numbers ≤ 255
    → length places ≤ 255 → length modes ≤ 255 → length (lists_text code first second numbers places modes) ≤ 4894
unfolding lists_text
lists_length code first second numbers places modes h₁ h₂ h₃ h₄ h₅ =
    let p₁ = parted_length word_text 4 (λ w. refl) first in
    let p₂ = parted_length word_text 4 (λ w. refl) second in
    let p₃ = parted_length word_text 4 (λ w. refl) numbers in
    let p₄ = parted_length nibble_text 1 (λ n. refl) places in
    let p₅ = parted_length nibble_text 1 (λ n. refl) modes in
    simp length-append (omega arith)

pub list_length : (reading : Reading) (b : Buffers) → FewIn reading → length (list_line (listed reading b).answer) ≤ 4894
list_length (gives c long) b (code, few) = go (fits (lists_of c) b)
  where
    go : (fit : Bool) → length (list_line (listed_if fit c long b).answer) ≤ 4894
    go true =
        let narrow = every_layout code in
        let first : length c.first ≤ 255 = omega (arith, few.first, narrow.first) in
        let second : length c.second ≤ 255 = omega (arith, few.second, narrow.second) in
        lists_length c.code c.first c.second c.numbers c.places c.modes first second few.blocks few.places few.modes
    go false = let line = refused_length 21 (Some c.code) (omega arith) in omega (arith, line)
list_length (refused n code) b few = let line = refused_length n code (omega (arith, few)) in omega (arith, line)

-- what the writer wrote to a buffer of at most 16,384 bytes
pub written_length : (c : Command) (buffer : List ℕ) → length buffer ≤ 16384 → length (written_line (writing c buffer)) ≤ 32778
unfolding writing
written_length c buffer short = go (written c)
  where
    unwritten : (n : ℕ) → n < 100 → length (refused_text n (Some c.code)) ≤ 32778
    unwritten n h = let line = refused_length n (Some c.code) h in omega (arith, line)

    fit : (s : List ℕ) (small : Bool) → ltb (length buffer) (length s) ≡ small → length (written_line (stored small c.code s buffer)) ≤ 32778
    fit s true q = unwritten 21 (omega arith)
    fit s false q =
        let within : length s ≤ length buffer = ltb-false (length buffer) (length s) q in
        let digits = decimal_length 4 (length s) (omega (arith, within, short)) in
        let line = bytes_length s in
        let both = length-append (decimal_text (length s)) (text " " ++ bytes_text s) in
        rw (take-append_seam s (drop (length s) buffer)) (omega (arith, both, digits, line, within, short))

    go : (w : Option (List ℕ)) → length (written_line (store c.code w buffer)) ≤ 32778
    go None = unwritten 22 (omega arith)
    go (Some s) = fit s (ltb (length buffer) (length s)) refl
