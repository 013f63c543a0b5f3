-- A walk along a body: what each part of its layout gave, one that the layout lacks among them, and the result that these make.
-- Assumes nothing.
use Rattle.std.proofs.Common.{◌≡◌, ℕ, ◌+◌, ◌*◌, true, false, Bool, List, [], map, length, drop, Result, Ok, Err, Some, IsErrAnd, MatchResult, refl, sym, ap, ◌∙◌, arith, add-zero}
use Rattle.std.proofs.lemmas.Bool.{le-ltb}
use Rattle.std.proofs.lemmas.List.{length-map}
use Rattle.std.proofs.lemmas.Result.{err_from_is_err_and}
use Rattle.felica_format.specs.Basic.{taken, refuse, bind, refuse_if, zeros}
use Rattle.felica_format.specs.Command.{Command, EndFields, Element, Formed, long_count, command_of, no_fields}
use Rattle.felica_format.specs.Layout.{Selector, no_selector, Codes, no_codes, ◌to◌, Ending, bare, Behind, nothing, ignored_bytes, a_package, Layout, layout, layout_of}
use Rattle.felica_format.specs.Read.{read_idm, read_selector, words_of, read_codes, read_each, read_elements, read_data, size_of, read_ending, read_values, read_package, if_codes}
use Rattle.felica_format.specs.Read.{counted, read_body, answer_of}
use Rattle.felica_format.specs.Reasons.{number_of}
use Rattle.felica_format.specs.declared.error.Reason.{Reason}
use Rattle.felica_command.specs.Types.{property_of, property_index}
use Rattle.felica_command.specs.Meaning.{part, no_part, codes_at, formed_at, bytes_at, Fields, fields, fields_of, command_is, refusal, bare as bare_parsed}
use Rattle.felica_command.specs.Places.{first_at, idm_size, selector_size, codes_part, codes_size, elements_size, blocks_part, blocks_size, data_part, package_part, layout_places, places_in, Account}
use Rattle.felica_command.specs.declared.types.ContainerProperty.{ContainerProperty}
use Rattle.felica_command.specs.declared.command.Part.{Part}
use Rattle.felica_command.specs.declared.command.FelicaStandardCommand.{FelicaStandardCommand}
use Rattle.felica_command.specs.declared.command.Parsed.{Parsed}
use Rattle.felica_command.specs.declared.command.Refusal.{Refusal}
use Rattle.felica_command.proofs.Inside.{words_of_length}
use Rattle.felica_command.proofs.Spots.{places_eq, part_eq, data_whole, package_whole}
use Rattle.felica_cursor.specs.Taken.{rest, moved, itself, Takes, To}
use Rattle.felica_cursor.specs.Steps.{elements_in, CodesFrom, ElementsFrom, DataFrom}
use Rattle.felica_cursor.specs.Body.{BodyRead, result_of}
use Rattle.felica_cursor.specs.declared.cursor.Blocks.{Blocks}
use Rattle.felica_cursor.specs.declared.cursor.Cursor.{Cursor}

-- the steps of a body, in field order
pub body : (code : ℕ) (l : Layout) (s : List ℕ) → read_body code l s ≡ (bind (read_idm l.idm s) λ idm s₁.
    bind (read_selector l.selector s₁) λ selector s₂.
    bind (read_codes 9 10 l.first s₂) λ first s₃.
    bind (read_codes 11 12 l.second s₃) λ second s₄.
    bind (read_elements (if_codes l.first 11 9) (if_codes l.first 12 10) l.elements s₄) λ blocks s₅.
    bind (read_data l.block_data (length blocks) s₅) λ block_data s₆.
    bind (read_ending l.ending l.behind s₆) λ values s₇.
    bind (read_package l.behind s₇) λ issue_package s₈.
    taken (counted (command_of code idm selector first second (map (λ b. b.element) blocks) block_data values issue_package) (long_count blocks)) s₈)
unfolding read_body
body code l s = refl

-- a body that is accepted
pub accepted_at : (s : List ℕ) (at code : ℕ) (l : Layout) (kind : FelicaStandardCommand) (f : Fields) (idm challenge : List ℕ) (long n : ℕ) (left : List ℕ) (c : Command)
    → long ≡ n → layout_of code ≡ l → fields_of kind ≡ f → read_body code l (drop at s) ≡ taken (counted c n) left → command_is s idm challenge f ≡ c → c.code ≡ code
    → places_in f ≡ layout_places l at s c → f.property ≡ property_of (property_index f.property)
    → Account s at (answer_of code (read_body code (layout_of code) (drop at s))) (Ok (record { command = kind; idm = idm; challenge = challenge; long = long }))
accepted_at s at code l kind f idm challenge long n left c count is fields walk meant coded placed property =
    rw (is, walk, fields) (rw (meant, count) refl, placed ∙ ap (λ (k : Layout). layout_places k at s c) (sym (ap layout_of coded ∙ is)), property)

pub record HasLayout (code : ℕ) (l : Layout) : Type 0 where
  pub is : layout_of code ≡ l

-- what each part gave, from one cursor to the next
pub record IdmRead (has : Bool) (here : Cursor) (idm : List ℕ) (behind : Cursor) : Type 0 where
  pub read : read_idm has (rest here) ≡ taken idm (rest behind)
  pub placed : behind ≡ moved here (idm_size has)

pub record SelectorRead (kind : Selector) (here : Cursor) (byte : ℕ) (behind : Cursor) : Type 0 where
  pub read : read_selector kind (rest here) ≡ taken byte (rest behind)
  pub placed : behind ≡ moved here (selector_size kind)

pub record CodesRead (missing outside : ℕ) (range : Codes) (here : Cursor) (p : Part) (behind : Cursor) : Type 0 where
  pub codes : List ℕ
  pub there : codes ≡ codes_at here.payload.now p
  pub read : read_codes missing outside range (rest here) ≡ taken codes (rest behind)
  pub spot : p ≡ codes_part range here.at (length codes)
  pub placed : behind ≡ moved here (codes_size range (length codes))

pub record BlocksRead (missing outside : ℕ) (has : Bool) (here : Cursor) (list : Part) (long : ℕ) (behind : Cursor) : Type 0 where
  pub elements : List Formed
  pub there : elements ≡ formed_at here.payload.now list
  pub read : read_elements missing outside has (rest here) ≡ taken elements (rest behind)
  pub counted_long : long ≡ long_count elements
  pub count : length elements ≡ list.count
  pub spot : list ≡ blocks_part has here.at (length elements)
  pub placed : behind ≡ moved here (blocks_size has here.payload.now here.at (length elements))

pub record DataRead (has : Bool) (blocks : ℕ) (here : Cursor) (p : Part) (behind : Cursor) : Type 0 where
  pub bytes : List ℕ
  pub there : bytes ≡ bytes_at here.payload.now p
  pub read : read_data has blocks (rest here) ≡ taken bytes (rest behind)
  pub spot : p ≡ data_part has here.at (length bytes)
  pub placed : behind ≡ moved here (length bytes)

-- the fixed bytes that end the layout, and what is behind them
pub record EndRead (ending : Ending) (tail : Behind) (here : Cursor) (values : EndFields) (p : Part) : Type 0 where
  pub behind : Cursor
  pub left : List ℕ
  pub bytes : List ℕ
  pub there : bytes ≡ bytes_at here.payload.now p
  pub read : read_ending ending tail (rest here) ≡ taken values (rest behind)
  pub tail_read : read_package tail (rest behind) ≡ taken bytes left
  pub spot : p ≡ package_part tail (here.at + size_of ending) (length bytes)

stays : (c : Cursor) → c ≡ moved c 0
stays c = rw (add-zero c.at) refl

-- a part that the layout lacks
pub no_idm : {here : Cursor} → IdmRead false here (zeros 8) here
unfolding read_idm
no_idm {here} = record { read = refl; placed = stays here }

pub no_selector_read : {here : Cursor} → SelectorRead no_selector here 0 here
unfolding read_selector
no_selector_read {here} = record { read = refl; placed = stays here }

pub no_codes_read : {m o : ℕ} {here : Cursor} → CodesRead m o no_codes here no_part here
unfolding read_codes words_of
no_codes_read {here = here} = record { codes = []; there = refl; read = refl; spot = refl; placed = stays here }

pub no_blocks : {m o : ℕ} {here : Cursor} → BlocksRead m o false here no_part 0 here
unfolding read_elements read_each
no_blocks {here = here} = record { elements = []; there = refl; read = refl; counted_long = refl; count = refl; spot = refl; placed = stays here }

pub no_data : {blocks : ℕ} {here : Cursor} → DataRead false blocks here no_part here
unfolding read_data
no_data {here = here} = record { bytes = []; there = refl; read = refl; spot = refl; placed = stays here }

-- a part that a step took
pub idm : {here behind : Cursor} {v : List ℕ} → Takes itself (read_idm true (rest here)) (To (moved here 8)) (Ok (v, behind)) → IdmRead true here v behind
idm t = record { read = t.read; placed = t.placed }

pub selector : {T : Type 0} {meant : T → ℕ} {kind : Selector} {here behind : Cursor} {v : T}
    → Takes meant (read_selector kind (rest here)) (To (moved here (selector_size kind))) (Ok (v, behind)) → SelectorRead kind here (meant v) behind
selector t = record { read = t.read; placed = t.placed }

pub codes : {m o least greatest : ℕ} {here behind : Cursor} {p : Part}
    → Takes (codes_at here.payload.now) (read_codes m o (least to greatest) (rest here)) (CodesFrom (moved here 1)) (Ok (p, behind))
    → CodesRead m o (least to greatest) here p behind
codes {here = here} {behind = behind} {p = p} t =
    let n = words_of_length p.count (drop p.start here.payload.now) in
    let far : here.at + 1 + 2 * p.count ≡ here.at + (1 + 2 * p.count) = omega arith in
    record {
      codes = codes_at here.payload.now p;
      there = refl;
      read = t.read;
      spot = part_eq p _ _ t.placed.0 (sym n);
      placed = t.placed.1 ∙ rw (n, far) refl;
    }

pub blocks : {m o : ℕ} {here behind : Cursor} {b : Blocks}
    → Takes (elements_in here.payload.now) (read_elements m o true (rest here)) (ElementsFrom (moved here 1)) (Ok (b, behind))
    → BlocksRead m o true here b.list b.long behind
blocks {here = here} {behind = behind} {b = b} t =
    let (start, count, next, long) = t.placed in
    let size = elements_size b.list.count (drop (here.at + 1) here.payload.now) in
    let far : here.at + 1 + size ≡ here.at + (1 + size) = omega arith in
    record {
      elements = formed_at here.payload.now b.list;
      there = refl;
      read = t.read;
      counted_long = long;
      count = count;
      spot = part_eq b.list _ _ start (sym count);
      placed = next ∙ rw (count, far) refl;
    }

pub data_bytes : {here behind : Cursor} {p : Part} {n : ℕ} → Takes (bytes_at here.payload.now) (read_data true n (rest here)) (DataFrom here n) (Ok (p, behind))
    → DataRead true n here p behind
data_bytes {here = here} {behind = behind} {p = p} {n = n} t =
    let whole : length (bytes_at here.payload.now p) ≡ 16 * n = data_whole here.payload.now p here.at n t.read t.placed.0 in
    record {
      bytes = bytes_at here.payload.now p;
      there = refl;
      read = t.read;
      spot = t.placed.0 ∙ rw whole refl;
      placed = t.placed.1 ∙ rw whole refl;
    }

pub ending : {T : Type 0} {meant : T → EndFields} {P : T → Cursor → Type 0} {e : Ending} {here behind : Cursor} {v : T}
    → Takes meant (read_ending e nothing (rest here)) P (Ok (v, behind)) → EndRead e nothing here (meant v) no_part
unfolding read_package
ending {behind = behind} t = record { behind = behind; left = rest behind; bytes = []; there = refl; read = t.read; tail_read = refl; spot = refl }

-- a tail that is ignored, and one that is the package
pub ignored : {here : Cursor} → EndRead bare ignored_bytes here no_fields no_part
unfolding read_ending read_values read_package refuse_if
ignored {here = here} =
    record { behind = here; left = rest here; bytes = []; there = refl; read = rw (le-ltb (length (rest here)) 0 (omega arith)) refl; tail_read = refl; spot = refl }

pub packed : {T : Type 0} {meant : T → EndFields} {e : Ending} {here behind : Cursor} {v : T} {p : Part}
    → Takes meant (read_ending e a_package (rest here)) (To (moved here (size_of e))) (Ok (v, behind)) → p ≡ part behind.at (length (rest behind))
    → EndRead e a_package here (meant v) p
unfolding read_package
packed {e = e} {here = here} {behind = behind} {p = p} t is =
    let next = t.placed in
    record {
      behind = behind;
      left = [];
      bytes = rest behind;
      there = rw (is, next) (sym (package_whole here.payload.now (here.at + size_of e)));
      read = t.read;
      tail_read = refl;
      spot = is ∙ rw next refl;
    }

-- A walk along the layout of a code: where a step refuses, the body is refused, and where all have taken their part, it is accepted.
module _ (from : Cursor) {code : ℕ} {l : Layout} (its : HasLayout code l) where
  turned_down : (why : Reason) (r : Result Parsed Reason) → read_body code l (rest from) ≡ refuse (number_of why) → IsErrAnd r (λ y. y ≡ why) → BodyRead from code r
  turned_down why r read e = let p = err_from_is_err_and r e in rw (p.1, p.2, its.is, read) (refl, refl, tt)

  pub idm_refused : {T : Type 0} {meant : T → List ℕ} {P : T → Cursor → Type 0} {why : Reason}
      → Takes meant (read_idm l.idm (rest from)) P (Err why) → (r : Result Parsed Reason) → IsErrAnd r (λ y. y ≡ why) → BodyRead from code r
  unfolding bind
  idm_refused {why = why} t r e = turned_down why r (body code l (rest from) ∙ rw t.read refl) e

  module _ {idm : List ℕ} {c₁ : Cursor} (a : IdmRead l.idm from idm c₁) where
    pub selector_refused : {T : Type 0} {meant : T → ℕ} {P : T → Cursor → Type 0} {why : Reason}
        → Takes meant (read_selector l.selector (rest c₁)) P (Err why) → (r : Result Parsed Reason) → IsErrAnd r (λ y. y ≡ why) → BodyRead from code r
    unfolding bind
    selector_refused {why = why} t r e = turned_down why r (body code l (rest from) ∙ rw (a.read, t.read) refl) e

    module _ {byte : ℕ} {c₂ : Cursor} (b : SelectorRead l.selector c₁ byte c₂) where
      pub first_refused : {T : Type 0} {meant : T → List ℕ} {P : T → Cursor → Type 0} {why : Reason}
          → Takes meant (read_codes 9 10 l.first (rest c₂)) P (Err why) → (r : Result Parsed Reason) → IsErrAnd r (λ y. y ≡ why) → BodyRead from code r
      unfolding bind
      first_refused {why = why} t r e = turned_down why r (body code l (rest from) ∙ rw (a.read, b.read, t.read) refl) e

      module _ {f : Part} {c₃ : Cursor} (c : CodesRead 9 10 l.first c₂ f c₃) where
        pub second_refused : {T : Type 0} {meant : T → List ℕ} {P : T → Cursor → Type 0} {why : Reason}
            → Takes meant (read_codes 11 12 l.second (rest c₃)) P (Err why) → (r : Result Parsed Reason) → IsErrAnd r (λ y. y ≡ why) → BodyRead from code r
        unfolding bind
        second_refused {why = why} t r e = turned_down why r (body code l (rest from) ∙ rw (a.read, b.read, c.read, t.read) refl) e

        module _ {g : Part} {c₄ : Cursor} (d : CodesRead 11 12 l.second c₃ g c₄) where
          pub blocks_refused : {T : Type 0} {meant : T → List Formed} {P : T → Cursor → Type 0} {why : Reason}
              → Takes meant (read_elements (if_codes l.first 11 9) (if_codes l.first 12 10) l.elements (rest c₄)) P (Err why)
              → (r : Result Parsed Reason) → IsErrAnd r (λ y. y ≡ why) → BodyRead from code r
          unfolding bind
          blocks_refused {why = why} t r e = turned_down why r (body code l (rest from) ∙ rw (a.read, b.read, c.read, d.read, t.read) refl) e

          module _ {list : Part} {long : ℕ} {c₅ : Cursor} (h : BlocksRead (if_codes l.first 11 9) (if_codes l.first 12 10) l.elements c₄ list long c₅) where
            pub data_refused : {T : Type 0} {meant : T → List ℕ} {P : T → Cursor → Type 0} {why : Reason}
                → Takes meant (read_data l.block_data list.count (rest c₅)) P (Err why) → (r : Result Parsed Reason) → IsErrAnd r (λ y. y ≡ why) → BodyRead from code r
            unfolding bind
            data_refused {why = why} t r e = turned_down why r (body code l (rest from) ∙ rw (a.read, b.read, c.read, d.read, h.read, h.count, t.read) refl) e

            module _ {p : Part} {c₆ : Cursor} (k : DataRead l.block_data list.count c₅ p c₆) where
              pub ending_refused : {T : Type 0} {meant : T → EndFields} {P : T → Cursor → Type 0} {why : Reason}
                  → Takes meant (read_ending l.ending l.behind (rest c₆)) P (Err why) → (r : Result Parsed Reason) → IsErrAnd r (λ y. y ≡ why) → BodyRead from code r
              unfolding bind
              ending_refused {why = why} t r e = turned_down why r (body code l (rest from) ∙ rw (a.read, b.read, c.read, d.read, h.read, h.count, k.read, t.read) refl) e

              module _ {values : EndFields} {q : Part} (m : EndRead l.ending l.behind c₆ values q) where
                pub accepted : {plain : Parsed} {command : FelicaStandardCommand} {property : ContainerProperty}
                    → plain ≡ bare_parsed command
                    → fields_of command ≡ fields code byte f g list p values.number values.index values.option values.choice q property
                    → property ≡ property_of (property_index property)
                    → BodyRead from code (Ok (record { command = command; idm = idm; challenge = values.challenge; long = long }))
                unfolding bind layout_places
                accepted its_command said canonical =
                    let s₂ : c₂.payload ≡ from.payload = ap (λ (x : Cursor). x.payload) b.placed ∙ ap (λ (x : Cursor). x.payload) a.placed in
                    let s₃ : c₃.payload ≡ from.payload = ap (λ (x : Cursor). x.payload) c.placed ∙ s₂ in
                    let s₄ : c₄.payload ≡ from.payload = ap (λ (x : Cursor). x.payload) d.placed ∙ s₃ in
                    let s₅ : c₅.payload ≡ from.payload = ap (λ (x : Cursor). x.payload) h.placed ∙ s₄ in
                    let s₆ : c₆.payload ≡ from.payload = ap (λ (x : Cursor). x.payload) k.placed ∙ s₅ in
                    let n₁ : c₁.at ≡ from.at + idm_size l.idm = ap (λ (x : Cursor). x.at) a.placed in
                    let n₂ : c₂.at ≡ from.at + idm_size l.idm + selector_size l.selector = ap (λ (x : Cursor). x.at) b.placed ∙ rw n₁ refl in
                    let n₃ : c₃.at ≡ first_at l from.at + codes_size l.first (length c.codes) = ap (λ (x : Cursor). x.at) c.placed ∙ rw n₂ refl in
                    let n₄ : c₄.at ≡ first_at l from.at + codes_size l.first (length c.codes) + codes_size l.second (length d.codes) = ap (λ (x : Cursor). x.at) d.placed ∙ rw n₃ refl in
                    let size = blocks_size l.elements c₄.payload.now c₄.at (length h.elements) in
                    let n₅ : c₅.at ≡ c₄.at + size = ap (λ (x : Cursor). x.at) h.placed in
                    let n₆ : c₆.at ≡ c₄.at + size + length k.bytes = ap (λ (x : Cursor). x.at) k.placed ∙ rw n₅ refl in
                    let f_is : codes_at from.payload.now f ≡ c.codes = rw (← s₂) (sym c.there) in
                    let g_is : codes_at from.payload.now g ≡ d.codes = rw (← s₃) (sym d.there) in
                    let list_is : formed_at from.payload.now list ≡ h.elements = rw (← s₄) (sym h.there) in
                    let p_is : bytes_at from.payload.now p ≡ k.bytes = rw (← s₅) (sym k.there) in
                    let q_is : bytes_at from.payload.now q ≡ m.bytes = rw (← s₆) (sym m.there) in
                    let read : read_body code l (rest from)
                    ≡ taken (counted (command_of code idm byte c.codes d.codes (map (λ x. x.element) h.elements) k.bytes values m.bytes) (long_count h.elements)) m.left
                    = body code l (rest from) ∙ rw (a.read, b.read, c.read, d.read, h.read, h.count, k.read, m.read, m.tail_read) refl in
                    let numbers : length (map (λ (x : Element). x.number) (map (λ (x : Formed). x.element) h.elements)) ≡ length h.elements
                    = length-map (map (λ (x : Formed). x.element) h.elements) (λ (x : Element). x.number) ∙ length-map h.elements (λ (x : Formed). x.element) in
                    accepted_at _ _ _ _ _ _ _ _ _ _ _ _ h.counted_long its.is said read (rw (f_is, g_is, list_is, p_is, q_is) refl) refl
                    (rw numbers (places_eq (c.spot ∙ rw n₂ refl) (d.spot ∙ rw n₃ refl) (h.spot ∙ rw n₄ refl) (k.spot ∙ rw (n₅, s₄, n₄) refl) (m.spot ∙ rw (n₆, s₄, n₄) refl)))
                    canonical

-- the same for a layout of fixed bytes alone, behind an IDm or none
module _ (from : Cursor) {code : ℕ} {has : Bool} {e : Ending} {b : Behind} (its : HasLayout code (layout has no_selector no_codes no_codes false false e b)) where
  module _ {idm : List ℕ} {c₁ : Cursor} (a : IdmRead has from idm c₁) where
    pub fixed_refused : {T : Type 0} {meant : T → EndFields} {P : T → Cursor → Type 0} {why : Reason}
        → Takes meant (read_ending e b (rest c₁)) P (Err why) → (r : Result Parsed Reason) → IsErrAnd r (λ y. y ≡ why) → BodyRead from code r
    fixed_refused t r e = ending_refused from its a no_selector_read no_codes_read no_codes_read no_blocks no_data t r e

    pub fixed_accepted : {values : EndFields} {q : Part} → EndRead e b c₁ values q → {plain : Parsed} {command : FelicaStandardCommand} {property : ContainerProperty}
        → plain ≡ bare_parsed command
        → fields_of command ≡ fields code 0 no_part no_part no_part no_part values.number values.index values.option values.choice q property
        → property ≡ property_of (property_index property)
        → BodyRead from code (Ok (record { command = command; idm = idm; challenge = values.challenge; long = 0 }))
    fixed_accepted m its_command said canonical = accepted from its a no_selector_read no_codes_read no_codes_read no_blocks no_data m its_command said canonical

-- a refusal of a body gets the code, where the function that maps it gives that
pub with_code : {Q : Reason → Refusal → Type 0} (code : ℕ) (r : Result Parsed Reason) (t : Result Parsed Refusal)
    → ((why : Reason) (y : Refusal) → Q why y → y ≡ refusal why (Some code)) → MatchResult r (λ p. t ≡ Ok p) (λ why. IsErrAnd t (Q why)) → t ≡ result_of code r
with_code code (Ok p) t gives h = h
with_code code (Err why) t gives h = let p = err_from_is_err_and t h in p.1 ∙ ap (λ y. Err y) (gives why p.0 p.2)
