-- The laws of a whole body, from those of its parts.
-- Assumes nothing.
use Rattle.std.proofs.Common.{ℕ, ◌≤◌, ◌<◌, arith, ◌≡◌, refl, sym, ap, ◌∙◌, subst₂, inl, inr, Bool, true, List, [], ◌++◌, append_assoc, map, length, length-append, eq-eqb}
use Rattle.std.proofs.lemmas.List.{length-map}
use Rattle.felica_format.specs.Basic.{Bytes, Step, taken, bind}
use Rattle.felica_format.specs.Command.{Command, Element, Formed, long_count, elements_of, end_fields_of, command_of}
use Rattle.felica_format.specs.Layout.{Layout, bounds_of}
use Rattle.felica_format.specs.Read.{Counted, counted, size_of, read_elements, read_ending, read_package, if_codes, read_body}
use Rattle.felica_format.specs.Write.{Forms, idm_bytes, selector_bytes, codes_bytes, each_bytes, long_in, elements_bytes, data_bytes, ending_bytes, package_bytes, body_bytes}
use Rattle.felica_format.specs.Writable.{idm_ok, selector_ok, codes_ok, same_length, one_length, elements_ok, data_ok, ranges_of, end_fields_ok, package_ok, body_ok}
use Rattle.felica_format.proofs.Tests.{and_left, and_right, and_both}
use Rattle.felica_format.proofs.Bytes.{all_below_append, bytes_right}
use Rattle.felica_format.proofs.Steps.{taken_value, taken_rest, bind_taken}
use Rattle.felica_format.proofs.Laws.{Laws}
use Rattle.felica_format.proofs.Parts.{idm_laws, selector_laws, codes_laws, data_laws}
use Rattle.felica_format.proofs.Elements.{elements_in, in_forms, in_forms_elements, in_forms_long, in_forms_length, elements_back, elements_small, elements_only}
use Rattle.felica_format.proofs.Elements.{count_bytes, elements_apart, SameOrLonger, elements_longer}
use Rattle.felica_format.proofs.Zip.{zip_lists, zipped}
use Rattle.felica_format.proofs.Ending.{Left, ending_back, package_back, ending_small, package_small, ending_only}

-- each count fits a byte, and the fixed bytes fit the challenge
pub record Narrow (l : Layout) : Type 0 where
  pub first : (bounds_of l.first).greatest < 256
  pub second : (bounds_of l.second).greatest < 256
  pub ending : size_of l.ending ≤ 16

-- the ranges of a body, part by part
pub record Fits (l : Layout) (c : Command) : Type 0 where
  pub idm : idm_ok l.idm c.idm ≡ true
  pub selector : selector_ok l.selector c.selector ≡ true
  pub first : codes_ok l.first c.first ≡ true
  pub second : codes_ok l.second c.second ≡ true
  pub lists : one_length c ≡ true
  pub elements : elements_ok l.elements (elements_of c) ≡ true
  pub block_data : data_ok l.block_data (length (elements_of c)) c.block_data ≡ true
  pub values : end_fields_ok (ranges_of l.ending) (end_fields_of c) ≡ true
  pub pack : package_ok l.behind c.issue_package ≡ true

pub fits_of : (l : Layout) (c : Command) → body_ok l c ≡ true → Fits l c
unfolding body_ok
fits_of l c ok =
    let ok₁ = and_right _ _ ok in
    let ok₂ = and_right _ _ ok₁ in
    let ok₃ = and_right _ _ ok₂ in
    let ok₄ = and_right _ _ ok₃ in
    let ok₅ = and_right _ _ ok₄ in
    let ok₆ = and_right _ _ ok₅ in
    let ok₇ = and_right _ _ ok₆ in
    record {
      idm = and_left _ _ ok;
      selector = and_left _ _ ok₁;
      first = and_left _ _ ok₂;
      second = and_left _ _ ok₃;
      lists = and_left _ _ ok₄;
      elements = and_left _ _ ok₅;
      block_data = and_left _ _ ok₆;
      values = and_left _ _ ok₇;
      pack = and_right _ _ ok₇;
    }

of_fits : (l : Layout) (c : Command) → Fits l c → body_ok l c ≡ true
unfolding body_ok
of_fits l c h =
    and_both h.idm (and_both h.selector (and_both h.first (and_both h.second (and_both h.lists (and_both h.elements
    (and_both h.block_data (and_both h.values h.pack)))))))

-- A walk that took something: what its first step took, and how the walk went on. What follows from that is handed over as a function, so that it
-- speaks of variables and not of the terms that stand for them.
step : {A B X : Type 0} {read : List ℕ → Step A} {write : A → List ℕ} {ok : A → Bool} (laws : Laws read write ok)
    (s : List ℕ) (next : A → List ℕ → Step B) {b : B} {r : List ℕ} → Bytes s → bind (read s) next ≡ taken b r
    → ((a : A) (t : List ℕ) → ok a ≡ true → s ≡ write a ++ t → Bytes t → next a t ≡ taken b r → X) → X
step {write = write} laws s next small e then =
    let k = bind_taken _ next e in
    let o = laws.only s k.0 k.1 small k.2 in
    then k.0 k.1 o.0 o.1 (bytes_right (write k.0) k.1 (rw o.1 at small)) k.3

end : {A B X : Type 0} (m : Step A) (next : A → List ℕ → Step B) {b : B} {r : List ℕ} → bind m next ≡ taken b r
    → ((a : A) (t : List ℕ) → m ≡ taken a t → next a t ≡ taken b r → X) → X
end m next e then = let k = bind_taken m next e in then k.0 k.1 k.2 k.3

step_blocks : {B X : Type 0} (missing outside : ℕ) (there : Bool) (s : List ℕ) (next : List Formed → List ℕ → Step B) {b : B} {r : List ℕ}
    → Bytes s → bind (read_elements missing outside there s) next ≡ taken b r
    → ((fs : List Formed) (t : List ℕ) (forms : Forms) → elements_ok there (elements_in fs) ≡ true → in_forms forms (elements_in fs) ≡ fs
    → s ≡ elements_bytes there forms (elements_in fs) ++ t → Bytes t → next fs t ≡ taken b r → X) → X
step_blocks missing outside there s next small e then =
    let k = bind_taken _ next e in
    let o = elements_only missing outside there s k.0 k.1 small k.2 in
    then k.0 k.1 o.forms o.ok o.same o.is (bytes_right (elements_bytes there o.forms (elements_in k.0)) k.1 (rw o.is at small)) k.3

-- what was read as a body
pub record Body (l : Layout) (code : ℕ) (s : List ℕ) (r : Counted) (rest : List ℕ) : Type 0 where
  pub forms : Forms
  pub same : r.command.code ≡ code
  pub long : r.long ≡ long_in forms (elements_of r.command)
  pub ok : body_ok l r.command ≡ true
  pub left : Left l.behind rest
  pub is : s ≡ body_bytes l forms r.command ++ rest

-- the command of a command's own parts
one_length_of_command : (c : Command) → one_length c ≡ true
    → command_of c.code c.idm c.selector c.first c.second (elements_of c) c.block_data (end_fields_of c) c.issue_package ≡ c
one_length_of_command c ok =
    let z = zipped c ok in
    λ i. record {
      code = c.code;
      idm = c.idm;
      selector = c.selector;
      first = c.first;
      second = c.second;
      numbers = z.numbers i;
      places = z.places i;
      modes = z.modes i;
      block_data = c.block_data;
      number = c.number;
      index = c.index;
      option = c.option;
      choice = c.choice;
      challenge = c.challenge;
      issue_package = c.issue_package;
    }

one_length_of_elements : (es : List Element) (c : Command)
    → c.numbers ≡ map (λ e. e.number) es → c.places ≡ map (λ e. e.place) es → c.modes ≡ map (λ e. e.mode) es → one_length c ≡ true
unfolding same_length
one_length_of_elements es c ns ps ms =
    rw (ns, ps, ms, length-map es (λ e. e.number), length-map es (λ e. e.place), length-map es (λ e. e.mode))
    (and_both (eq-eqb (length es) (length es) refl) (eq-eqb (length es) (length es) refl))

module _ (l : Layout) (n : Narrow l) where
  pub body_back : (forms : Forms) (c : Command) (rest : List ℕ) → body_ok l c ≡ true → Left l.behind rest
      → read_body c.code l (body_bytes l forms c ++ rest) ≡ taken (counted c (long_in forms (elements_of c))) rest
  unfolding read_body body_bytes bind
  body_back forms c rest ok left =
      let h = fits_of l c ok in
      let t₈ : List ℕ = package_bytes l.behind c.issue_package ++ rest in
      let t₇ : List ℕ = ending_bytes l.ending (end_fields_of c) ++ t₈ in
      let t₆ : List ℕ = data_bytes l.block_data c.block_data ++ t₇ in
      let t₅ : List ℕ = elements_bytes l.elements forms (elements_of c) ++ t₆ in
      let t₄ : List ℕ = codes_bytes l.second c.second ++ t₅ in
      let t₃ : List ℕ = codes_bytes l.first c.first ++ t₄ in
      let t₂ : List ℕ = selector_bytes l.selector c.selector ++ t₃ in
      simp append_assoc
      (rw (
        (idm_laws l.idm).back c.idm t₂ h.idm,
        (selector_laws l.selector).back c.selector t₃ h.selector,
        (codes_laws 9 10 l.first n.first).back c.first t₄ h.first,
        (codes_laws 11 12 l.second n.second).back c.second t₅ h.second,
        elements_back (if_codes l.first 11 9) (if_codes l.first 12 10) l.elements forms (elements_of c) t₆ h.elements,
        in_forms_length forms (elements_of c),
        in_forms_elements forms (elements_of c),
        in_forms_long forms (elements_of c),
        (data_laws l.block_data (length (elements_of c))).back c.block_data t₇ h.block_data,
        ending_back l.ending l.behind (end_fields_of c) c.issue_package rest n.ending h.values h.pack left,
        package_back l.behind c.issue_package rest h.pack left,
      )
      (ap (λ (d : Command). taken (counted d (long_in forms (elements_of c))) rest) (one_length_of_command c h.lists)))

  pub body_only : (code : ℕ) (s : List ℕ) (r : Counted) (rest : List ℕ) → Bytes s → read_body code l s ≡ taken r rest → Body l code s r rest
  unfolding read_body body_bytes
  body_only code s r rest small e =
      step (idm_laws l.idm) s _ small e λ idm s₁ ok₁ is₁ small₁ e₁.
      step (selector_laws l.selector) s₁ _ small₁ e₁ λ selector s₂ ok₂ is₂ small₂ e₂.
      step (codes_laws 9 10 l.first n.first) s₂ _ small₂ e₂ λ first s₃ ok₃ is₃ small₃ e₃.
      step (codes_laws 11 12 l.second n.second) s₃ _ small₃ e₃ λ second s₄ ok₄ is₄ small₄ e₄.
      step_blocks (if_codes l.first 11 9) (if_codes l.first 12 10) l.elements s₄ _ small₄ e₄ λ fs s₅ forms ok₅ same₅ is₅ small₅ e₅.
      step (data_laws l.block_data (length fs)) s₅ _ small₅ e₅ λ block_data s₆ ok₆ is₆ small₆ e₆.
      end (read_ending l.ending l.behind s₆) _ e₆ λ values s₇ r₇ e₇.
      end (read_package l.behind s₇) _ e₇ λ pack s₈ r₈ e₈.
      let o = ending_only l.ending l.behind s₆ values s₇ pack s₈ n.ending small₆ r₇ r₈ in
      let d : Command = command_of code idm selector first second (elements_in fs) block_data values pack in
      let z : elements_of d ≡ elements_in fs = zip_lists (elements_in fs) in
      let n : length (elements_in fs) ≡ length fs = length-map fs (λ f. f.element) in
      let fits : Fits l d = record {
        idm = ok₁;
        selector = ok₂;
        first = ok₃;
        second = ok₄;
        lists = one_length_of_elements (elements_in fs) d refl refl refl;
        elements = rw z ok₅;
        block_data = rw (z, n) ok₆;
        values = o.0;
        pack = o.1;
      } in
      let is : s ≡ body_bytes l forms d ++ s₈ = rw z (simp append_assoc (rw (is₁, is₂, is₃, is₄, is₅, is₆, o.3))) in
      let long : long_count fs ≡ long_in forms (elements_of d) = rw z (ap long_count (sym same₅) ∙ in_forms_long forms (elements_in fs)) in
      subst₂ (λ (x : Counted) (y : List ℕ). Body l code s x y) (taken_value e₈) (taken_rest e₈)
      (record { forms = forms; same = refl; long = long; ok = of_fits l d fits; left = o.2; is = is })

  pub body_small : (forms : Forms) (c : Command) → body_ok l c ≡ true → Bytes (body_bytes l forms c)
  unfolding body_bytes
  body_small forms c ok =
      let h = fits_of l c ok in
      simp all_below_append
      (and_both ((idm_laws l.idm).small c.idm h.idm)
      (and_both ((selector_laws l.selector).small c.selector h.selector)
      (and_both ((codes_laws 9 10 l.first n.first).small c.first h.first)
      (and_both ((codes_laws 11 12 l.second n.second).small c.second h.second)
      (and_both (elements_small l.elements forms (elements_of c) h.elements)
      (and_both ((data_laws l.block_data (length (elements_of c))).small c.block_data h.block_data)
      (and_both (ending_small l.ending (end_fields_of c) h.values) (package_small l.behind c.issue_package h.pack))))))))

-- a body is the same before and after its elements, whatever their forms
unfoldable pub before_elements : Layout → Command → List ℕ
before_elements l c =
    idm_bytes l.idm c.idm
    ++ (selector_bytes l.selector c.selector
    ++ (codes_bytes l.first c.first
    ++ (codes_bytes l.second c.second
    ++ count_bytes l.elements (elements_of c))))

unfoldable pub after_elements : Layout → Command → List ℕ
after_elements l c = data_bytes l.block_data c.block_data ++ (ending_bytes l.ending (end_fields_of c) ++ package_bytes l.behind c.issue_package)

pub body_around : (l : Layout) (forms : Forms) (c : Command) → body_ok l c ≡ true
    → body_bytes l forms c ≡ before_elements l c ++ (each_bytes forms (elements_of c) ++ after_elements l c)
unfolding body_bytes before_elements after_elements
body_around l forms c ok = rw (elements_apart l.elements forms (elements_of c) (fits_of l c ok).elements) (simp append_assoc)

-- of all choices of forms the all-short one is the shortest
pub body_longer : (l : Layout) (forms : Forms) (c : Command) → SameOrLonger (body_bytes l forms c) (body_bytes l [] c)
unfolding body_bytes
body_longer l forms c = go (elements_longer l.elements forms (elements_of c))
  where
    go : SameOrLonger (elements_bytes l.elements forms (elements_of c)) (elements_bytes l.elements [] (elements_of c)) → SameOrLonger (body_bytes l forms c) (body_bytes l [] c)
    go (inl p) = inl (rw p)
    go (inr p) = inr (simp length-append (omega arith))
