-- The line put from the buffers is that of what the list reader answers.
-- Assumes nothing.
use Rattle.std.proofs.Common.{ℕ, ◌+◌, ◌≤◌, ◌≡◌, sym, ap, ◌∙◌, Bool, true, false, List, map, length, take, drop, Ok, Err}
use Rattle.std.proofs.Math.Seq.{take-append_seam}
use Rattle.felica_format.specs.Command.{Command, Element}
use Rattle.felica_format.specs.Read.{Answer as Reading, gives, refused}
use Rattle.felica_format.proofs.Steps.{not_given, given_is}
use Rattle.felica_command.specs.Meaning.{codes_at, elements_at, Fields, fields_of, command_is, ParserResult, meaning}
use Rattle.felica_command.specs.Places.{elements_size, places_of, Inside}
use Rattle.felica_command.proofs.Inside.{words_of_length, values_counted}
use Rattle.felica_lists.specs.Lists.{Buffers, lists_of, fits, front, fronts, Outcome, outcome, listed_if, listed}
use Rattle.felica_answers.specs.Lists.{lists_text, list_line, fronts_text, listed_text}
use Rattle.felica_answers.proofs.Listed.{refusal_line}

front_is : (list held : List ℕ) (n : ℕ) → length list ≡ n → take n (front list held) ≡ list
front_is list held n e = ap (λ (k : ℕ). take k (front list held)) (sym e) ∙ take-append_seam list (drop (length list) held)

same_lists : (code : ℕ) {a b n p m a' b' n' p' m' : List ℕ} → a ≡ a' → b ≡ b' → n ≡ n' → p ≡ p' → m ≡ m'
    → lists_text code a b n p m ≡ lists_text code a' b' n' p' m'
same_lists code e₁ e₂ e₃ e₄ e₅ = rw (e₁, e₂, e₃, e₄, e₅)

module _ (s : List ℕ) (b : Buffers) where
  fields_line : (f : Fields) (idm challenge : List ℕ) (long : ℕ) → f.elements.start + elements_size f.elements.count (drop f.elements.start s) ≤ length s
      → (after : Buffers) → after ≡ fronts (lists_of (command_is s idm challenge f)) b → fronts_text f after ≡ list_line (gives (command_is s idm challenge f) long)
  fields_line f idm challenge long inside after e =
      let es = elements_at s f.elements in
      let first = front_is (codes_at s f.first) b.first _ (words_of_length _ _) in
      let second = front_is (codes_at s f.second) b.second _ (words_of_length _ _) in
      let numbers = front_is (map (λ (e : Element). e.number) es) b.numbers _ (values_counted s f.elements (λ (e : Element). e.number) inside) in
      let places = front_is (map (λ (e : Element). e.place) es) b.places _ (values_counted s f.elements (λ (e : Element). e.place) inside) in
      let modes = front_is (map (λ (e : Element). e.mode) es) b.modes _ (values_counted s f.elements (λ (e : Element). e.mode) inside) in
      rw e (same_lists _ first second numbers places modes)

  pub listed_line : (r : ParserResult) (reading : Reading) (after : Buffers) → outcome (meaning s r) after ≡ listed reading b → Inside s (places_of r)
      → listed_text r after ≡ list_line (listed reading b).answer
  unfolding listed_text
  listed_line (Err why) reading after e inside = refusal_line why ∙ ap (λ (o : Outcome). list_line o.answer) e
  listed_line (Ok p) (refused n code) after e inside = absurd (not_given (sym (ap (λ (o : Outcome). o.answer) e)))
  listed_line (Ok p) (gives c m) after e inside = go (fits (lists_of c) b) e
    where
      go : (room : Bool) → outcome (gives (command_is s p.idm p.challenge (fields_of p.command)) p.long) after ≡ listed_if room c m b
          → fronts_text (fields_of p.command) after ≡ list_line (listed_if room c m b).answer
      go true e =
          let same = given_is (ap (λ (o : Outcome). o.answer) e) in
          fields_line (fields_of p.command) p.idm p.challenge p.long inside.2 after
          (ap (λ (o : Outcome). o.buffers) e ∙ ap (λ (x : Command). fronts (lists_of x) b) (sym same))
          ∙ ap (λ (x : Command). list_line (gives x m)) same
      go false e = absurd (not_given (sym (ap (λ (o : Outcome). o.answer) e)))
