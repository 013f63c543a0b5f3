-- The rules of the list reader, from its definition.
-- Assumes nothing.
use Rattle.std.proofs.Common.{ℕ, ◌≤◌, List, arith, ◌≡◌, refl, sym, ap, ◌∙◌, ◌⊎◌, inl, inr, Bool, true, false, Option, Some, Err, ⊎_elim, length}
use Rattle.felica_format.specs.Command.{Command}
use Rattle.felica_format.specs.Read.{Answer as Reading, gives, refused, read_frame, read_payload, read_secure}
use Rattle.felica_format.proofs.Steps.{not_given, given_is}
use Rattle.felica_format.proofs.Grounds.{frame_refusals, payload_refusals, secure_refusals}
use Rattle.felica_command.specs.Meaning.{ParserResult, meaning, Canonical, refusal}
use Rattle.felica_command.specs.Places.{places_of, read_places, Account}
use Rattle.felica_format.specs.declared.error.Reason.TheVariants.{BufferTooSmall}
use Rattle.felica_command.proofs.OneAccount.{one_account}
use Rattle.felica_lists.specs.Lists.{Buffers, lists_of, fits, fronts, Outcome, outcome, listed_if, listed}
use Rattle.felica_lists.specs.Rules.{RefusedUntouched, TooSmall, TwentyOneExactly, FrameTwentyOne, PayloadTwentyOne, SecureTwentyOne, OneListAccount, ParsersResult, AcceptedIsParsed}

pub refused_untouched : RefusedUntouched
refused_untouched (gives c long) b n code h = go (fits (lists_of c) b) h
  where
    go : (room : Bool) → (listed_if room c long b).answer ≡ refused n code → (listed_if room c long b).buffers ≡ b
    go true h = absurd (not_given (sym h))
    go false h = refl
refused_untouched (refused m k) b n code h = refl

-- what the list reader answers depends on the lengths of the buffers alone
pub same_answer : (reading : Reading) (b d : Buffers) → length b.first ≡ length d.first → length b.second ≡ length d.second → length b.numbers ≡ length d.numbers
    → length b.places ≡ length d.places → length b.modes ≡ length d.modes → (listed reading b).answer ≡ (listed reading d).answer
unfolding fits
same_answer (refused n code) b d e₁ e₂ e₃ e₄ e₅ = refl
same_answer (gives c long) b d e₁ e₂ e₃ e₄ e₅ =
    let room : fits (lists_of c) b ≡ fits (lists_of c) d = rw (e₁, e₂, e₃, e₄, e₅) refl in
    rw room (go (fits (lists_of c) d))
  where
    go : (room : Bool) → (listed_if room c long b).answer ≡ (listed_if room c long d).answer
    go true = refl
    go false = refl

-- the parser's own numbers are below 21
abbrev Below : Reading → Type 0
Below reading = (n : ℕ) (code : Option ℕ) → reading ≡ refused n code → n ≤ 20

twenty_one : (reading : Reading) → Below reading → TwentyOneExactly reading
twenty_one (gives c long) below b code = (there (fits (lists_of c) b) refl, back)
  where
    there : (room : Bool) → fits (lists_of c) b ≡ room → (listed (gives c long) b).answer ≡ refused 21 code → TooSmall (gives c long) b code
    there true e h = absurd (not_given (sym h ∙ ap (λ (q : Bool). (listed_if q c long b).answer) e))
    there false e h = (c, long, refl, e, cc)

    back : TooSmall (gives c long) b code → (listed (gives c long) b).answer ≡ refused 21 code
    back (d, n, is, short, carried) =
        let same : c ≡ d = cc in
        let short' = ap (λ (x : Command). fits (lists_of x) b) same ∙ short in
        rw short' (ap (λ (k : Option ℕ). refused 21 k) (ap (λ (x : Command). Some x.code) same ∙ sym carried))
twenty_one (refused m k) below b code = (λ h. absurd (let z : m ≡ 21 = cc in omega (arith, below m k refl)), λ (d, long, is, short, carried). absurd (not_given is))

pub frame_twenty_one : FrameTwentyOne
frame_twenty_one s = twenty_one (read_frame s) λ n code h. ⊎_elim (λ p. omega (arith, p.1)) (λ p. p.1) (frame_refusals s n code h)

pub payload_twenty_one : PayloadTwentyOne
payload_twenty_one s = twenty_one (read_payload s) λ n code h. ⊎_elim (λ p. omega (arith, p.1)) (λ p. p.1) (payload_refusals s n code h)

pub secure_twenty_one : SecureTwentyOne
secure_twenty_one k s = twenty_one (read_secure k s) λ n code h. (secure_refusals k s n code h).1

-- a result is settled by what it means
one_result : (s : List ℕ) (at : ℕ) (reading : Reading) (r t : ParserResult) → meaning s r ≡ reading → places_of r ≡ read_places at s (meaning s r) → Canonical r
    → Account s at reading t → r ≡ t
one_result s at reading r t means placed canonical account =
    one_account s at reading r t (means, placed ∙ ap (read_places at s) means, canonical) account

pub one_list_account : OneListAccount
one_list_account s at reading b r t a e (m, p, c, i) (m', p', c', i') =
    let same : meaning s r ≡ meaning s t = ap (λ (o : Outcome). o.answer) (m ∙ sym m') in
    (one_result s at (meaning s t) r t same p c (refl, p', c'), ap (λ (o : Outcome). o.buffers) (m ∙ sym m'))

pub parsers_result : ParsersResult
parsers_result s at (refused n code) b p r a account (m, q, c, i) = inl (one_result s at (refused n code) r p (ap (λ (o : Outcome). o.answer) m) q c account)
parsers_result s at (gives d long) b p r a account (m, q, c, i) = go (fits (lists_of d) b) refl m
  where
    go : (room : Bool) → fits (lists_of d) b ≡ room → outcome (meaning s r) a ≡ listed_if room d long b
        → (r ≡ p) ⊎ ((code : Option ℕ) × TooSmall (gives d long) b code × (r ≡ Err (refusal BufferTooSmall code)))
    go true e m = inl (one_result s at (gives d long) r p (ap (λ (o : Outcome). o.answer) m) q c account)
    go false e m =
        let same = one_result s at (refused 21 (Some d.code)) r (Err (refusal BufferTooSmall (Some d.code))) (ap (λ (o : Outcome). o.answer) m) q c (refl, refl, tt) in
        inr (Some d.code, (d, long, refl, e, refl), same)

pub accepted_is_parsed : AcceptedIsParsed
accepted_is_parsed s at (refused n code) b r a c long (m, q, k, i) said = absurd (not_given (sym (ap (λ (o : Outcome). o.answer) m) ∙ said))
accepted_is_parsed s at (gives d n) b r a c long (m, q, k, i) said = go (fits (lists_of d) b) m
  where
    go : (room : Bool) → outcome (meaning s r) a ≡ listed_if room d n b → Account s at (gives d n) r × (a ≡ fronts (lists_of c) b)
    go true m =
        let is = ap (λ (o : Outcome). o.answer) m in
        ((is, q ∙ ap (read_places at s) is, k), ap (λ (o : Outcome). o.buffers) m ∙ ap (λ (x : Command). fronts (lists_of x) b) (given_is (sym is ∙ said)))
    go false m = absurd (not_given (sym (ap (λ (o : Outcome). o.answer) m) ∙ said))
