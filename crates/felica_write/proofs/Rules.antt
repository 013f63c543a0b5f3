-- The rules of the writer and of reading back, from the contracts of the writer and the parser and the theorems of felica_format.
-- Assumes nothing.
use Rattle.std.proofs.Common.{ℕ, ◌≤◌, ◌<◌, ◌≡◌, refl, sym, ap, ◌∙◌, subst, ◌⊎◌, inl, inr, ◌↔◌, Bool, true, false, List, [], ◌++◌, length, take, drop, Ok, Err}
use Rattle.std.specs.Prelude.{Option, None, Some}
use Rattle.std.proofs.Math.Seq.{take-append_seam, drop-append_seam}
use Rattle.std.proofs.Math.Dec.{ltb}
use Rattle.std.proofs.lemmas.Bool.{ltb-true, ltb-false, lt-ltb, le-ltb}
use Rattle.felica_format.specs.Basic.{◌and◌, Bytes}
use Rattle.felica_format.specs.Command.{Command}
use Rattle.felica_format.specs.Layout.{layout_of, layout_in, has, plain_rows}
use Rattle.felica_format.specs.Read.{gives}
use Rattle.felica_format.specs.Write.{frame_of, secure_of}
use Rattle.felica_format.specs.Writable.{idm_ok, selector_ok, codes_ok, same_length, body_ok, writable, written}
use Rattle.felica_format.specs.Demand3.{FrameGives, PayloadGives, HasFrame, HasPayload}
use Rattle.felica_format.proofs.Demand3.{frames_are_choices, payloads_are_choices, short_frame_accepted, short_payload_accepted, other_frames_longer}
use Rattle.felica_format.proofs.Demand3.{other_payloads_longer, short_frame_written, short_payload_written, unwritable_exactly, frame_read_back}
use Rattle.felica_format.proofs.Demand3.{payload_read_back, two_frames, two_payloads, frames_differ, payloads_differ}
use Rattle.felica_format.proofs.Demand3.{frame_long_counted, payload_long_counted}
use Rattle.felica_format.proofs.Steps.{not_given}
use Rattle.felica_command.specs.Meaning as parser
use Rattle.felica_format.specs.Reasons.{number_of}
use Rattle.felica_format.specs.declared.error.Reason.{Reason}
use Rattle.felica_format.specs.declared.error.Reason.TheVariants.{Unwritable}
use Rattle.felica_format.proofs.Reasons.{one_reason}
use Rattle.felica_command.specs.Meaning.{ParserResult, long_of, refusal as refused_for}
use Rattle.felica_write.specs.Writing.{wrote, refused, Written, meaning, refusal, outcome, stored, store, writing}
use Rattle.felica_write.specs.Rules.{WriterAccount, FrameParsed, PayloadParsed, FrameIs, PayloadIs, OneWriterAccount, RefusedUntouched}
use Rattle.felica_write.specs.Rules.{TwentyOneExactly, TwentyTwoExactly, BehindKept, WrittenFrameRead, WrittenPayloadRead, ShortestFrame}
use Rattle.felica_write.specs.Rules.{TwoRefusals, FrameTwentyOne, PayloadTwentyOne, UnwritableUnread}
use Rattle.felica_write.specs.Rules.{ShortestPayload, FramesReadAreChoices, PayloadsReadAreChoices, TwoFramesRead, TwoPayloadsRead, NumberAlone}
use Rattle.felica_write.specs.Rules.{FramesReadDiffer, PayloadsReadDiffer, FrameLongTold, PayloadLongTold, ReadIsWritable, OnlyTwentyOne, ReadTwentyOne}

-- a result is settled by what it says
refusal_same : {a b : Reason} {c d : Option ℕ} → a ≡ b → c ≡ d → refused_for a c ≡ refused_for b d
refusal_same p q = rw (p, q)

meaning_one : (r t : Written) → meaning r ≡ meaning t → r ≡ t
meaning_one (Ok n) (Ok m) e = cc
meaning_one (Ok n) (Err w) e = cc
meaning_one (Err w) (Ok m) e = cc
meaning_one (Err w) (Err v) e =
    let number : number_of w.reason ≡ number_of v.reason = cc in
    let code : w.command_code ≡ v.command_code = cc in
    ap Err (refusal_same (one_reason w.reason v.reason number) code)

pub one_writer_account : OneWriterAccount
one_writer_account c b r t a e p q =
    (meaning_one r t (ap (λ o. o.answer) (p ∙ sym q)), ap (λ o. o.buffer) (p ∙ sym q))

-- the bytes are written exactly where a buffer holds them
record Stored (c : Command) (b : List ℕ) (n : ℕ) (a : List ℕ) : Type 0 where
  bytes : List ℕ
  is : written c ≡ Some bytes
  room : length bytes ≤ length b
  size : n ≡ length bytes
  held : a ≡ bytes ++ drop (length bytes) b

wrote_not : {n m : ℕ} {k : Option ℕ} → wrote n ≡ refused m k → ⊥
wrote_not e = cc

stored_of : (c : Command) (b : List ℕ) (n : ℕ) (a : List ℕ) → WriterAccount c b (Ok n) a → Stored c b n a
unfolding writing
stored_of c b n a e = go (written c) refl e
  where
    fit : (s : List ℕ) (small : Bool) → ltb (length b) (length s) ≡ small → written c ≡ Some s → outcome (wrote n) a ≡ stored small c.code s b → Stored c b n a
    fit s true q w e = absurd (wrote_not (ap (λ o. o.answer) e))
    fit s false q w e =
        let answer = ap (λ o. o.answer) e in
        record { bytes = s; is = w; room = ltb-false (length b) (length s) q; size = cc; held = ap (λ o. o.buffer) e }

    go : (w : Option (List ℕ)) → written c ≡ w → outcome (wrote n) a ≡ store c.code w b → Stored c b n a
    go None q e = absurd (wrote_not (ap (λ o. o.answer) e))
    go (Some s) q e = fit s (ltb (length b) (length s)) refl q e

pub refused_untouched : RefusedUntouched
unfolding writing
refused_untouched c b r a n code e said = go (written c) (ap (λ o. o.buffer) e) (sym said ∙ ap (λ o. o.answer) e)
  where
    fit : (s : List ℕ) (small : Bool) → a ≡ (stored small c.code s b).buffer → refused n code ≡ (stored small c.code s b).answer → a ≡ b
    fit s true held answer = held
    fit s false held answer = absurd (wrote_not (sym answer))

    go : (w : Option (List ℕ)) → a ≡ (store c.code w b).buffer → refused n code ≡ (store c.code w b).answer → a ≡ b
    go None held answer = held
    go (Some s) held answer = fit s (ltb (length b) (length s)) held answer

pub two_refusals : TwoRefusals
unfolding writing
two_refusals c b r a n code e said = go (written c) (sym said ∙ ap (λ o. o.answer) e)
  where
    fit : (s : List ℕ) (small : Bool) → refused n code ≡ (stored small c.code s b).answer → (code ≡ Some c.code) × ((n ≡ 21) ⊎ (n ≡ 22))
    fit s true answer = (cc, inl cc)
    fit s false answer = absurd (wrote_not (sym answer))

    go : (w : Option (List ℕ)) → refused n code ≡ (store c.code w b).answer → (code ≡ Some c.code) × ((n ≡ 21) ⊎ (n ≡ 22))
    go None answer = (cc, inr cc)
    go (Some s) answer = fit s (ltb (length b) (length s)) answer

not_both : {j k : Option ℕ} → refused 21 j ≡ refused 22 k → ⊥
not_both e = cc

pub twenty_one_exactly : TwentyOneExactly
unfolding writing
twenty_one_exactly c b r a e = (λ said. there (written c) refl (sym said ∙ ap (λ o. o.answer) e), λ (s, w, small). back s w small)
  where
    short : (s : List ℕ) (small : Bool) → ltb (length b) (length s) ≡ small → written c ≡ Some s
        → refused 21 (Some c.code) ≡ (stored small c.code s b).answer → (t : List ℕ) × (written c ≡ Some t) × (length b < length t)
    short s true q w said = (s, w, ltb-true (length b) (length s) q)
    short s false q w said = absurd (wrote_not (sym said))

    there : (w : Option (List ℕ)) → written c ≡ w → refused 21 (Some c.code) ≡ (store c.code w b).answer
        → (t : List ℕ) × (written c ≡ Some t) × (length b < length t)
    there None q said = absurd (not_both said)
    there (Some s) q said = short s (ltb (length b) (length s)) refl q said

    back : (s : List ℕ) → written c ≡ Some s → length b < length s → meaning r ≡ refused 21 (Some c.code)
    back s w small =
        ap (λ o. o.answer) e ∙ ap (λ x. (store c.code x b).answer) w
        ∙ ap (λ (t : Bool). (stored t c.code s b).answer) (lt-ltb (length b) (length s) small)

-- of the bytes that the definition writes
twenty_one_of : (c : Command) (s b : List ℕ) (r : Written) (a : List ℕ) → written c ≡ Some s → WriterAccount c b r a
    → (meaning r ≡ refused 21 (Some c.code)) ↔ (length b < length s)
twenty_one_of c s b r a w e =
    let exactly = twenty_one_exactly c b r a e in
    (λ said. same (exactly.0 said), λ small. exactly.1 (s, w, small))
  where
    same : (t : List ℕ) × (written c ≡ Some t) × (length b < length t) → length b < length s
    same (t, v, small) = let is : t ≡ s = cc in subst (λ (u : List ℕ). length b < length u) is small

pub frame_twenty_one : FrameTwentyOne
frame_twenty_one c b r a has e = twenty_one_of c (frame_of [] c) b r a (short_frame_written c has) e

pub payload_twenty_one : PayloadTwentyOne
payload_twenty_one c b r a has e = twenty_one_of c (secure_of [] c) b r a (short_payload_written c has) e

pub twenty_two_exactly : TwentyTwoExactly
unfolding writing
twenty_two_exactly c b r a e = (
  λ said. (unwritable_exactly c).0 (there (written c) refl (sym said ∙ ap (λ o. o.answer) e)),
  λ neither. ap (λ o. o.answer) e ∙ ap (λ x. (store c.code x b).answer) ((unwritable_exactly c).1 neither),
)
  where
    short : (s : List ℕ) (small : Bool) → refused 22 (Some c.code) ≡ (stored small c.code s b).answer → ⊥
    short s true said = not_both (sym said)
    short s false said = wrote_not (sym said)

    there : (w : Option (List ℕ)) → written c ≡ w → refused 22 (Some c.code) ≡ (store c.code w b).answer → written c ≡ None
    there None q said = q
    there (Some s) q said = absurd (short s (ltb (length b) (length s)) said)

-- what the parser reads is what the bytes give, and the other way round
frame_gives : (c : Command) (s : List ℕ) (p : ParserResult) → Bytes s → FrameParsed s p → FrameIs s p c → FrameGives s c
frame_gives c s p small parsed given = (small, given.0, sym parsed.0 ∙ given.1)

payload_gives : (c : Command) (code : ℕ) (s : List ℕ) (p : ParserResult) → Bytes s → PayloadParsed code s p → PayloadIs s p c → PayloadGives code s c
payload_gives c code s p small parsed given = (small, given.0, sym parsed.0 ∙ given.1)

frame_is : (c : Command) (s : List ℕ) (p : ParserResult) → FrameParsed s p → FrameGives s c → FrameIs s p c
frame_is c s p parsed gave = (gave.1, parsed.0 ∙ gave.2)

payload_is : (c : Command) (code : ℕ) (s : List ℕ) (p : ParserResult) → PayloadParsed code s p → PayloadGives code s c → PayloadIs s p c
payload_is c code s p parsed gave = (gave.1, parsed.0 ∙ gave.2)

pub unwritable_unread : UnwritableUnread
unwritable_unread c b r a e said s p small =
    let neither = (twenty_two_exactly c b r a e).0 said in (
      λ parsed given. neither.0 (s, frame_gives c s p small parsed given),
      λ code parsed given. neither.1 (code, s, payload_gives c code s p small parsed given),
    )

-- a refusal carries the code handed in
with_code : (c : Command) (b : List ℕ) (r : Written) (a : List ℕ) (n : ℕ) (k : Option ℕ) → WriterAccount c b r a → meaning r ≡ refused n k
    → meaning r ≡ refused n (Some c.code)
with_code c b r a n k e said = said ∙ ap (refused n) (two_refusals c b r a n k e said).0

pub read_is_writable : ReadIsWritable
read_is_writable c s p b r a k small e = (
  λ parsed given said. (unwritable_unread c b r a e (with_code c b r a 22 k e said) s p small).0 parsed given,
  λ code parsed given said. (unwritable_unread c b r a e (with_code c b r a 22 k e said) s p small).1 code parsed given,
)

only_twenty_one : (c : Command) (s b : List ℕ) (r : Written) (a : List ℕ) → written c ≡ Some s → WriterAccount c b r a
    → ((k : Option ℕ) → meaning r ≡ refused 22 k → ⊥) → OnlyTwentyOne c s b r
only_twenty_one c s b r a w e never n k = (λ said. there said (two_refusals c b r a n k e said), λ (is, code, small). rw (is, code) (exactly.1 small))
  where
    exactly : (meaning r ≡ refused 21 (Some c.code)) ↔ (length b < length s)
    exactly = twenty_one_of c s b r a w e

    number : (m : ℕ) → meaning r ≡ refused n k → n ≡ m → meaning r ≡ refused m k
    number m said is = said ∙ ap (λ (i : ℕ). refused i k) is

    there : meaning r ≡ refused n k → (k ≡ Some c.code) × ((n ≡ 21) ⊎ (n ≡ 22)) → (n ≡ 21) × (k ≡ Some c.code) × (length b < length s)
    there said (code, inl is) = (is, code, exactly.0 (with_code c b r a 21 k e (number 21 said is)))
    there said (code, inr is) = absurd (never k (number 22 said is))

pub read_twenty_one : ReadTwentyOne
read_twenty_one c s p b r a small e = (
  λ parsed given.
      only_twenty_one c (frame_of [] c) b r a (short_frame_written c (s, frame_gives c s p small parsed given)) e
      λ k. (read_is_writable c s p b r a k small e).0 parsed given,
  λ code parsed given.
      only_twenty_one c (secure_of [] c) b r a (short_payload_written c (code, s, payload_gives c code s p small parsed given)) e
      λ k. (read_is_writable c s p b r a k small e).1 code parsed given,
)

pub behind_kept : BehindKept
behind_kept c b n a e =
    let h = stored_of c b n a e in
    let rest = drop-append_seam h.bytes (drop (length h.bytes) b) in (
      rw h.size h.room,
      ap (λ (k : ℕ). drop k a) h.size ∙ ap (drop (length h.bytes)) h.held ∙ rest ∙ ap (λ (k : ℕ). drop k b) (sym h.size),
    )

-- what is written stands in front
front : (c : Command) (b : List ℕ) (n : ℕ) (a : List ℕ) (h : Stored c b n a) → take n a ≡ h.bytes
front c b n a h = rw (h.size, h.held) (take-append_seam h.bytes (drop (length h.bytes) b))

pub written_frame_read : WrittenFrameRead
written_frame_read c b n a p plain e parsed =
    let h = stored_of c b n a e in
    let back = (frame_read_back c h.bytes plain h.is).1 in
    frame_is c (take n a) p parsed (subst (λ (s : List ℕ). FrameGives s c) (sym (front c b n a h)) back)

pub written_payload_read : WrittenPayloadRead
written_payload_read c b n a p secure e parsed =
    let h = stored_of c b n a e in
    let back = payload_read_back c h.bytes secure h.is in
    payload_is c c.code (take n a) p parsed (subst (λ (s : List ℕ). PayloadGives c.code s c) (sym (front c b n a h)) back)

-- with room for it, the writer writes the bytes of the definition
written_whole : (c : Command) (s b : List ℕ) (r : Written) (a : List ℕ) → written c ≡ Some s → length s ≤ length b → WriterAccount c b r a
    → (r ≡ Ok (length s)) × (a ≡ s ++ drop (length s) b)
unfolding writing
written_whole c s b r a w room e =
    let is = e ∙ ap (λ x. store c.code x b) w ∙ ap (λ (t : Bool). stored t c.code s b) (le-ltb (length b) (length s) room) in
    (meaning_one r (Ok (length s)) (ap (λ o. o.answer) is), ap (λ o. o.buffer) is)

pub shortest_frame : ShortestFrame
shortest_frame c s p b r a small parsed given room e =
    let accepted = frame_gives c s p small parsed given in
    let has : HasFrame c = (s, accepted) in
    let whole = written_whole c (frame_of [] c) b r a (short_frame_written c has) room e in
    (whole.0, whole.1, λ q parsed'. frame_is c (frame_of [] c) q parsed' (short_frame_accepted c has), other_frames_longer c s accepted)

pub shortest_payload : ShortestPayload
shortest_payload c code s p b r a small parsed given room e =
    let accepted = payload_gives c code s p small parsed given in
    let has : HasPayload c = (code, s, accepted) in
    let whole = written_whole c (secure_of [] c) b r a (short_payload_written c has) room e in
    (whole.0, whole.1, λ q parsed'. payload_is c c.code (secure_of [] c) q parsed' (short_payload_accepted c has), other_payloads_longer c code s accepted)

pub frames_read_are_choices : FramesReadAreChoices
frames_read_are_choices c has s p small parsed =
    let exactly = frames_are_choices c has s in
    (λ given. exactly.0 (frame_gives c s p small parsed given), λ choice. frame_is c s p parsed (exactly.1 choice))

pub payloads_read_are_choices : PayloadsReadAreChoices
payloads_read_are_choices c has code s p small parsed =
    let exactly = payloads_are_choices c has code s in
    (λ given. exactly.0 (payload_gives c code s p small parsed given), λ choice. payload_is c code s p parsed (exactly.1 choice))

pub two_frames_read : TwoFramesRead
two_frames_read c s t p q small small' parsed given parsed' given' =
    two_frames c s t (frame_gives c s p small parsed given) (frame_gives c t q small' parsed' given')

pub two_payloads_read : TwoPayloadsRead
two_payloads_read c s t p q small small' parsed given parsed' given' =
    two_payloads c s t (payload_gives c c.code s p small parsed given) (payload_gives c c.code t q small' parsed' given')

pub frames_read_differ : FramesReadDiffer
frames_read_differ c s t p q small small' parsed given parsed' given' =
    frames_differ c s t (frame_gives c s p small parsed given) (frame_gives c t q small' parsed' given')

pub payloads_read_differ : PayloadsReadDiffer
payloads_read_differ c s t p q small small' parsed given parsed' given' =
    payloads_differ c s t (payload_gives c c.code s p small parsed given) (payload_gives c c.code t q small' parsed' given')

-- the count that a result tells is the count that goes with its command
long_told : (s : List ℕ) (p : ParserResult) (c : Command) (n : ℕ) → parser.meaning s p ≡ gives c n → long_of p ≡ n
long_told s (Ok p) c n e = cc
long_told s (Err why) c n e = absurd (not_given e)

pub frame_long_told : FrameLongTold
frame_long_told c has forms p short parsed = long_told (drop 1 (frame_of forms c)) p c _ (parsed.0 ∙ frame_long_counted c has forms short)

pub payload_long_told : PayloadLongTold
payload_long_told c has forms tail p follows parsed = long_told (secure_of forms c ++ tail) p c _ (parsed.0 ∙ payload_long_counted c has forms tail follows)

pub number_alone : NumberAlone
unfolding writing written writable body_ok idm_ok selector_ok codes_ok same_length layout_of layout_in has plain_rows ◌and◌
number_alone n b r a e = meaning_one r (refusal Unwritable 0x04) (ap (λ o. o.answer) e)
