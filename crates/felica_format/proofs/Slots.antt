-- The time slots: the statements of specs/Slots.antt, each proved under its name. Below 16 the formula and the list are computed, from there up neither
-- takes a number.
-- Assumes nothing.
use Rattle.std.proofs.Common.{ℕ, ◌≤◌, arith, ◌≡◌, refl, sym, ap, ap₂, ◌∙◌, Bool, true, false, List, [], ◌∷◌, length, get_or, drop, drop_of_length-le, ltb, ltb-true, ltb-false, le-ltb}
use Rattle.std.proofs.lemmas.Bool.{not-false}
use Rattle.felica_format.specs.Basic.{◌and◌, is_one_of, taken, bind, refuse_if}
use Rattle.felica_format.specs.Layout.{plain_rows, has, class_of, layout_in, layout_of, polling, nothing}
use Rattle.felica_format.specs.Read.{is_time_slots, read_idm, read_selector, read_codes, read_elements, read_data, read_values, read_ending, read_package, read_body}
use Rattle.felica_format.specs.Read.{Counted, counted, gives, read_payload, read_frame}
use Rattle.felica_format.specs.Slots.{time_slot_values, TimeSlotsAre, polling_of, PollingFrame, PollingFramesAre}
use Rattle.felica_format.proofs.Tests.{none_of}
use Rattle.felica_format.proofs.Bytes.{firsts_drop}
use Rattle.felica_format.proofs.Steps.{bind_taken, refuse_if_passed, refuse_if_taken, given_is, given_long}
use Rattle.felica_format.proofs.Demand3.{frame_gives}
use Rattle.felica_format.proofs.Tables.{table_from, same_below}

computed : table_from is_time_slots 0 16 ≡ table_from (is_one_of time_slot_values) 0 16
unfolding table_from is_time_slots ◌and◌
computed = refl

-- from 16 up the formula takes nothing
none_from_16 : (x : ℕ) → 16 ≤ x → is_time_slots x ≡ false
unfolding is_time_slots ◌and◌
none_from_16 x h = rw (le-ltb x 16 h)

none_listed : (x : ℕ) → 16 ≤ x → is_one_of time_slot_values x ≡ false
unfolding ◌and◌
none_listed x h = none_of 16 time_slot_values x refl h

pub time_slots_are : TimeSlotsAre
time_slots_are x = go (ltb x 16) refl
  where
    go : (b : Bool) → ltb x 16 ≡ b → is_time_slots x ≡ is_one_of time_slot_values x
    go true h = same_below is_time_slots (is_one_of time_slot_values) 16 x computed (ltb-true _ _ h)
    go false h = let from : 16 ≤ x = ltb-false _ _ h in none_from_16 x from ∙ sym (none_listed x from)

-- ── frames of code 00 ───────────────────────────────────────────────────────
-- what an accepted body has been tested for
body_passes : (body : List ℕ) (r : Counted) (rest : List ℕ) → read_body 0x00 (layout_of 0x00) body ≡ taken r rest
    → (length body ≡ 4) × (get_or body 2 0 ≤ 2) × (is_time_slots (get_or body 3 0) ≡ true)
unfolding read_body read_idm read_selector read_codes read_elements read_data read_ending read_values bind layout_of has layout_in plain_rows
body_passes body r rest e =
    let r₀ = (bind_taken (read_ending polling nothing body) _ e).2 in
    let enough : 4 ≤ length body = ltb-false _ _ (refuse_if_passed _ _ _ r₀) in
    let r₁ = refuse_if_taken _ _ _ r₀ in
    let fits : length body ≤ 4 = ltb-false _ _ (refuse_if_passed _ _ _ r₁) in
    let r₂ = refuse_if_taken _ _ _ r₁ in
    let request : get_or body 2 0 ≤ 2 = ltb-false _ _ (refuse_if_passed _ _ _ r₂) in
    (omega arith, request, not-false _ (refuse_if_passed _ _ _ (refuse_if_taken _ _ _ r₂)))

four_bytes : (body : List ℕ) → length body ≡ 4 → body ≡ get_or body 0 0 ∷ get_or body 1 0 ∷ get_or body 2 0 ∷ get_or body 3 0 ∷ []
four_bytes body e =
    let none : drop 4 body ≡ [] = drop_of_length-le body {i = 4} (omega arith) in
    rw none at (firsts_drop 4 body (omega arith))

polling_read : (high low request slots : ℕ) → request ≤ 2 → is_one_of time_slot_values slots ≡ true
    → read_frame (0x06 ∷ 0x00 ∷ high ∷ low ∷ request ∷ slots ∷ []) ≡ gives (polling_of high low request slots) 0
unfolding read_frame read_payload read_body read_idm read_selector read_codes read_elements read_data read_ending read_values read_package bind refuse_if class_of layout_of has layout_in plain_rows
polling_read high low request slots small listed = rw (le-ltb 2 request small, time_slots_are slots ∙ listed)

pub polling_frames_are : PollingFramesAre
polling_frames_are n body c long = (only, back)
  where
    only : read_frame (n ∷ 0x00 ∷ body) ≡ gives c long → PollingFrame (n ∷ 0x00 ∷ body) c × (long ≡ 0)
    only e =
        let (size, class, rest, read) = frame_gives n 0x00 body c long e in
        let (four, small, slots) = body_passes body (counted c long) rest read in
        let six : n ≡ 6 = omega arith in
        let is : n ∷ 0x00 ∷ body ≡ 0x06 ∷ 0x00 ∷ get_or body 0 0 ∷ get_or body 1 0 ∷ get_or body 2 0 ∷ get_or body 3 0 ∷ [] = λ i. six i ∷ 0x00 ∷ four_bytes body four i in
        let listed = sym (time_slots_are (get_or body 3 0)) ∙ slots in
        let r = polling_read (get_or body 0 0) (get_or body 1 0) (get_or body 2 0) (get_or body 3 0) small listed in
        let same = sym e ∙ ap read_frame is ∙ r in
        ((get_or body 0 0, get_or body 1 0, get_or body 2 0, get_or body 3 0, is, small, listed, given_is same), given_long same)

    back : PollingFrame (n ∷ 0x00 ∷ body) c × (long ≡ 0) → read_frame (n ∷ 0x00 ∷ body) ≡ gives c long
    back ((high, low, request, slots, is, small, listed, same), none) =
        ap read_frame is ∙ polling_read high low request slots small listed ∙ ap₂ gives (sym same) (sym none)
