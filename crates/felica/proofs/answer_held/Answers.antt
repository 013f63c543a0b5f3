-- `answer_held` answers the lines that end, and keeps the rest or passes it over.
-- Assumes nothing.
use Rattle.std.proofs.Common.{ℕ, ◌-◌, ◌≤◌, ◌≡◌, sym, ap, ◌∙◌, subst, arith, ◌⊎◌, inl, inr, List, length, take, drop, length-drop, length-take-le}
use Rattle.felica_stream.specs.Held.{moved}
use Rattle.felica_stream.proofs.Held.{rest_moved}
use Rattle.felica.specs.Room.{input_size}
use Rattle.felica.specs.Held.{bytes_in, AllAnswered}
use Rattle.felica.proofs.Held.{passed_over}
use Rattle.felica.proofs.answer_held.Goals as goal

-- a rest that fills the room is of a line that is too long
full : {A B : Type 0} (s : List ℕ) (left n : ℕ) → left ≤ length s → n ≡ input_size → A ⊎ (B × (left ≡ n)) → A ⊎ (input_size ≤ length (drop (length s - left) s))
full s left n h size (inl a) = inl a
full s left n h size (inr e) = inr (omega (arith, h, size, e.1, length-drop (length s - left) s))

pub returns-then-left-room-clause-answered : goal.returns-then-left-room-clause-answered
returns-then-left-room-clause-answered g c =
    let input = c.args.input.now in
    let done = c.in_ok-left.ensures in
    passed_over _ _ _ _ _ _ _ _ done.1 (full (bytes_in input) c.in_ok-left.left (length input.room.now) done.0 input.size c.if-left-room.either)

pub returns-else-left-room-clause-answered : goal.returns-else-left-room-clause-answered
returns-else-left-room-clause-answered g c =
    let input = c.args.input.now in
    let left = c.in_ok-left.left in
    let done = c.in_ok-left.ensures in
    let all : length (bytes_in input) ≡ input.held = length-take-le input.held input.room.now input.inside in
    let back : input.held - (input.held - left) ≡ left = omega (arith, done.0, all) in
    let kept : take left c.keep_rest.new.input ≡ drop (length (bytes_in input) - left) (bytes_in input) =
    ap (take left) c.keep_rest.ensures
    ∙ ap (λ (n : ℕ). take n (moved input.room.now (input.held - left) input.held)) (sym back)
    ∙ rest_moved input.room.now (input.held - left) input.held (omega arith) input.inside
    ∙ ap (λ (n : ℕ). drop (n - left) (bytes_in input)) (sym all) in
    subst (AllAnswered _ _ _ (bytes_in input) _ _ _) (sym kept) done.1
