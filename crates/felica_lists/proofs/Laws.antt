-- Lists written to the front of a buffer entry by entry. A loop's invariant is stated of what is left: storing the rest from here gives what storing all
-- from the start gives.
-- Assumes nothing.
use Rattle.std.proofs.Common.{ℕ, suc, ◌+◌, ◌≤◌, zero-add, add-one, arith, ◌≡◌, sym, ap, ◌∙◌, List, [], ◌∷◌, ◌++◌, length, set, drop, length-drop}
use Rattle.std.proofs.lemmas.List.Edits.{sets, sets-eq}
use Rattle.felica_format.specs.Basic.{taken, refuse, bind}
use Rattle.felica_format.specs.Command.{Formed}
use Rattle.felica_format.specs.Read.{read_element, read_each}
use Rattle.felica_format.proofs.Steps.{none_taken}
use Rattle.felica_command.specs.Meaning.{part, elements_at}
use Rattle.felica_command.specs.Places.{elements_size}
use Rattle.felica_command.proofs.Inside.{each_whole}
use Rattle.felica_lists.specs.Lists.{front}

-- one more entry
pub store_more : (l : List ℕ) (i : ℕ) {v w : ℕ} {vs ws all : List ℕ} → vs ≡ w ∷ ws → v ≡ w → sets l i vs ≡ all → sets (set l i v) (i + 1) ws ≡ all
store_more l i {v} {w} {vs} {ws} e is h = rw (is, add-one) (ap (sets l i) (sym e) ∙ h)

-- none is left, and all stand in front
pub store_done : (l : List ℕ) (i : ℕ) (m all : List ℕ) {vs : List ℕ} → vs ≡ [] → length all ≤ length m → sets l i vs ≡ sets m 0 all → l ≡ front all m
store_done l i m all {vs} none room h =
    ap (sets l i) (sym none) ∙ h ∙ sets-eq all m 0 (omega arith) ∙ ap (λ (n : ℕ). all ++ drop n m) (zero-add (length all))

-- the elements at a place: none is refused where their bytes are there; one, and those behind it
pub none_refused : (s : List ℕ) (at n k g : ℕ) → n ≡ suc k → at + elements_size n (drop at s) ≤ length s → read_element (drop at s) ≡ refuse g → ⊥
unfolding read_each bind
none_refused s at n k g e inside r =
    let whole = each_whole n (drop at s) (rw length-drop (omega arith)) in
    let stops : read_each n (drop at s) ≡ refuse g = rw (e, r) in
    none_taken (sym stops ∙ whole.1)

pub elements_next : (s : List ℕ) (at next n k : ℕ) (e : Formed) → n ≡ suc k → read_element (drop at s) ≡ taken e (drop next s)
    → next + elements_size k (drop next s) ≤ length s → elements_at s (part at n) ≡ e.element ∷ elements_at s (part next k)
unfolding read_each bind
elements_next s at next n k e p r inside =
    let whole = each_whole k (drop next s) (rw length-drop (omega arith)) in
    rw (p, r, whole.1)

pub no_elements : (s : List ℕ) (at n : ℕ) → n ≡ 0 → elements_at s (part at n) ≡ []
unfolding read_each
no_elements s at n e = rw e
