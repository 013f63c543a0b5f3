-- Names in the table, by the places at which they stand.
-- Assumes nothing.
use Rattle.std.proofs.Common.{ℕ, zero, suc, ◌≤◌, ◌<◌, ◌≡◌, refl, ap, true, false, List, [], ◌∷◌, length, drop, arith}
use Rattle.std.specs.Prelude.{Option, None, Some}
use Rattle.std.specs.Option.{MatchOption, option_map}
use Rattle.felica_named.specs.Names.{begins_with, place_in}

-- where a key stands first: nowhere, or at a place before which it stands nowhere
pub place_first : (key s : List ℕ) (r : Option ℕ)
    → MatchOption r ((k : ℕ) → 0 ≤ k → k < length s → begins_with key (drop k s) ≡ false)
    (λ i. (0 ≤ i) × (i < length s) × (begins_with key (drop i s) ≡ true) × ((k : ℕ) → 0 ≤ k → k < i → begins_with key (drop k s) ≡ false))
    → r ≡ place_in key s
unfolding place_in
place_first key [] None h = refl
place_first key [] (Some i) h = absurd (omega (arith, h.1))
place_first key (d ∷ s) None h =
    rw (h 0 (omega arith) (omega arith)) (ap (option_map suc) (place_first key s None (λ k _ l. h (suc k) (omega arith) (omega (arith, l)))))
place_first key (d ∷ s) (Some zero) h = rw h.2 refl
place_first key (d ∷ s) (Some (suc i)) h =
    rw (h.3 0 (omega arith) (omega arith)) (ap (option_map suc) (place_first key s (Some i) (omega arith, omega (arith, h.1), h.2, λ k _ l. h.3 (suc k) (omega arith) (omega (arith, l)))))
