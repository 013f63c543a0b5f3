-- From the parser's result to the list reader's: what goes with it in the buffers, and what the contracts say of both.
-- Assumes nothing.
use Rattle.std.proofs.Common.{ℕ, ◌≡◌, refl, sym, ap, ◌∙◌, subst, Bool, true, false, List, Ok, Err}
use Rattle.felica_format.specs.Read.{Answer as Reading}
use Rattle.felica_command.specs.Meaning.{fields_of, ParserResult, meaning, Canonical}
use Rattle.felica_command.specs.Places.{places_of, read_places, Inside, ParserAccount}
use Rattle.felica_command.specs.Lists.{lists_in}
use Rattle.felica_command.proofs.Inside.{none_inside}
use Rattle.felica_lists.specs.Lists.{Buffers, fits}
use Rattle.felica_lists.specs.Rules.{ListAccount}
use Rattle.felica_lists.specs.Fill.{lists_at, Given, given, give}

-- what the contract says of a result and the buffers behind it
abbrev Told : List ℕ → ℕ → Reading → Buffers → Given → Type 0
Told s at reading b g = ListAccount s at reading b g.result g.buffers

told : (s : List ℕ) (at : ℕ) (r : ParserResult) (b : Buffers) → places_of r ≡ read_places at s (meaning s r) → Canonical r → Inside s (places_of r)
    → Told s at (meaning s r) b (give s r b)
told s at (Err why) b placed canonical inside = (refl, placed, canonical, inside)
told s at (Ok p) b placed canonical inside = go (fits (lists_at s (lists_in (fields_of p.command))) b) refl
  where
    go : (room : Bool) → fits (lists_at s (lists_in (fields_of p.command))) b ≡ room → Told s at (meaning s (Ok p)) b (give s (Ok p) b)
    go true e = rw e (refl, placed, canonical, inside)
    go false e = rw e (refl, refl, tt, none_inside s)

pub given_told : (s : List ℕ) (at : ℕ) (reading : Reading) (p r : ParserResult) (b after : Buffers) → ParserAccount s at reading p → given r after ≡ give s p b
    → ListAccount s at reading b r after
given_told s at reading p r b after (means, placed, canonical, inside) e =
    let all = told s at p b (placed ∙ ap (read_places at s) (sym means)) canonical inside in
    subst (λ (g : Given). Told s at reading b g) (sym e) (subst (λ (x : Reading). Told s at x b (give s p b)) means all)
