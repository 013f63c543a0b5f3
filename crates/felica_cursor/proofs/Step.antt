-- One element taken, as a step along a list of bytes.
-- Assumes nothing.
use Rattle.std.specs.Prelude.{Ok}
use Rattle.std.proofs.Common.{ℕ, ◌+◌, ◌≡◌, ap, ◌∙◌, subst, List, get_or, drop}
use Rattle.felica_format.specs.Basic.{taken}
use Rattle.felica_format.specs.Command.{Formed}
use Rattle.felica_format.specs.Read.{read_element}
use Rattle.felica_command.specs.Places.{element_size}
use Rattle.felica_cursor.specs.Taken.{rest, moved, Takes, To}
use Rattle.felica_cursor.specs.Steps.{formed_is}
use Rattle.felica_cursor.specs.declared.cursor.Cursor.{Cursor}
use Rattle.felica_cursor.specs.declared.cursor.FormedElement.{FormedElement}

-- from one cursor in the bytes s to the next
pub record Stepped (s : List ℕ) (c behind : Cursor) (f : Formed) : Type 0 where
  pub payload : behind.payload.now ≡ s
  pub took : read_element (drop c.at s) ≡ taken f (drop behind.at s)
  pub at : behind.at ≡ c.at + element_size (get_or s c.at 0)

pub stepped : (s : List ℕ) (c behind : Cursor) (e : FormedElement) → c.payload.now ≡ s
    → Takes formed_is (read_element (rest c)) (To (moved c (element_size (get_or c.payload.now c.at 0)))) (Ok (e, behind)) → Stepped s c behind (formed_is e)
stepped s c behind e same t =
    let payload = ap (λ (x : Cursor). x.payload.now) t.placed in
    subst (λ (x : List ℕ). Stepped x c behind (formed_is e)) same (record {
      payload = payload;
      took = t.read ∙ ap (λ (x : List ℕ). taken (formed_is e) (drop behind.at x)) payload;
      at = ap (λ (x : Cursor). x.at) t.placed;
    })
