-- `felica_named::notes::Named::numbers` meets its contract.
-- Assumes nothing.
use Rattle.std.proofs.Common.{◌≡◌, true, length, eq-eqb, ne_eqb, rules}
use Rattle.felica_put.proofs.Laws.{puts_nothing}
use Rattle.felica_calls.specs.Field.{is_byte}
use Rattle.felica_named.specs.Named.{noted_in}
use Rattle.felica_named.specs.Values.{value_named}
use Rattle.felica_named.proofs.notes.Named.numbers.Goals as goal
use Rattle.felica_named.proofs.notes.Named.numbers.Goals.{else-not-is_empty-via-then-not-is_empty+else-ne, else-not-is_empty-via-else-not-is_empty}

pub returns-else-not-is_empty : goal.returns-else-not-is_empty
returns-else-not-is_empty g c = let a = c.args in
    let v = value_named (noted_in a.self.now) a.field in
    elim c.else-not-is_empty.branch [
      | else-not-is_empty-via-then-not-is_empty+else-ne w ↦
          let some : (length v ≡ 0 → ⊥) = search rules in
          let none : is_byte 45 v ≡ true = search rules in
          rw (ne_eqb _ _ some, none) puts_nothing
      | else-not-is_empty-via-else-not-is_empty w ↦
          let none : length v ≡ 0 = search rules in
          rw (eq-eqb _ _ none) puts_nothing
    ]
