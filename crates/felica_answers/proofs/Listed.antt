-- The line of what the list reader answers, by what it answers.
-- Assumes nothing.
use Rattle.std.proofs.Common.{ℕ, ◌≡◌, refl, List, take, Ok, Err}
use Rattle.felica_command.specs.Meaning.{fields_of, ParserResult, refusal_is}
use Rattle.felica_command.specs.Lists.{lists_in}
use Rattle.felica_command.specs.declared.command.Parsed.{Parsed}
use Rattle.felica_command.specs.declared.command.Refusal.{Refusal}
use Rattle.felica_command.specs.declared.lists.Lists.{Lists}
use Rattle.felica_fields.specs.Refused.{refusal_text}
use Rattle.felica_lists.specs.Lists.{Buffers}
use Rattle.felica_answers.specs.Lists.{lists_text, list_line, listed_text}

-- a refusal's line is the parser's
pub refusal_line : (why : Refusal) → refusal_text why ≡ list_line (refusal_is why)
refusal_line why = refl

-- a result, whose lists are the fronts of the buffers
module _ (answer : ParserResult) (buffers : Buffers) where
  pub command_line : {p : Parsed} {l : Lists} {code : ℕ} {a b n s m : List ℕ} → answer ≡ Ok p → l ≡ lists_in (fields_of p.command)
      → code ≡ (fields_of p.command).code → a ≡ take l.first_codes.count buffers.first → b ≡ take l.second_codes.count buffers.second
      → n ≡ take l.block_list.count buffers.numbers → s ≡ take l.block_list.count buffers.places → m ≡ take l.block_list.count buffers.modes
      → lists_text code a b n s m ≡ listed_text answer buffers
  unfolding listed_text
  command_line e is same e₁ e₂ e₃ e₄ e₅ = rw (e, e₁, e₂, e₃, e₄, e₅, is, same)

  pub refused_line : {why : Refusal} → answer ≡ Err why → refusal_text why ≡ listed_text answer buffers
  unfolding listed_text
  refused_line e = rw e
