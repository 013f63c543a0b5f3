-- What is listed of a result of the parser.
-- Assumes nothing.
use Rattle.std.proofs.Common.{ℕ, ◌≡◌, refl, sym, ap, ◌∙◌, subst, List, ◌++◌, drop, Option, Some, None, Ok, Err}
use Rattle.felica_format.specs.Read.{Answer as Reading, read_frame}
use Rattle.felica_command.specs.Meaning.{codes_at, fields_of, ParserResult, meaning}
use Rattle.felica_command.specs.Places.{places_of, CodesInside, Inside}
use Rattle.felica_command.specs.Lists.{lists_in}
use Rattle.felica_command.specs.declared.command.Parsed.{Parsed}
use Rattle.felica_command.specs.declared.command.Refusal.{Refusal}
use Rattle.felica_command.specs.declared.lists.Lists.{Lists}
use Rattle.felica_command.proofs.Inside.{values_counted}
use Rattle.felica_fields.specs.Refused.{refusal_text}
use Rattle.felica_line.specs.Line.{accepted_text, frame_text, accepted_blocks}

-- what a line says of a reading: its text, and the blocks of an accepted frame
pub record Says (reading : Reading) (text : List ℕ) (blocks : Option ℕ) : Type 0 where
  pub text_is : text ≡ frame_text reading
  pub blocks_is : blocks ≡ accepted_blocks reading

module _ (s : List ℕ) (r : ParserResult) (p : Parsed) {l : Lists} (e : r ≡ Ok p) (is : l ≡ lists_in (fields_of p.command)) (inside : Inside s (places_of r)) where
  there : Inside s (places_of (Ok p))
  there = subst (λ (x : ParserResult). Inside s (places_of x)) e inside

  pub codes_inside : CodesInside s l.first_codes × CodesInside s l.second_codes
  codes_inside = subst (λ (x : Lists). CodesInside s x.first_codes × CodesInside s x.second_codes) (sym is) (there.0, there.1)

  pub command_says : {code : ℕ} → code ≡ (fields_of p.command).code
      → Says (meaning s r) (accepted_text code (codes_at s l.first_codes ++ codes_at s l.second_codes) l.block_list.count p.long) (Some l.block_list.count)
  command_says {code} same =
      let counted = values_counted s (fields_of p.command).elements (λ x. x.number) there.2 in
      rw (e, is, same) (record { text_is = rw counted refl; blocks_is = rw counted refl })

pub refused_says : (s : List ℕ) (r : ParserResult) {why : Refusal} → r ≡ Err why → Says (meaning s r) (refusal_text why) None
refused_says s r e = rw e (record { text_is = refl; blocks_is = refl })

-- the payload of a frame gives what the frame gives
pub frame_says : (frame payload : List ℕ) (r : ParserResult) → payload ≡ drop 1 frame → meaning (drop 1 frame) r ≡ read_frame frame → meaning payload r ≡ read_frame frame
frame_says frame payload r is e = ap (λ (s : List ℕ). meaning s r) is ∙ e
