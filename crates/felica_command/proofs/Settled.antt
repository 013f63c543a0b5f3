-- Results that meet every clause of an entry.
-- Assumes nothing.
use Rattle.std.specs.Prelude.{Option, Err}
use Rattle.std.proofs.Common.{ℕ, ◌≡◌, refl, sym, subst, List}
use Rattle.felica_format.specs.Reasons.{number_of}
use Rattle.felica_format.specs.declared.error.Reason.{Reason}
use Rattle.felica_format.specs.Read.{Answer as Reading, refused}
use Rattle.felica_command.specs.Meaning.{ParserResult, refusal}
use Rattle.felica_command.specs.Places.{read_places, Account, ParserAccount, Inside}
use Rattle.felica_command.proofs.Inside.{none_inside}

-- a refusal meets every clause
pub refusal_account : (s : List ℕ) (at : ℕ) (why : Reason) (code : Option ℕ) (reading : Reading) (r : ParserResult) → r ≡ Err (refusal why code)
    → reading ≡ refused (number_of why) code → Account s at reading r
refusal_account s at why code reading r e is = rw (e, is) (refl, refl, tt)

pub settled : (s : List ℕ) (at : ℕ) (reading : Reading) (r : ParserResult) → Inside s (read_places at s reading) → Account s at reading r → ParserAccount s at reading r
settled s at reading r inside a = (a.0, a.1, a.2, subst (Inside s) (sym a.1) inside)

pub refusal_settled : (s : List ℕ) (at : ℕ) (why : Reason) (code : Option ℕ) (reading : Reading) (r : ParserResult) → r ≡ Err (refusal why code)
    → reading ≡ refused (number_of why) code → ParserAccount s at reading r
refusal_settled s at why code reading r e is =
    settled s at reading r (subst (λ (x : Reading). Inside s (read_places at s x)) (sym is) (none_inside s)) (refusal_account s at why code reading r e is)
