-- The command of a call of the writer, by what was put into each buffer.
-- Assumes nothing.
use Rattle.std.proofs.Common.{ℕ, ◌≡◌, ap, ◌∙◌, List, map}
use Rattle.std.proofs.lemmas.List.{map-id}
use Rattle.felica_command.specs.declared.fixed.Fixed.{Fixed}
use Rattle.felica_command.specs.Handed.{handed}
use Rattle.felica_calls.specs.Bytes.{bytes_of}
use Rattle.felica_named.specs.Notes.{Noted}
use Rattle.felica_named.specs.Values.{value_named, words_in, small_in}
use Rattle.felica_named.specs.Handed.{fixed_named, front_with, command_over}
use Rattle.felica_named.specs.declared.names.Field.TheVariants.{First, Second, Numbers, Places, Modes, Data, Package}

-- a list of numbers, each put as it is
pub list_front : (l list : List ℕ) {f : List ℕ} → f ≡ front_with l (map (λ n. n) list) → f ≡ front_with l list
list_front l list is = is ∙ ap (front_with l) (map-id list)

pub command_given : (code : ℕ) (noted : Noted) (first second numbers places modes block_data issue_package : List ℕ) {fixed : Fixed} {f g n p m d i : List ℕ}
    → fixed ≡ fixed_named code noted → f ≡ front_with first (words_in (value_named noted First)) → g ≡ front_with second (words_in (value_named noted Second))
    → n ≡ front_with numbers (words_in (value_named noted Numbers)) → p ≡ front_with places (small_in (value_named noted Places))
    → m ≡ front_with modes (small_in (value_named noted Modes)) → d ≡ front_with block_data (bytes_of (value_named noted Data))
    → i ≡ front_with issue_package (bytes_of (value_named noted Package))
    → handed code fixed f g n p m d i ≡ command_over code noted first second numbers places modes block_data issue_package
unfolding command_over
command_given code noted first second numbers places modes block_data issue_package e₁ e₂ e₃ e₄ e₅ e₆ e₇ e₈ = rw (e₁, e₂, e₃, e₄, e₅, e₆, e₇, e₈)
