-- Whether every buffer has room for its list, and what stands in the buffers then.
-- Assumes nothing.
use Rattle.std.specs.Prelude.{Ok, Err, ◌&&◌}
use Rattle.std.proofs.Common.{ℕ, ◌≡◌, refl, Bool, true, false, List}
use Rattle.felica_format.specs.Basic.{◌and◌}
use Rattle.felica_format.specs.Command.{Element}
use Rattle.felica_format.specs.declared.error.Reason.TheVariants.{BufferTooSmall}
use Rattle.felica_command.specs.declared.lists.Lists.{Lists}
use Rattle.felica_command.proofs.Inside.{words_of_length, values_counted}
use Rattle.felica_lists.specs.Lists.{Buffers, buffers, fits, front}
use Rattle.felica_lists.specs.Fill.{lists_at, ListsInside, room_for, filled, fill}

both : (a b : Bool) → (a and b) ≡ (a && b)
unfolding ◌and◌
both true b = refl
both false b = refl

pub fits_is : (s : List ℕ) (l : Lists) (b : Buffers) → ListsInside s l → fits (lists_at s l) b ≡ room_for l b
unfolding fits
fits_is s l b inside =
    simp (
      both,
      words_of_length,
      values_counted s l.block_list (λ (e : Element). e.number) inside.2,
      values_counted s l.block_list (λ (e : Element). e.place) inside.2,
      values_counted s l.block_list (λ (e : Element). e.mode) inside.2,
    )

pub none_filled : (s : List ℕ) (l : Lists) (b : Buffers) → ListsInside s l → room_for l b ≡ false → filled (Err BufferTooSmall) b ≡ fill (lists_at s l) b
none_filled s l b inside short = rw (fits_is s l b inside, short)

pub all_filled : (s : List ℕ) (l : Lists) (b : Buffers) {f g n p m : List ℕ} → ListsInside s l → room_for l b ≡ true → f ≡ front (lists_at s l).first b.first
    → g ≡ front (lists_at s l).second b.second → n ≡ front (lists_at s l).numbers b.numbers → p ≡ front (lists_at s l).places b.places
    → m ≡ front (lists_at s l).modes b.modes → filled (Ok tt) (buffers f g n p m) ≡ fill (lists_at s l) b
all_filled s l b inside room e₁ e₂ e₃ e₄ e₅ = rw (e₁, e₂, e₃, e₄, e₅, fits_is s l b inside, room)
