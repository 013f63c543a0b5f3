-- What five lent buffers hold, each for itself.
-- Assumes nothing.
use Rattle.std.proofs.Common.{ℕ, List, ◌≡◌}
use Rattle.felica_lists.specs.Lists.{buffers}
use Rattle.felica_lists.specs.Lent.{held}
use Rattle.felica_lists.specs.declared.buffers.ListBuffers.{ListBuffers}

pub same_buffers : {a b n p m a' b' n' p' m' : List ℕ} → a ≡ a' → b ≡ b' → n ≡ n' → p ≡ p' → m ≡ m' → buffers a b n p m ≡ buffers a' b' n' p' m'
same_buffers e₁ e₂ e₃ e₄ e₅ = rw (e₁, e₂, e₃, e₄, e₅)

pub buffers_of : (o : ListBuffers) {a b n p m : List ℕ} → a ≡ o.first.now → b ≡ o.second.now → n ≡ o.numbers.now → p ≡ o.places.now → m ≡ o.modes.now
    → buffers a b n p m ≡ held o
buffers_of o = same_buffers
