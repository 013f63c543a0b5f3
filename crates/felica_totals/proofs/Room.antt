-- What totals with room for one more record have, and what counting it gives.
-- Assumes nothing.
use Rattle.std.proofs.Common.{ℕ, ◌+◌, ◌<◌, ◌^◌, ◌≡◌, Bool, true, false}
use Rattle.std.proofs.lemmas.Bool.{ltb-true}
use Rattle.felica_format.proofs.Tests.{and_left, and_right}
use Rattle.felica_totals.specs.declared.Totals.{Totals}
use Rattle.felica_totals.specs.Count.{counted, has_room, counted_within}

module _ (t : Totals) (blocks : ℕ) where
  -- what totals with room have
  pub record Room : Type 0 where
    pub records : t.records + 1 < 2 ^ 64
    pub accepted : t.accepted + 1 < 2 ^ 64
    pub refused : t.refused + 1 < 2 ^ 64
    pub sum : t.blocks + blocks < 2 ^ 64

  pub room : has_room t blocks ≡ true → Room
  unfolding has_room
  room h = record {
    records = ltb-true _ _ (and_left _ _ h);
    accepted = ltb-true _ _ (and_left _ _ (and_right _ _ h));
    refused = ltb-true _ _ (and_left _ _ (and_right _ _ (and_right _ _ h)));
    sum = ltb-true _ _ (and_right _ _ (and_right _ _ (and_right _ _ h)));
  }

  pub counted_with_room : (accepted : Bool) → has_room t blocks ≡ true → counted_within t accepted blocks ≡ counted t accepted blocks
  unfolding counted_within
  counted_with_room accepted h = rw h

  pub kept_without_room : (accepted : Bool) → has_room t blocks ≡ false → counted_within t accepted blocks ≡ t
  unfolding counted_within
  kept_without_room accepted h = rw h
