-- A list put entry by entry, as a loop goes: what f gives of an entry is what its turn puts.
-- Assumes nothing.
use Rattle.std.proofs.Common.{ℕ, ◌+◌, ◌≤◌, ◌<◌, ◌≡◌, sym, ap, ◌∙◌, List, [], ◌++◌, length, get_or, take}
use Rattle.std.specs.List.{flat_map}
use Rattle.std.proofs.lemmas.List.{take_all, take_more, flat_map_more}
use Rattle.felica_put.specs.Output.{Puts}
use Rattle.felica_put.specs.declared.Output.{Output}
use Rattle.felica_put.proofs.Laws.{puts_then, puts_nothing}

-- the same in other words
pub puts_same : {A : Type 0} {a b : Output A} {vs ws : List A} → Puts a b vs → vs ≡ ws → Puts a b ws
puts_same p same = rw same at p

module _ {A B : Type 0} (f : A → List B) (s : List A) (i : ℕ) where
  one_more : (d : A) → i < length s → flat_map f (take (i + 1) s) ≡ flat_map f (take i s) ++ f (get_or s i d)
  one_more d h = ap (flat_map f) (take_more s i d h) ∙ sym (flat_map_more f [] (take i s) (get_or s i d))

  pub puts_turn : (d : A) {a b c : Output B} → i < length s → Puts a b (flat_map f (take i s)) → Puts b c (f (get_or s i d)) → Puts a c (flat_map f (take (i + 1) s))
  puts_turn d h before turn = puts_same (puts_then before turn) (sym (one_more d h))

  -- nothing is left of it
  pub puts_all : {a b : Output B} → length s ≤ i → Puts a b (flat_map f (take i s)) → Puts a b (flat_map f s)
  puts_all h p = puts_same p (ap (flat_map f) (take_all i s h))

-- What is put behind b, if it is the rest, is all of it behind a. Such a loop keeps this of what is left.
pub record Leads {A : Type 0} (a b : Output A) (rest all : List A) : Type 0 where
  pub puts : (c : Output A) → Puts b c rest → Puts a c all

pub leads_start : {A : Type 0} {a : Output A} {all : List A} → Leads a a all all
leads_start = record { puts = λ c p. p }

pub leads_turn : {A : Type 0} {a b c : Output A} {rest all : List A} (vs ws : List A) → Leads a b rest all → rest ≡ vs ++ ws → Puts b c vs → Leads a c ws all
leads_turn vs ws l is turn = record { puts = λ d p. l.puts d (puts_same (puts_then turn p) (sym is)) }

pub leads_end : {A : Type 0} {a b : Output A} {rest all : List A} → Leads a b rest all → rest ≡ [] → Puts a b all
leads_end {b = b} l is = l.puts b (puts_same puts_nothing (sym is))
