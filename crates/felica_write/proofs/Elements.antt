-- The elements of three lists, entry by entry.
-- Assumes nothing.
use Rattle.std.proofs.Common.{ℕ, suc, ◌+◌, ◌*◌, ◌≤◌, ◌<◌, ◌≡◌, refl, sym, ap, ◌∙◌, Bool, true, false, cond, List, [], ◌∷◌, ◌++◌, arith}
use Rattle.std.proofs.Common.{ltb, length, get_or, drop, length-append}
use Rattle.std.specs.List.{flat_map}
use Rattle.std.proofs.lemmas.Bool.{ltb-true}
use Rattle.std.proofs.lemmas.List.Sums.{sum_by-cons}
use Rattle.felica_format.specs.Basic.{◌and◌, all_below, word_bytes}
use Rattle.felica_format.specs.Command.{Element, zip_elements}
use Rattle.felica_format.specs.Write.{words_bytes, short_bytes, long_bytes, element_bytes, each_bytes, elements_bytes}
use Rattle.felica_format.proofs.Tests.{and_left, and_right}
use Rattle.felica_put.specs.Output.{Puts}
use Rattle.felica_put.specs.declared.Output.{Output}
use Rattle.felica_put.proofs.Lists.{Leads, leads_turn, leads_end}
use Rattle.felica_writable.proofs.Laws.{zip_length}
use Rattle.felica_write.specs.Size.{short_size}
use Rattle.felica_write.specs.Body.{element}

-- What a loop over the three lists keeps of what is left of them.
pub record Left (a b : Output ℕ) (all ns ps ms : List ℕ) : Type 0 where
  pub leads : Leads a b (each_bytes [] (zip_elements ns ps ms)) all
  pub places_long : length ps ≡ length ns
  pub modes_long : length ms ≡ length ns
  pub places_small : all_below 16 ps ≡ true
  pub modes_small : all_below 8 ms ≡ true

-- an entry in front of the others is below their bound
pub first_below : (bound x : ℕ) (xs s : List ℕ) → s ≡ x ∷ xs → all_below bound s ≡ true → x < bound
first_below bound x xs s is h = ltb-true x bound (and_left (ltb x bound) (all_below bound xs) (rw is at h))

pub left_turn : {a b c : Output ℕ} {all : List ℕ} (n p m : ℕ) (ns ps ms : List ℕ) → Left a b all (n ∷ ns) (p ∷ ps) (m ∷ ms)
    → Puts b c (element_bytes false (element n p m)) → Left a c all ns ps ms
unfolding zip_elements each_bytes
left_turn n p m ns ps ms l turn =
    record {
      leads = leads_turn (element_bytes false (element n p m)) (each_bytes [] (zip_elements ns ps ms)) l.leads refl turn;
      places_long = omega (arith, l.places_long);
      modes_long = omega (arith, l.modes_long);
      places_small = and_right (ltb p 16) _ l.places_small;
      modes_small = and_right (ltb m 8) _ l.modes_small;
    }

-- nothing is left where one list ends
none_left : (ns ps ms : List ℕ) → length ns ≡ 0 → each_bytes [] (zip_elements ns ps ms) ≡ []
unfolding zip_elements each_bytes
none_left [] ps ms e = refl
none_left (n ∷ ns) ps ms e = absurd (omega arith)

pub left_end : {a b : Output ℕ} {all ns ps ms : List ℕ} → Left a b all ns ps ms → length ns ≡ 0 → Puts a b all
left_end {ns = ns} {ps = ps} {ms = ms} l e = leads_end l.leads (none_left ns ps ms e)

-- the length of an element in its shortest form
element_length : (e : Element) → length (element_bytes false e) ≡ cond (ltb e.number 256) 2 3
unfolding element_bytes short_bytes long_bytes ◌and◌
element_length e = go (ltb e.number 256)
  where
    go : (b : Bool) → length (cond b (short_bytes e) (long_bytes e)) ≡ cond b 2 3
    go true = refl
    go false = refl

pub each_length : (ns ps ms : List ℕ) → length (each_bytes [] (zip_elements ns ps ms)) ≡ short_size ns
unfolding zip_elements each_bytes
each_length [] ps ms = refl
each_length (n ∷ ns) ps ms =
    length-append (element_bytes false (element n (get_or ps 0 0) (get_or ms 0 0))) _
    ∙ rw (element_length (element n (get_or ps 0 0) (get_or ms 0 0)), each_length ns (drop 1 ps) (drop 1 ms)) (sym (sum_by-cons (λ k. cond (ltb k 256) 2 3) n ns))

pub size_bound : (ns : List ℕ) → short_size ns ≤ 3 * length ns
size_bound [] = omega arith
size_bound (n ∷ ns) = rw (sum_by-cons (λ k. cond (ltb k 256) 2 3) n ns) (go (ltb n 256) (size_bound ns))
  where
    go : (b : Bool) → short_size ns ≤ 3 * length ns → cond b 2 3 + short_size ns ≤ 3 * suc (length ns)
    go true h = omega arith
    go false h = omega arith

-- the count in front
pub counted : (there : Bool) (ns ps ms : List ℕ) → there ≡ true
    → (length ns ∷ []) ++ each_bytes [] (zip_elements ns ps ms) ≡ elements_bytes there [] (zip_elements ns ps ms)
unfolding elements_bytes
counted there ns ps ms e = rw (e, zip_length ns ps ms)

-- what is put entry by entry, as the loops put it
pub words_flat : (ns : List ℕ) → words_bytes ns ≡ flat_map word_bytes ns
unfolding words_bytes
words_flat [] = refl
words_flat (n ∷ ns) = ap (λ t. word_bytes n ++ t) (words_flat ns)
