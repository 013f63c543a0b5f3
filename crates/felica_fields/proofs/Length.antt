-- How long the texts of lists, bytes and refusals are.
-- Assumes nothing.
use Rattle.std.proofs.Common.{ℕ, zero, suc, ◌+◌, ◌*◌, ◌≤◌, ◌<◌, refl, List, [], ◌∷◌, length, length-append, drop, arith}
use Rattle.std.specs.Prelude.{Option, None, Some}
use Rattle.felica_format.specs.Basic.{Step, taken, refuse}
use Rattle.felica_format.specs.Read.{read_element}
use Rattle.felica_command.specs.declared.command.Part.{Part}
use Rattle.felica_text.specs.Text.{word_text}
use Rattle.felica_text.proofs.Text.{decimal_length}
use Rattle.felica_text.proofs.Length.{parted_length}
use Rattle.felica_fields.specs.Entries.{read_code, if_taken, entries_of, formed_text, codes_text, blocks_text}
use Rattle.felica_fields.specs.Refused.{refused_text}

-- no more entries than are asked for
entries_few : {A : Type 0} (read : List ℕ → Step A) (n : ℕ) (s : List ℕ) → length (entries_of read n s) ≤ n
unfolding entries_of
entries_few read zero s = omega arith
entries_few {A} read (suc n) s = go (read s) (entries_few read n)
  where
    go : (step : Step A) → ((rest : List ℕ) → length (entries_of read n rest) ≤ n) → length (if_taken step (λ a rest. a ∷ entries_of read n rest) []) ≤ suc n
    go (taken a rest) few = let fewer = few rest in omega arith
    go (refuse k) few = omega arith

pub codes_length : (s : List ℕ) (p : Part) → length (codes_text s p) ≤ 5 * p.count + 1
codes_length s p =
    let few = entries_few read_code p.count (drop p.start s) in
    let long = parted_length word_text 4 (λ w. refl) (entries_of read_code p.count (drop p.start s)) in
    omega (arith, few, long)

pub blocks_length : (s : List ℕ) (p : Part) → length (blocks_text s p) ≤ 9 * p.count + 1
blocks_length s p =
    let few = entries_few read_element p.count (drop p.start s) in
    let long = parted_length formed_text 8 (λ f. refl) (entries_of read_element p.count (drop p.start s)) in
    omega (arith, few, long)

-- the number of a refusal has two digits at most
pub refused_length : (n : ℕ) (code : Option ℕ) → n < 100 → length (refused_text n code) ≤ 8
refused_length n None h = let digits = decimal_length 1 n (omega arith) in simp (length-append) (omega arith)
refused_length n (Some code) h = let digits = decimal_length 1 n (omega arith) in simp (length-append) (omega arith)
