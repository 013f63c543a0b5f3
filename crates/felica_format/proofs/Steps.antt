-- Steps that took something, and steps that refused.
-- Assumes nothing.
use Rattle.std.proofs.Common.{ℕ, arith, ◌≡◌, refl, Bool, true, false, List, Option}
use Rattle.felica_format.specs.Basic.{Step, taken, refuse, bind, refuse_if}
use Rattle.felica_format.specs.Command.{Command}
use Rattle.felica_format.specs.Read.{gives, refused}

pub taken_value : {A : Type 0} {a b : A} {r t : List ℕ} → taken a r ≡ taken b t → a ≡ b
taken_value e = cc

pub taken_rest : {A : Type 0} {a b : A} {r t : List ℕ} → taken a r ≡ taken b t → r ≡ t
taken_rest e = cc

-- a refusal takes nothing
pub none_taken : {A : Type 0} {n : ℕ} {a : A} {r : List ℕ} → refuse n ≡ taken a r → ⊥
none_taken e = let z : ◌≡◌ {A = ℕ} 0 1 = cc in omega arith

pub refuse_if_passed : {A : Type 0} (b : Bool) (n : ℕ) (step : Step A) {a : A} {r : List ℕ} → refuse_if b n step ≡ taken a r → b ≡ false
unfolding refuse_if
refuse_if_passed true n step e = absurd (none_taken e)
refuse_if_passed false n step e = refl

pub refuse_if_taken : {A : Type 0} (b : Bool) (n : ℕ) (step : Step A) {a : A} {r : List ℕ} → refuse_if b n step ≡ taken a r → step ≡ taken a r
unfolding refuse_if
refuse_if_taken true n step e = absurd (none_taken e)
refuse_if_taken false n step e = e

pub refuse_if_pass : {A : Type 0} (b : Bool) (n : ℕ) (step : Step A) → b ≡ false → refuse_if b n step ≡ step
unfolding refuse_if
refuse_if_pass b n step e = rw e

-- a walk that took something took its first step
pub bind_taken : {A B : Type 0} (m : Step A) (next : A → List ℕ → Step B) {b : B} {r : List ℕ}
    → bind m next ≡ taken b r → (a : A) × (t : List ℕ) × (m ≡ taken a t) × (next a t ≡ taken b r)
unfolding bind
bind_taken (taken a t) next e = (a, t, refl, e)
bind_taken (refuse n) next e = absurd (none_taken e)

pub bind_step : {A B : Type 0} (m : Step A) (next : A → List ℕ → Step B) {a : A} {r : List ℕ} → m ≡ taken a r → bind m next ≡ next a r
unfolding bind
bind_step m next e = rw e

-- an answer that refuses gives no command
pub not_given : {n : ℕ} {code : Option ℕ} {c : Command} {long : ℕ} → refused n code ≡ gives c long → ⊥
not_given e = let z : ◌≡◌ {A = ℕ} 0 1 = cc in omega arith

pub given_is : {c d : Command} {m n : ℕ} → gives c m ≡ gives d n → c ≡ d
given_is e = cc

pub given_long : {c d : Command} {m n : ℕ} → gives c m ≡ gives d n → m ≡ n
given_long e = cc
