-- What holds of every row of the two tables, computed once over the rows.
-- Assumes nothing.
use Rattle.std.proofs.Common.{ℕ, ◌≤◌, ◌<◌, arith, ◌≡◌, refl, sym, ap, ◌∙◌, subst, ◌⊎◌, inl, inr, Bool, true, false, not, cond, ◌||◌, true≢false, List, [], ◌∷◌, ltb, leb, eqb, ltb-true, leb-true, eqb-true}
use Rattle.felica_format.specs.declared.classes.Class.TheVariants.{Plain, Secure, Unknown}
use Rattle.felica_format.specs.declared.classes.Class.{Class}
use Rattle.felica_format.specs.Basic.{◌and◌, is_one_of}
use Rattle.felica_format.specs.Layout.{Codes, no_codes, ◌to◌, Behind, nothing, ignored_bytes, a_package, Layout, Row, plain_rows, secure_rows}
use Rattle.felica_format.specs.Layout.{ends, bare, has, class_of, layout_in, layout_of, bounds_of}
use Rattle.felica_format.specs.Read.{size_of}
use Rattle.felica_format.specs.Write.{package_bytes}
use Rattle.felica_format.specs.Demand3.{secure_reads_and_writes, MayFollow}
use Rattle.felica_format.proofs.Tests.{and_left, and_right, or_none}
use Rattle.felica_format.proofs.Ending.{Left}
use Rattle.felica_format.proofs.Body.{Narrow}

every_row : (ℕ → Layout → Bool) → List Row → Bool
every_row test [] = true
every_row test (row ∷ rows) = test row.code row.layout and every_row test rows

in_rows : (test : ℕ → Layout → Bool) (rows : List Row) (code : ℕ) → every_row test rows ≡ true → has rows code ≡ true → test code (layout_in rows code) ≡ true
unfolding every_row has layout_in
in_rows test [] code all h = absurd (true≢false (sym h))
in_rows test (row ∷ rows) code all h = go (eqb code row.code) refl h (in_rows test rows code (and_right _ _ all))
  where
    go : (b : Bool) → eqb code row.code ≡ b → (b || has rows code) ≡ true → (has rows code ≡ true → test code (layout_in rows code) ≡ true)
        → test code (cond b row.layout (layout_in rows code)) ≡ true
    go true q h later = subst (λ (k : ℕ). test k row.layout ≡ true) (sym (eqb-true code row.code q)) (and_left _ _ all)
    go false q h later = later h

-- a plain code has a row in the first table; a secure one has none there, and one in the second
plain_has : (code : ℕ) → class_of code ≡ Plain → has plain_rows code ≡ true
unfolding class_of
plain_has code e = go (has plain_rows code) (has secure_rows code) e
  where
    go : (a b : Bool) → cond a Plain (cond b Secure Unknown) ≡ Plain → a ≡ true
    go true b e = refl
    go false true e = cc
    go false false e = cc

secure_has : (code : ℕ) → class_of code ≡ Secure → (has plain_rows code ≡ false) × (has secure_rows code ≡ true)
unfolding class_of
secure_has code e = go (has plain_rows code) (has secure_rows code) e
  where
    go : (a b : Bool) → cond a Plain (cond b Secure Unknown) ≡ Secure → (a ≡ false) × (b ≡ true)
    go true b e = (cc, cc)
    go false true e = (refl, refl)
    go false false e = (cc, cc)

plain_row : (test : ℕ → Layout → Bool) → every_row test plain_rows ≡ true → (code : ℕ) → class_of code ≡ Plain → test code (layout_of code) ≡ true
unfolding layout_of
plain_row test all code e = rw (plain_has code e) (in_rows test plain_rows code all (plain_has code e))

secure_row : (test : ℕ → Layout → Bool) → every_row test secure_rows ≡ true → (code : ℕ) → class_of code ≡ Secure → test code (layout_of code) ≡ true
unfolding layout_of
secure_row test all code e = rw (secure_has code e).0 (in_rows test secure_rows code all (secure_has code e).1)

-- the code and each count are bytes, and the fixed bytes fit the challenge
narrow : ℕ → Layout → Bool
narrow code l = ltb code 256 and ltb (bounds_of l.first).greatest 256 and ltb (bounds_of l.second).greatest 256 and leb (size_of l.ending) 16

plain_narrow : every_row narrow plain_rows ≡ true
unfolding every_row narrow plain_rows ◌and◌
plain_narrow = refl

secure_narrow : every_row narrow secure_rows ≡ true
unfolding every_row narrow secure_rows ◌and◌
secure_narrow = refl

pub plain_code : (code : ℕ) → class_of code ≡ Plain → code < 256
unfolding narrow
plain_code code e = ltb-true _ _ (and_left _ _ (plain_row narrow plain_narrow code e))

narrow_of : (code : ℕ) (l : Layout) → narrow code l ≡ true → Narrow l
unfolding narrow
narrow_of code l h = record {
  first = ltb-true _ _ (and_left _ _ (and_right _ _ h));
  second = ltb-true _ _ (and_left _ _ (and_right _ _ (and_right _ _ h)));
  ending = leb-true _ _ (and_right _ _ (and_right _ _ (and_right _ _ h)));
}

pub plain_layout : (code : ℕ) → class_of code ≡ Plain → Narrow (layout_of code)
plain_layout code e = narrow_of code (layout_of code) (plain_row narrow plain_narrow code e)

pub secure_layout : (code : ℕ) → class_of code ≡ Secure → Narrow (layout_of code)
secure_layout code e = narrow_of code (layout_of code) (secure_row narrow secure_narrow code e)

-- a code without a row has the layout of no bytes
none_in : (rows : List Row) (code : ℕ) → has rows code ≡ false → layout_in rows code ≡ ends bare
unfolding has layout_in
none_in [] code h = refl
none_in (row ∷ rows) code h =
    let other = or_none (eqb code row.code) (has rows code) h in
    rw other.0 (none_in rows code other.1)

unknown_layout : (code : ℕ) → class_of code ≡ Unknown → layout_of code ≡ ends bare
unfolding class_of layout_of
unknown_layout code e = go (has plain_rows code) (has secure_rows code) refl e
  where
    go : (a b : Bool) → has secure_rows code ≡ b → cond a Plain (cond b Secure Unknown) ≡ Unknown → cond a (layout_in plain_rows code) (layout_in secure_rows code) ≡ ends bare
    go true b q e = cc
    go false true q e = cc
    go false false q e = none_in secure_rows code q

-- whatever the code
pub every_layout : (code : ℕ) → Narrow (layout_of code)
every_layout code = go (class_of code) refl
  where
    go : (k : Class) → class_of code ≡ k → Narrow (layout_of code)
    go Plain e = plain_layout code e
    go Secure e = secure_layout code e
    go Unknown e = rw (unknown_layout code e) (record { first = omega arith; second = omega arith; ending = omega arith })

-- no code list of a plain layout has more than 32 codes
few : ℕ → Layout → Bool
few code l = leb (bounds_of l.first).greatest 32 and leb (bounds_of l.second).greatest 32

plain_few : every_row few plain_rows ≡ true
unfolding every_row few plain_rows ◌and◌
plain_few = refl

pub few_codes : (code : ℕ) → class_of code ≡ Plain → ((bounds_of (layout_of code).first).greatest ≤ 32) × ((bounds_of (layout_of code).second).greatest ≤ 32)
unfolding few
few_codes code e = let h = plain_row few plain_few code e in (leb-true _ _ (and_left _ _ h), leb-true _ _ (and_right _ _ h))

-- "10's two share theirs": where a plain layout has a second code list, its bounds are the first one's
shares : Codes → Codes → Bool
shares no_codes first = true
shares (least to greatest) no_codes = false
shares (least to greatest) (least' to greatest') = eqb least least' and eqb greatest greatest'

shares_bounds : (second first : Codes) → shares second first ≡ true → (second ≡ no_codes) ⊎ (second ≡ first)
unfolding shares
shares_bounds no_codes first h = inl refl
shares_bounds (least to greatest) no_codes h = absurd (true≢false (sym h))
shares_bounds (least to greatest) (least' to greatest') h =
    let p : least ≡ least' = eqb-true _ _ (and_left _ _ h) in
    let q : greatest ≡ greatest' = eqb-true _ _ (and_right _ _ h) in
    inr cc

plain_shares : every_row (λ code l. shares l.second l.first) plain_rows ≡ true
unfolding every_row shares plain_rows ◌and◌
plain_shares = refl

pub second_bounds : (code : ℕ) → class_of code ≡ Plain → ((layout_of code).second ≡ no_codes) ⊎ ((layout_of code).second ≡ (layout_of code).first)
second_bounds code e = shares_bounds (layout_of code).second (layout_of code).first (plain_row (λ code l. shares l.second l.first) plain_shares code e)

-- bytes are ignored behind a body exactly where that is expected
ignores_as : Behind → Bool → Bool
ignores_as nothing expected = not expected
ignores_as ignored_bytes expected = expected
ignores_as a_package expected = not expected

-- no plain body ignores bytes
plain_ignores : every_row (λ code l. ignores_as l.behind false) plain_rows ≡ true
unfolding every_row ignores_as plain_rows ◌and◌
plain_ignores = refl

none_left : (b : Behind) (rest : List ℕ) → ignores_as b false ≡ true → Left b rest → rest ≡ []
unfolding ignores_as Left
none_left nothing rest h left = left
none_left ignored_bytes rest h left = absurd (true≢false (sym h))
none_left a_package rest h left = left

pub plain_left : (code : ℕ) (rest : List ℕ) → class_of code ≡ Plain → Left (layout_of code).behind rest → rest ≡ []
plain_left code rest e left = none_left (layout_of code).behind rest (plain_row (λ code l. ignores_as l.behind false) plain_ignores code e) left

-- no plain body has a package
bare_behind : Behind → Bool
bare_behind nothing = true
bare_behind ignored_bytes = true
bare_behind a_package = false

plain_bare : every_row (λ code l. bare_behind l.behind) plain_rows ≡ true
unfolding every_row bare_behind plain_rows ◌and◌
plain_bare = refl

no_package : (b : Behind) (pack : List ℕ) → bare_behind b ≡ true → package_bytes b pack ≡ []
unfolding bare_behind package_bytes
no_package nothing pack h = refl
no_package ignored_bytes pack h = refl
no_package a_package pack h = absurd (true≢false (sym h))

pub plain_package : (code : ℕ) (pack : List ℕ) → class_of code ≡ Plain → package_bytes (layout_of code).behind pack ≡ []
plain_package code pack e = no_package (layout_of code).behind pack (plain_row (λ code l. bare_behind l.behind) plain_bare code e)

-- data stand behind a block list, and a package behind fixed bytes
fronted : ℕ → Layout → Bool
fronted code l = (not l.block_data || l.elements) and (bare_behind l.behind || leb 1 (size_of l.ending))

plain_fronted : every_row fronted plain_rows ≡ true
unfolding every_row fronted bare_behind plain_rows ◌and◌
plain_fronted = refl

secure_fronted : every_row fronted secure_rows ≡ true
unfolding every_row fronted bare_behind secure_rows ◌and◌
secure_fronted = refl

all_fronted : (code : ℕ) → fronted code (layout_of code) ≡ true
unfolding fronted bare_behind ◌and◌
all_fronted code = go (class_of code) refl
  where
    go : (k : Class) → class_of code ≡ k → fronted code (layout_of code) ≡ true
    go Plain e = plain_row fronted plain_fronted code e
    go Secure e = secure_row fronted secure_fronted code e
    go Unknown e = rw (unknown_layout code e) refl

pub data_behind_blocks : (code : ℕ) → (layout_of code).block_data ≡ true → (layout_of code).elements ≡ true
unfolding fronted
data_behind_blocks code there = go (layout_of code).block_data (layout_of code).elements there (and_left _ _ (all_fronted code))
  where
    go : (d blocks : Bool) → d ≡ true → (not d || blocks) ≡ true → blocks ≡ true
    go true blocks e h = h
    go false blocks e h = absurd (true≢false (sym e))

pub package_behind_bytes : (code : ℕ) → (layout_of code).behind ≡ a_package → 1 ≤ size_of (layout_of code).ending
unfolding fronted bare_behind
package_behind_bytes code there = go (layout_of code).behind (size_of (layout_of code).ending) there (and_right _ _ (all_fronted code))
  where
    go : (b : Behind) (n : ℕ) → b ≡ a_package → (bare_behind b || leb 1 n) ≡ true → 1 ≤ n
    go nothing n e h = cc
    go ignored_bytes n e h = cc
    go a_package n e h = leb-true 1 n h

-- of the secure bodies 14, 16, 44 and 46 do, and no other
tail : ℕ → Layout → Bool
tail code l = ignores_as l.behind (is_one_of secure_reads_and_writes code)

secure_tail : every_row tail secure_rows ≡ true
unfolding every_row tail ignores_as secure_rows ◌and◌
secure_tail = refl

left_follows : (b : Behind) (code : ℕ) (rest : List ℕ) → ignores_as b (is_one_of secure_reads_and_writes code) ≡ true → Left b rest → MayFollow code rest
unfolding ignores_as Left
left_follows nothing code rest h left = inl left
left_follows ignored_bytes code rest h left = inr (h, left)
left_follows a_package code rest h left = inl left

follows_left : (b : Behind) (code : ℕ) (rest : List ℕ) → ignores_as b (is_one_of secure_reads_and_writes code) ≡ true → MayFollow code rest → Left b rest
unfolding ignores_as Left
follows_left nothing code rest h (inl p) = p
follows_left nothing code rest h (inr p) = absurd (true≢false (sym h ∙ ap not p.0))
follows_left ignored_bytes code rest h (inl p) = rw p
follows_left ignored_bytes code rest h (inr p) = p.1
follows_left a_package code rest h (inl p) = p
follows_left a_package code rest h (inr p) = absurd (true≢false (sym h ∙ ap not p.0))

pub secure_left : (code : ℕ) (rest : List ℕ) → class_of code ≡ Secure → Left (layout_of code).behind rest → MayFollow code rest
unfolding tail
secure_left code rest e left = left_follows (layout_of code).behind code rest (secure_row tail secure_tail code e) left

pub secure_follows : (code : ℕ) (rest : List ℕ) → class_of code ≡ Secure → MayFollow code rest → Left (layout_of code).behind rest
unfolding tail
secure_follows code rest e f = follows_left (layout_of code).behind code rest (secure_row tail secure_tail code e) f
