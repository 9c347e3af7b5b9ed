-- Names of classes: those of joined sites, renamed and named as before.
use Rattle.std.proofs.Common.{◌≡◌, ℕ, zero, suc, ◌+◌, ◌<◌, ◌≤◌, ◌==◌, Bool, true, false, ◌&&◌, ◌||◌, if◌then◌else◌, nat_lt, List, [], ◌∷◌, ◌++◌, set, take, get_or, length, refl, sym, ap, ◌∙◌, inl, inr, arith, eq-eqb}
use Rattle.std.proofs.lemmas.Bool.{and_parts, cases_Bool, false≢true}
use Rattle.std.proofs.lemmas.List.{get_or_past, get_or-set_same, get_or-set_other, set-get_or, take_more}
use Rattle.std.proofs.lemmas.Grind.{common_steps}
use Rattle.model.specs.trees.Places.{class}
use Rattle.core_serialize.specs.AroundViews.{named_as, renamed, NamesClasses}
use Rattle.core_serialize.proofs.Tables.{set_again}

-- 1. names that sites have again
set_swap : (xs : List ℕ) (i j a : ℕ) → set (set xs i a) j a ≡ set (set xs j a) i a
set_swap [] i j a = refl
set_swap (x ∷ xs) zero zero a = refl
set_swap (x ∷ xs) zero (suc j) a = refl
set_swap (x ∷ xs) (suc i) zero a = refl
set_swap (x ∷ xs) (suc i) (suc j) a = ap (λ l. x ∷ l) (set_swap xs i j a)

-- one site more
pub named_last : (sites : List ℕ) (site name : ℕ) (names : List ℕ) → named_as (sites ++ site ∷ []) name names ≡ set (named_as sites name names) site name
named_last [] site name names = refl
named_last (s ∷ sites) site name names = ap (λ l. set l s name) (named_last sites site name names) ∙ set_swap (named_as sites name names) site s name

-- the first of some sites have the name, and one more
pub named_more : (sites : List ℕ) (k name : ℕ) (start old new : List ℕ) → k < length sites → new ≡ set old (get_or sites k 0) name → old ≡ named_as (take k sites) name start → new ≡ named_as (take (k + 1) sites) name start
named_more sites k name start old new l n e = grind (arith, common_steps, named_last (take k sites) (get_or sites k 0) name start, take_more sites k 0 l)

named_first : (sites : List ℕ) (site name : ℕ) (names : List ℕ) → named_as (sites ++ site ∷ []) name names ≡ named_as sites name (set names site name)
named_first [] site name names = refl
named_first (s ∷ sites) site name names = ap (λ l. set l s name) (named_first sites site name names)

-- a site that was renamed has its name again
pub named_back : (sites : List ℕ) (site from to : ℕ) (names new : List ℕ) (more : List ℕ) → more ≡ sites ++ site ∷ [] → new ≡ set names site to → get_or names site site ≡ from → named_as more from new ≡ named_as sites from names
named_back sites site from to names new more m n g =
    (λ i. named_as (m i) from (n i))
    ∙ named_first sites site from (set names site to)
    ∙ ap (named_as sites from) (set_again names site to from ∙ ap (set names site) (sym g) ∙ set-get_or names site site)

-- 2. all sites of a name are renamed
eq_swap : (x y : ℕ) → (x == y) ≡ (y == x)
eq_swap x y = grind (arith, common_steps)

-- the names before a place are renamed
abbrev pub renamed_before : ℕ → ℕ → ℕ → List ℕ → ℕ → ℕ
renamed_before i from to names s = if nat_lt s i then renamed from to (get_or names s s) else get_or names s s

pub none_renamed : (from to : ℕ) (names : List ℕ) (s : ℕ) → get_or names s s ≡ renamed_before 0 from to names s
none_renamed from to names s = grind (arith, common_steps)

-- one more
pub one_renamed : (i from to : ℕ) (start old new : List ℕ) → length old ≡ length start → i < length start → new ≡ set old i (renamed from to (get_or old i i)) → ((s : ℕ) → get_or old s s ≡ renamed_before i from to start s) → (s : ℕ) → get_or new s s ≡ renamed_before (i + 1) from to start s
one_renamed i from to start old new many l n h s =
    elim (cases_Bool (i == s)) [
      | inl t ↦ grind (arith, common_steps, get_or-set_same old i (renamed from to (get_or old i i)) i)
      | inr f ↦ grind (arith, common_steps, step f, get_or-set_other old i s (renamed from to (get_or old i i)) s (λ q. false≢true (sym f ∙ eq-eqb i s (sym q))))
    ]
  where
    step : (i == s) ≡ false → nat_lt s i ≡ nat_lt s (i + 1)
    step f = grind (arith, common_steps)

pub all_renamed : (i from to : ℕ) (start new : List ℕ) → length start ≤ i → from < length start → ((s : ℕ) → get_or new s s ≡ renamed_before i from to start s) → (s : ℕ) → get_or new s s ≡ renamed from to (get_or start s s)
all_renamed i from to start new l there h s = grind (arith, common_steps, get_or_past start s s)

-- 3. two names are one, after one was renamed
and_true : (b : Bool) → (b && true) ≡ b
and_true b = grind (arith, common_steps)

merged : (x y from to : ℕ) → (renamed from to x == renamed from to y) ≡ ((x == y) || ((x == from || x == to) && (y == from || y == to)))
merged x y from to = grind (arith, common_steps, eq_swap to y, eq_swap x y, and_true (x == to), and_parts (x == to) (y == to))

or_swap : (p q : Bool) → (p || q) ≡ (q || p)
or_swap p q = grind (arith, common_steps)

-- the names of classes after two sites were joined
pub named_joined : (pairs : List (ℕ × ℕ)) (names new : List ℕ) (a b from to : ℕ) → NamesClasses pairs names → from ≡ get_or names b b → to ≡ get_or names a a → ((s : ℕ) → get_or new s s ≡ renamed from to (get_or names s s)) → NamesClasses ((a, b) ∷ pairs) new
named_joined pairs names new a b from to h f t n s u = grind (arith, common_steps, or_swap, merged (class pairs s) (class pairs u) (class pairs a) (class pairs b))
