-- Tests at a place of a tree: which rules need one, which are open, what each covers, and its score.
use Rattle.std.specs.Prelude.{ℕ, zero, suc, ℤ, pos, Bool, false, not, ◌&&◌, ◌||◌, nat_lt, List, [], ◌∷◌, ◌++◌, length, map, Option, Some, None, is_some, slice_get, IsTrue}
use Rattle.std.specs.Bool.{◌==◌}
use Rattle.std.specs.Ordering.{int_cmp, is_lt}
use Rattle.std.specs.List.{filter, list_all, flat_map}
use Rattle.model.specs.sites.Sites.{SetRule, SiteSet}
use Rattle.model.specs.trees.Places.{Around, is_in, joins, joins_in, constraint_at, available}
use Rattle.model.specs.trees.Sound.{or_later, as_number}

-- what a step can test: the form of a site, that two sites are equal, or each answer of a call
pub data Test : Type 0 where
  match_test : (s : ℕ) → Test
  equal_test : (a b : ℕ) → Test
  -- s is the call whose answers are gone over
  loop_test : (s : ℕ) → Test

-- whether a rule needs a test: it constrains the site, its classes join the two sites, it goes over the call
abbrev pub needs : Test → SetRule → Bool
needs (match_test s) r = is_some (constraint_at r.constraints s)
needs (equal_test a b) r = joins_in r.classes a b
needs (loop_test s) r = is_in s r.iterators

-- whether the rule, if there is one, needs the test
abbrev pub is_needed : Test → Option SetRule → Bool
is_needed t None = false
is_needed t (Some r) = needs t r

-- the rule's priority, and 0 where there is none
abbrev pub priority : Option SetRule → ℤ
priority None = pos 0
priority (Some r) = r.prio

-- whether the rule at a place of the set needs the test
abbrev pub needs_at : List SetRule → Test → ℕ → Bool
needs_at rules t i = is_needed t (slice_get rules i)

-- whether the rule at i has a lower priority than the one at j
abbrev pub is_lower : List SetRule → ℕ → ℕ → Bool
is_lower rules i j = is_lt (int_cmp (priority (slice_get rules i)) (priority (slice_get rules j)))

-- the rule at i needs the test, and each rule here needs it too or has at most its priority
abbrev pub is_covered : List SetRule → List ℕ → Test → ℕ → Bool
is_covered rules here t i = needs_at rules t i && list_all (λ j. needs_at rules t j || not (is_lower rules i j)) here

-- the rules here that need the test and whose priority is at least that of each rule here that doesn't
abbrev pub cover : List SetRule → List ℕ → Test → List ℕ
cover rules here t = filter (is_covered rules here t) here

-- the sources of the arms and loops around a place
abbrev pub sources_around : Around → List ℕ
sources_around ar = map (λ d. d.0) ar.tested ++ ar.looped

-- a site of the set that is available
abbrev pub is_at_hand : SiteSet → Around → ℕ → Bool
is_at_hand set ar s = nat_lt s (length set.sites) && available set.sites ar s

-- an available site that is the source of no arm or loop around
abbrev pub is_open_site : SiteSet → Around → ℕ → Bool
is_open_site set ar s = is_at_hand set ar s && not (is_in s (sources_around ar))

-- available sites, the lesser first, that the tests around don't join
abbrev pub is_open_pair : SiteSet → Around → ℕ → ℕ → Bool
is_open_pair set ar a b = nat_lt a b && is_at_hand set ar a && is_at_hand set ar b && not (joins ar.joined a b)

-- whether a test could be made: of sites that are open, or of a pair that is
abbrev pub is_open : SiteSet → Around → Test → Bool
is_open set ar (match_test s) = is_open_site set ar s
is_open set ar (equal_test a b) = is_open_pair set ar a b
is_open set ar (loop_test s) = is_open_site set ar s

-- the test is open at the place
abbrev pub IsOpen : SiteSet → Around → Test → Type 0
IsOpen set ar t = IsTrue (is_open set ar t)

-- the numbers below n, ascending
abbrev pub up_to : ℕ → List ℕ
up_to zero = []
up_to (suc n) = up_to n ++ n ∷ []

-- the open sites, ascending
abbrev pub open_sites : SiteSet → Around → List ℕ
open_sites set ar = filter (is_open_site set ar) (up_to (length set.sites))

-- the open pairs of which b is the greater
abbrev pub open_pairs_at : SiteSet → Around → ℕ → List Test
open_pairs_at set ar b = map (λ a. equal_test a b) (filter (λ a. is_open_pair set ar a b) (up_to b))

-- all tests that are open at a place, pairs that no rule joins included
abbrev pub open_tests : SiteSet → Around → List Test
open_tests set ar =
    map match_test (open_sites set ar) ++ flat_map (open_pairs_at set ar) (up_to (length set.sites)) ++ map loop_test (open_sites set ar)

-- how good a test is at a place: how many rules it covers; 1 where its sites are emitted, else 0; its form, a match
-- 0, an equality 1, a loop 2; and its sites
pub record Score : Type 0 where
  pub count : ℕ
  pub emitted : ℕ
  pub form : ℕ
  pub site : ℕ
  pub other : ℕ

-- the score of a test at a place with these rules
abbrev pub score : SiteSet → Around → List ℕ → Test → Score
score set ar here (match_test s) = record { count = length (cover set.rules here (match_test s)); emitted = as_number (is_in s ar.emitted); form = 0; site = s; other = 0 }
score set ar here (equal_test a b) = record { count = length (cover set.rules here (equal_test a b)); emitted = as_number (is_in a ar.emitted && is_in b ar.emitted); form = 1; site = a; other = b }
score set ar here (loop_test s) = record { count = length (cover set.rules here (loop_test s)); emitted = as_number (is_in s ar.emitted); form = 2; site = s; other = 0 }

-- more rules, then emitted sites, then a match before an equality before a loop, then smaller sites
abbrev pub is_greater : Score → Score → Bool
is_greater x y =
    or_later (nat_lt y.count x.count) (x.count == y.count)
    (or_later (nat_lt y.emitted x.emitted) (x.emitted == y.emitted)
    (or_later (nat_lt x.form y.form) (x.form == y.form)
    (or_later (nat_lt x.site y.site) (x.site == y.site) (nat_lt x.other y.other))))
