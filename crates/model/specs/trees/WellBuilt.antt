-- What best trees rest on in a built set, and that they are sound.
use Rattle.std.specs.Prelude.{◌≡◌, ℕ, suc, ◌<◌, Bool, true, ◌||◌, List, Some, slice_get, Contains, IsTrue}
use Rattle.model.specs.lists.Names.{IsDistinct}
use Rattle.model.specs.sites.Sites.{Site, Constraint, SetRule, SiteSet, sources_at}
use Rattle.model.specs.trees.Trees.{Tree}
use Rattle.model.specs.trees.Places.{below, constraint_at}
use Rattle.model.specs.trees.Sound.{IsSound}
use Rattle.model.specs.trees.Tests.{match_test, equal_test, loop_test, needs}
use Rattle.model.specs.trees.Best.{IsBestTree}
use Rattle.model.specs.sites.Gates.{gate_demanded}

-- some test that a rule needs is of the site
abbrev pub tests_site : SetRule → ℕ → Bool
tests_site r s = needs (match_test s) r || needs (equal_test s s) r || needs (loop_test s) r

-- a rule asks one constraint of a site, and doesn't go over it beside; and it demands each gate at or below the sites
-- that it tests, which are the set's
pub record IsWellBuiltRule (sites : List Site) (r : SetRule) : Type 0 where
  pub asks_once : (s : ℕ) (c : Constraint) → Contains r.constraints (s, c) → constraint_at r.constraints s ≡ Some c
  pub asks_or_goes_over : (s : ℕ) (c : Constraint) → Contains r.constraints (s, c) → Contains r.iterators s → ⊥
  pub gates : (s u : ℕ) → IsTrue (tests_site r s) → Contains (below (suc s) sites s) u → IsTrue (gate_demanded r (slice_get sites u))

-- sources have smaller numbers, each site stands once, and each rule demands its gates
pub record IsWellBuilt (set : SiteSet) : Type 0 where
  pub sources : (s u : ℕ) → Contains (sources_at set.sites s) u → u < s
  pub sites_once : IsDistinct set.sites
  pub each : (i : ℕ) (r : SetRule) → slice_get set.rules i ≡ Some r → IsWellBuiltRule set.sites r

-- as in a term that is multi
abbrev pub HasOnePriority : List SetRule → Type 0
HasOnePriority rules = (i j : ℕ) (r q : SetRule) → slice_get rules i ≡ Some r → slice_get rules j ≡ Some q → r.prio ≡ q.prio

-- a best tree of a well built set is sound, in a term that isn't multi, and in one that is, whose rules have no priority
abbrev pub BestTreesAreSound : Type 0
BestTreesAreSound = (set : SiteSet) (multi : Bool) (tree : Tree) → IsWellBuilt set → (multi ≡ true → HasOnePriority set.rules) → IsBestTree set tree → IsSound set multi tree
