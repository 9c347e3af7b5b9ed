-- What the run of a sound tree chooses, in a term that isn't multi, of a set of rules of any form that go over no calls.
use Rattle.std.specs.Prelude.{◌≡◌, ℕ, ◌<◌, false, List, [], ◌∷◌, ◌++◌, length, map, Option, Some, slice_get, is_some, All, Contains, IsTrue, ◌≤ℤ◌, ◌⊎◌}
use Rattle.std.specs.List.{flat_map}
use Rattle.model.specs.rules.Meaning.{Content, one}
use Rattle.model.specs.rules.Values.{Value}
use Rattle.model.specs.rules.Outcome.{Outcome, no_rule}
use Rattle.model.specs.lists.Names.{IsDistinct}
use Rattle.model.specs.sites.Sites.{Site, match_some_site, Constraint, SetRule, SiteSet, sources_at}
use Rattle.model.specs.trees.Trees.{Tree, no_step, step, return_at}
use Rattle.model.specs.trees.Run.{World, Env, bound_to, used, content_fields, at_start, run_tree, run}
use Rattle.model.specs.trees.Places.{Around, is_in, joins_in, waits, all_below, fields_of, bind_order, return_uses}
use Rattle.model.specs.trees.Sound.{IsSound}
use Rattle.model.specs.rules.Picks.{Pick}
use Rattle.model.specs.trees.Collects.{content_at, meets, demands_hold, IsPureAt}
use Rattle.model.specs.sites.Gates.{gate_demanded}

-- the sites that a rule tests
abbrev pub tested_sites : SetRule → List ℕ
tested_sites r = map (λ d. d.0) r.constraints ++ flat_map (λ c. c) r.classes

-- an unwrap of a call's answer
abbrev pub IsUnwrap : Option Site → Type 0
IsUnwrap (Some (match_some_site source)) = Unit {0}
IsUnwrap _ = ⊥

-- a rule of a set that goes over no calls: below what it tests stand no impure calls, and only gates that it demands;
-- below what it returns for, calls may be unwrapped as well, whose answers nothing demands
pub record IsTestedRule (sites : List Site) (r : SetRule) : Type 0 where
  pub known : All (λ s. s < length sites) (tested_sites r ++ return_uses (Some r))
  pub no_iterators : r.iterators ≡ []
  pub pure : All (IsPureAt sites) (all_below sites (tested_sites r))
  pub gates : All (λ s. IsTrue (gate_demanded r (slice_get sites s))) (all_below sites (tested_sites r))
  pub gates_of_result : All (λ s. IsTrue (gate_demanded r (slice_get sites s)) ⊎ IsUnwrap (slice_get sites s)) (all_below sites (return_uses (Some r)))

-- a set whose sites stand once, after their sources, with such rules
pub record IsTestedSet (set : SiteSet) : Type 0 where
  pub once : IsDistinct set.sites
  pub sources : (s a : ℕ) → Contains (sources_at set.sites s) a → a < s
  pub rules : All (IsTestedRule set.sites) set.rules

-- the world has a content for each site that waits for nothing, that no impure call stands at or below, and whose sources
-- have one: what an impure call answers is asked of rules that match alone. Equal sites have values, and a content that
-- meets a constraint has its number of fields and meets no other constraint that rules ask of the site
pub record ServesTests (set : SiteSet) (w : World) : Type 0 where
  pub sites : w.sites ≡ set.sites
  pub found : (s : ℕ) → All (IsPureAt set.sites) (all_below set.sites (s ∷ [])) → waits (slice_get set.sites s) ≡ false
      → All (λ a. IsTrue (is_some (content_at w [] a))) (sources_at set.sites s) → IsTrue (is_some (content_at w [] s))
  pub values : (r : SetRule) (a b : ℕ) (c : Content) → Contains set.rules r → IsTrue (joins_in r.classes a b) → content_at w [] a ≡ Some c → (v : Value) × (c ≡ one v)
  pub fields : (r : SetRule) (s : ℕ) (d : Constraint) (c : Content) (cs : List Content) → Contains set.rules r → Contains r.constraints (s, d)
      → content_at w [] s ≡ Some c → content_fields w.meaning d c ≡ Some cs → length cs ≡ length (fields_of set.sites s d)
  pub apart : (r q : SetRule) (s : ℕ) (d f : Constraint) → Contains set.rules r → Contains set.rules q → Contains r.constraints (s, d) → Contains q.constraints (s, f)
      → IsTrue (meets w.meaning d (content_at w [] s)) → IsTrue (meets w.meaning f (content_at w [] s)) → d ≡ f

-- a place that a run reached under a pick: what is emitted there can be used; what is emitted, and all below it, makes no
-- impure call, so none was made before; and what is bound is emitted and holds its content
pub record IsReachedUnder (w : World) (k : Pick) (ar : Around) (env : Env) : Type 0 where
  pub emitted : (s : ℕ) → IsTrue (is_in s ar.emitted) → IsTrue (is_some (content_at w k s)) × (used w env s ≡ content_at w k s)
  pub pure : (s : ℕ) → IsTrue (is_in s ar.emitted) → All (IsPureAt w.sites) (all_below w.sites (s ∷ []))
  pub bound : (s : ℕ) (c : Content) → bound_to env s ≡ Some c → IsTrue (is_in s ar.emitted) × (content_at w k s ≡ Some c)

-- where no calls are gone over, it is reached under the empty pick
abbrev pub IsReached : World → Around → Env → Type 0
IsReached w ar env = IsReachedUnder w [] ar env

-- a rule is taken under a pick: from some place where the gates that it demands are emitted, its impure calls are bound in
-- order, then its result, and it returns
pub record IsTakenUnder (w : World) (k : Pick) (r : SetRule) (o : Outcome) : Type 0 where
  pub around : Around
  pub env : Env
  pub reached : IsReachedUnder w k around env
  pub gates : (s : ℕ) → Contains (all_below w.sites (return_uses (Some r))) s → waits (slice_get w.sites s) ≡ false ⊎ IsUnwrap (slice_get w.sites s) ⊎ IsTrue (is_in s around.emitted)
  pub demanded : (s source : ℕ) → slice_get w.sites s ≡ Some (match_some_site source) → Contains (all_below w.sites (return_uses (Some r))) s
      → IsTrue (gate_demanded r (slice_get w.sites s)) → IsTrue (is_in s around.emitted)
  pub outcome : o ≡ run_tree (step (bind_order w.sites around (return_uses (Some r))) (return_at r.at r.result) no_step) w env at_start

-- of a rule that goes over no calls, it is taken under the empty pick
abbrev pub IsTaken : World → SetRule → Outcome → Type 0
IsTaken w r o = IsTakenUnder w [] r o

-- a rule of greatest priority among those whose demands hold is taken; or there is none, and no impure call is made
abbrev pub ChoosesFrom : SiteSet → World → Outcome → Type 0
ChoosesFrom set w o =
    ((r : SetRule) × Contains set.rules r × IsTrue (demands_hold w [] r)
    × ((q : SetRule) → Contains set.rules q → IsTrue (demands_hold w [] q) → q.prio ≤ℤ r.prio) × IsTaken w r o)
    ⊎ (((q : SetRule) → Contains set.rules q → demands_hold w [] q ≡ false) × (o ≡ no_rule))

-- two rules of a set overlap: no site has different constraints in them
abbrev pub OverlapInSet : SetRule → SetRule → Type 0
OverlapInSet r q = (s : ℕ) (c d : Constraint) → Contains r.constraints (s, c) → Contains q.constraints (s, d) → c ≡ d

-- no two different rules of a set overlap wrongly: with one priority
abbrev pub HasNoWrongOverlap : List SetRule → Type 0
HasNoWrongOverlap rules =
    (i j : ℕ) (r q : SetRule) → slice_get rules i ≡ Some r → slice_get rules j ≡ Some q → r.prio ≡ q.prio → OverlapInSet r q → i ≡ j

-- of two different rules of one priority, the demands of at most one hold
abbrev pub HoldsOnce : List SetRule → World → Type 0
HoldsOnce rules w =
    (i j : ℕ) (r q : SetRule) → slice_get rules i ≡ Some r → slice_get rules j ≡ Some q → r.prio ≡ q.prio
    → IsTrue (demands_hold w [] r) → IsTrue (demands_hold w [] q) → i ≡ j

-- so in a set without a wrong overlap the rule that is taken is the only one of its priority whose demands hold
abbrev pub RulesHoldOnce : Type 0
RulesHoldOnce = (set : SiteSet) (w : World) → ServesTests set w → HasNoWrongOverlap set.rules → HoldsOnce set.rules w

-- the run of a sound tree of such a set, in a term that isn't multi, chooses by priority
abbrev pub SoundTreesChoose : Type 0
SoundTreesChoose =
    (set : SiteSet) (tree : Tree) (w : World) → IsTestedSet set → ServesTests set w → w.multi ≡ false → IsSound set false tree
    → ChoosesFrom set w (run tree w)

-- taking a rule comes to one outcome, whatever the place that it is taken from: what is emitted there and all below it is
-- pure and holds its content, so binding more or fewer of these sites makes no other calls and gives no other result
abbrev pub TakenOnce : Type 0
TakenOnce =
    (set : SiteSet) (w : World) (r : SetRule) (o p : Outcome) → IsTestedSet set → ServesTests set w → Contains set.rules r
    → IsTaken w r o → IsTaken w r p → o ≡ p
