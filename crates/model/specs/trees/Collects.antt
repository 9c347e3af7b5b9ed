-- The results of a multi term: what the run of its tree collects, and what theory is to prove of sound trees.
use Rattle.std.specs.Prelude.{◌≡◌, ℕ, suc, ◌<◌, Bool, true, false, ◌&&◌, List, [], ◌∷◌, ◌++◌, length, map, Option, Some, None, if◌then◌else◌, slice_get, is_some, All, Contains, IsTrue, IsPermutation}
use Rattle.std.specs.List.{filter, flat_map, list_all}
use Rattle.model.specs.rules.Values.{Value, value_eq, args_well_typed}
use Rattle.model.specs.rules.Meaning.{Content, one, many, Contents, Meaning}
use Rattle.model.specs.rules.Outcome.{Outcome, ran_through, then_option}
use Rattle.model.specs.rules.Program.{Program, is_multi, arg_types, rules_of, numbers_from}
use Rattle.model.specs.lists.Names.{IsDistinct}
use Rattle.model.specs.sites.Sites.{Site, constructor_site, Constraint, SetRule, SiteSet, sources_at, SiteTerm, SiteTerms, unfold_site}
use Rattle.model.specs.visits.Demands.{Visit, visit_start, with_demands, visit_args, visit_pattern, visit_expr, has_site, demands_of, picked_call, taken_by, taken_by_all}
use Rattle.model.specs.sites.Serves.{Serves, TellsConstantsApart}
use Rattle.model.specs.trees.Trees.{Tree}
use Rattle.model.specs.trees.Run.{World, as_value, content_fields, run, world_of}
use Rattle.model.specs.trees.Places.{is_in, joins_in, waits, all_below, fields_of}
use Rattle.model.specs.trees.Sound.{IsSound}
use Rattle.model.specs.rules.Picks.{Pick, site_content, picks_over, bag}
use Rattle.model.specs.rules.Typed.{TypedIfLet, TypedRule}
use Rattle.model.specs.sites.Gates.{gate_demanded}

-- a run went through without impure calls, and its results are this bag, in whatever order
pub record Collects (o : Outcome) (expected : List Content) : Type 0 where
  pub calls : o.calls ≡ []
  pub ending : o.ending ≡ ran_through
  pub same : IsPermutation expected o.results

-- the multi calls that a site takes answers of, at any depth
abbrev pub calls_in : SiteTerm → List SiteTerm
calls_in s = taken_by picked_call s

abbrev pub calls_in_all : SiteTerms → List SiteTerm
calls_in_all ss = taken_by_all picked_call ss

-- the same place of a visit, with no demands met so far
abbrev pub afresh : Visit → Visit
afresh v = with_demands v visit_start.demands

-- whether the value of each if-let takes an answer of each multi call that its expression makes
abbrev pub iflets_need_calls : Program → List TypedIfLet → Visit → Bool
iflets_need_calls p [] v = true
iflets_need_calls p (i ∷ rest) v =
    let a = visit_expr p i.rhs (afresh v) in
    list_all (has_site (calls_in a.site)) a.visit.demands.iterators && iflets_need_calls p rest (visit_pattern p i.lhs a.site a.visit)

-- the value of each if-let of a rule takes an answer of each multi call that the if-let's expression makes
abbrev pub LeavesNoCallUnused : Program → TypedRule → Type 0
LeavesNoCallUnused p r = IsTrue (iflets_need_calls p r.iflets (visit_args p 0 r.args visit_start))

-- a typed rule whose results a run collects: it makes no impure call, and no if-let leaves a multi call unused
pub record HasCollectedResults (p : Program) (r : TypedRule) : Type 0 where
  pub no_calls : (demands_of p r).impure ≡ []
  pub no_call_unused : LeavesNoCallUnused p r

-- for a multi term whose rules make no impure call and leave no multi call of an if-let unused: on all well-typed
-- arguments, and under every meaning that serves the term's rules and tells constants apart, the tree's run goes through
-- without impure calls, and its results are the bag of the rules' results
abbrev pub CollectsTheBag : Program → ℕ → List Site → Tree → Type 0
CollectsTheBag p t sites tree =
    is_multi p t ≡ true → All (HasCollectedResults p) (rules_of p t) → (m : Meaning) (args : List Value)
    → IsTrue (args_well_typed p.types (arg_types p t) args) → Serves p m args (rules_of p t) → TellsConstantsApart p m (rules_of p t)
    → Collects (run tree (world_of p t sites m args)) (bag p m (rules_of p t) args)

-- the different calls that a rule of a set goes over: a site stands after its sources, so a call comes after those that
-- its arguments take answers of
abbrev pub calls_gone_over : SiteSet → SetRule → List SiteTerm
calls_gone_over set r = map (unfold_site set.sites) (filter (λ s. is_in s r.iterators) (numbers_from 0 set.sites))

-- the content of a site's number under a pick
abbrev pub content_at : World → Pick → ℕ → Option Content
content_at w k s = site_content w.meaning w.args k (unfold_site w.sites s)

-- whether a content is there and meets the constraint
abbrev pub meets : Meaning → Constraint → Option Content → Bool
meets m c None = false
meets m c (Some x) = is_some (content_fields m c x)

-- whether both are there and are one value
abbrev pub same_value : Option Value → Option Value → Bool
same_value (Some v) (Some w) = value_eq v w
same_value _ _ = false

-- the value of a site's number under a pick, where its content is one value
abbrev pub value_at : World → Pick → ℕ → Option Value
value_at w k s = then_option (content_at w k s) as_value

-- whether all sites of a class have one value, the first one's
abbrev pub all_same : World → Pick → List ℕ → Bool
all_same w k [] = true
all_same w k (s ∷ rest) = list_all (λ t. same_value (value_at w k s) (value_at w k t)) rest

-- whether the demands of a rule hold under a pick
abbrev pub demands_hold : World → Pick → SetRule → Bool
demands_hold w k r = list_all (λ d. meets w.meaning d.1 (content_at w k d.0)) r.constraints && list_all (all_same w k) r.classes

-- one element, or none
abbrev pub as_list : {X : Type 0} → Option X → List X
as_list None = []
as_list (Some x) = x ∷ []

-- the result of a set's rule under a pick, where its demands hold
abbrev pub result_in : World → SetRule → Pick → List Content
result_in w r k = if demands_hold w k r then as_list (content_at w k r.result) else []

-- one result for each rule of a set and each pick of the calls that it goes over under which its demands hold
abbrev pub set_bag : SiteSet → World → List Content
set_bag set w = flat_map (λ r. flat_map (result_in w r) (picks_over w.meaning w.args [] (calls_gone_over set r))) set.rules

-- the sites that a rule tests, goes over and returns
abbrev pub sites_of_rule : SetRule → List ℕ
sites_of_rule r = map (λ d. d.0) r.constraints ++ flat_map (λ c. c) r.classes ++ r.iterators ++ r.result ∷ []

-- a site that isn't an impure call
abbrev pub IsPureSite : Site → Type 0
IsPureSite (constructor_site term sources (suc before)) = ⊥
IsPureSite _ = Unit {0}

-- there is a site of this number, and it makes no impure call
abbrev pub IsPureAt : List Site → ℕ → Type 0
IsPureAt sites s = (b : Site) × (slice_get sites s ≡ Some b) × IsPureSite b

-- a rule of a set whose results a run collects: below its sites stand no impure calls, and only gates that it demands
pub record IsCollectedRule (sites : List Site) (r : SetRule) : Type 0 where
  pub known : All (λ s. s < length sites) (sites_of_rule r)
  pub no_calls : r.impure ≡ []
  pub pure : All (IsPureAt sites) (all_below sites (sites_of_rule r))
  pub gates : All (λ s. IsTrue (gate_demanded r (slice_get sites s))) (all_below sites (sites_of_rule r))

-- a set whose sites stand once, after their sources, with such rules. Sites that none of its rules uses may be anything:
-- a rule that was left out leaves its sites behind
pub record IsCollectedSet (set : SiteSet) : Type 0 where
  pub once : IsDistinct set.sites
  pub sources : (s a : ℕ) → Contains (sources_at set.sites s) a → a < s
  pub rules : All (IsCollectedRule set.sites) set.rules

-- under every pick, the world has a content for each site that waits for nothing, that no impure call stands at or below,
-- and whose sources have one; a call that is gone over answers a list, equal sites have values, and a content that meets a
-- constraint has its number of fields and meets no other constraint that rules ask of the site
pub record ServesSet (set : SiteSet) (w : World) : Type 0 where
  pub sites : w.sites ≡ set.sites
  pub found : (k : Pick) (s : ℕ) → All (IsPureAt set.sites) (all_below set.sites (s ∷ [])) → waits (slice_get set.sites s) ≡ false
      → All (λ a. IsTrue (is_some (content_at w k a))) (sources_at set.sites s) → IsTrue (is_some (content_at w k s))
  pub lists : (k : Pick) (r : SetRule) (s : ℕ) (c : Content) → Contains set.rules r → Contains r.iterators s → content_at w k s ≡ Some c → (cs : Contents) × (c ≡ many cs)
  pub values : (k : Pick) (r : SetRule) (a b : ℕ) (c : Content) → Contains set.rules r → IsTrue (joins_in r.classes a b) → content_at w k a ≡ Some c → (v : Value) × (c ≡ one v)
  pub fields : (k : Pick) (r : SetRule) (s : ℕ) (d : Constraint) (c : Content) (cs : List Content) → Contains set.rules r → Contains r.constraints (s, d)
      → content_at w k s ≡ Some c → content_fields w.meaning d c ≡ Some cs → length cs ≡ length (fields_of set.sites s d)
  pub apart : (k : Pick) (r q : SetRule) (s : ℕ) (d f : Constraint) → Contains set.rules r → Contains set.rules q → Contains r.constraints (s, d) → Contains q.constraints (s, f)
      → IsTrue (meets w.meaning d (content_at w k s)) → IsTrue (meets w.meaning f (content_at w k s)) → d ≡ f

-- the run of a sound tree of such a set, in a multi term, collects the bag of its rules' results
abbrev pub SoundTreesCollect : Type 0
SoundTreesCollect =
    (set : SiteSet) (tree : Tree) (w : World) → IsCollectedSet set → ServesSet set w → w.multi ≡ true → IsSound set true tree
    → Collects (run tree w) (set_bag set w)
