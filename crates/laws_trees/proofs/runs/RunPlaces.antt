-- Worlds with their rules, and places on the path of a run: what it keeps there under a pick.
use Rattle.std.proofs.Common.{◌≡◌, ◌⊎◌, ℕ, suc, ◌<◌, true, false, List, [], ◌∷◌, ◌++◌, map, length, Some, slice_get, Contains, IsTrue, flat_map, sym, ◌∙◌}
use Rattle.std.proofs.lemmas.Option.{slice_get_within}
use Rattle.std.proofs.lemmas.List.Elements.{Contains-append_left, Contains-append_right}
use Rattle.model.specs.lists.Names.{IsDistinct}
use Rattle.model.specs.rules.Values.{Value}
use Rattle.model.specs.rules.Meaning.{Content, one, many, Contents}
use Rattle.model.specs.sites.Sites.{Site, iterator_site, Constraint, SetRule, SiteSet, unfold_site, SiteTerm}
use Rattle.model.specs.sites.Gates.{gate_demanded}
use Rattle.model.specs.trees.Places.{Around, is_in, joins_in, available, below, all_below, fields_of, field_sites}
use Rattle.model.specs.trees.Run.{World, Env, content_fields}
use Rattle.model.specs.rules.Picks.{Pick}
use Rattle.model.specs.trees.Collects.{content_at, meets, IsPureAt}
use Rattle.model.specs.trees.SetRuns.{tested_sites}
use Rattle.model.proofs.Members.{in_map, in_flat_map}
use Rattle.laws_trees.proofs.picks.LongerPicks.{keys}
use Rattle.laws_trees.proofs.runs.Classes.{SameAtPairs}
use Rattle.laws_trees.proofs.runs.Contents.{SourcesBefore}
use Rattle.laws_trees.proofs.runs.Below.{IsPureBelow, below_itself}
use Rattle.laws_trees.proofs.runs.Binding.{Held}
use Rattle.laws_trees.proofs.runs.BindOrders.{Finds}
use Rattle.laws_trees.proofs.runs.RuleDemands.{joined_in}

-- 1. sets and worlds
-- a site is clear for a rule where it and all below it make no impure call, and the rule demands what they wait for
pub record IsClear (sites : List Site) (r : SetRule) (s : ℕ) : Type 0 where
  pub pure : IsPureBelow sites s
  pub gates : (u : ℕ) → Contains (below (suc s) sites s) u → IsTrue (gate_demanded r (slice_get sites u))

-- a world, and rules over its sites: the sites stand once, after their sources, and the rules test clear sites and go over
-- clear calls
pub record ClearWorld : Type 0 where
  pub world : World
  pub rules : List SetRule
  pub once : IsDistinct world.sites
  pub sources : SourcesBefore world.sites
  pub tested : (r : SetRule) → Contains rules r → (s : ℕ) → Contains (tested_sites r) s → IsClear world.sites r s
  pub gone_over : (r : SetRule) → Contains rules r → (s : ℕ) → Contains r.iterators s → IsClear world.sites r s

-- under a pick, the world has what sites without impure calls ask; calls that rules go over answer lists, equal sites have
-- values, and a content that meets a constraint has its number of fields and meets no other that rules ask of the site
pub record ServesUnder (w : World) (rules : List SetRule) (pick : Pick) : Type 0 where
  pub found : Finds w pick
  pub lists : (r : SetRule) (s : ℕ) (c : Content) → Contains rules r → Contains r.iterators s → content_at w pick s ≡ Some c → (cs : Contents) × (c ≡ many cs)
  pub values : (r : SetRule) (a b : ℕ) (c : Content) → Contains rules r → IsTrue (joins_in r.classes a b) → content_at w pick a ≡ Some c → (v : Value) × (c ≡ one v)
  pub fields : (r : SetRule) (s : ℕ) (d : Constraint) (c : Content) (cs : List Content) → Contains rules r → Contains r.constraints (s, d)
      → content_at w pick s ≡ Some c → content_fields w.meaning d c ≡ Some cs → length cs ≡ length (fields_of w.sites s d)
  pub apart : (r q : SetRule) (s : ℕ) (d f : Constraint) → Contains rules r → Contains rules q → Contains r.constraints (s, d) → Contains q.constraints (s, f)
      → IsTrue (meets w.meaning d (content_at w pick s)) → IsTrue (meets w.meaning f (content_at w pick s)) → d ≡ f

-- some rule goes over the call
abbrev pub IsGoneOver : List SetRule → ℕ → Type 0
IsGoneOver rules s = (r : SetRule) × Contains rules r × Contains r.iterators s

-- 2. a place on the path of a run
-- emitted, or one of these calls
abbrev pub Kept : Around → List ℕ → ℕ → Type 0
Kept ar calls t = IsTrue (is_in t ar.emitted) ⊎ Contains calls t

-- both sites of each pair have one content
abbrev pub Joined : World → Pick → List (ℕ × ℕ) → Type 0
Joined w pick [] = Unit {0}
Joined w pick (p ∷ ps) = ((c : Content) × (content_at w pick p.0 ≡ Some c) × (content_at w pick p.1 ≡ Some c)) × Joined w pick ps

pub joined_at : (w : World) (pick : Pick) (ps : List (ℕ × ℕ)) → Joined w pick ps → SameAtPairs (content_at w pick) ps
joined_at w pick [] h = tt
joined_at w pick (p ∷ ps) h = (let c = h.0 in (c.1 ∙ sym c.2, joined_at w pick ps h.1))

-- a pick at a place: the world serves it, and it names the calls of the loops around; what these and loops before went
-- over, some rules go over
pub record PickedAt (clear : ClearWorld) (looped calls : List ℕ) (pick : Pick) : Type 0 where
  pub served : ServesUnder clear.world clear.rules pick
  pub over : (s : ℕ) → Contains calls s → IsGoneOver clear.rules s
  pub around : (s : ℕ) → Contains looped s → IsGoneOver clear.rules s
  pub named : (s : ℕ) → Contains looped s → Contains (keys pick) (unfold_site clear.world.sites s)
  pub names : (c : SiteTerm) → Contains (keys pick) c → (s : ℕ) × Contains looped s × (c ≡ unfold_site clear.world.sites s)

-- on the path to a place: kept is what is emitted, which makes no impure call, and the calls that loops went over, around
-- or before; brought sites are emitted, and the tests and loops around have passed
pub record At (clear : ClearWorld) (ar : Around) (pick : Pick) (env : Env) : Type 0 where
  pub calls : List ℕ
  pub picked : PickedAt clear ar.looped calls pick
  pub held : Held clear.world pick env (Kept ar calls)
  pub pure : (s : ℕ) → IsTrue (is_in s ar.emitted) → IsPureAt clear.world.sites s
  pub brought : (s : ℕ) → IsTrue (is_in s ar.brought) → IsTrue (is_in s ar.emitted)
  pub brings : (s : ℕ) (c : Constraint) (x : ℕ) → Contains ar.tested (s, c) → Contains (field_sites (fields_of clear.world.sites s c)) x → Contains ar.brought x
  pub loops : (source s : ℕ) → Contains ar.looped source → slice_get clear.world.sites s ≡ Some (iterator_site source) → Contains ar.brought s
  pub tested : (s : ℕ) (c : Constraint) → Contains ar.tested (s, c) → meets clear.world.meaning c (content_at clear.world pick s) ≡ true
  pub joined : Joined clear.world pick ar.joined

-- a place on the path of a run: what is around it, the pick, and what is bound there
pub record Place (clear : ClearWorld) : Type 0 where
  pub around : Around
  pub pick : Pick
  pub env : Env
  pub at : At clear around pick env

-- a call at a place that some rule goes over and no loop around does, with the list that it answers
pub record NextCall (clear : ClearWorld) (place : Place clear) : Type 0 where
  pub source : ℕ
  pub answers : Contents
  pub list : content_at clear.world place.pick source ≡ Some (many answers)
  pub gone_over : IsGoneOver clear.rules source
  pub out : is_in source place.around.looped ≡ false

-- a site that a step at a place can use
pub record IsReady (sites : List Site) (ar : Around) (s : ℕ) : Type 0 where
  pub available : IsTrue (available sites ar s)
  pub pure : IsPureBelow sites s

-- the set of these rules over the world's sites
abbrev pub set_of : World → List SetRule → SiteSet
set_of w rules = record { rules = rules; sites = w.sites }

abbrev pub set_in : ClearWorld → SiteSet
set_in clear = set_of clear.world clear.rules

-- further on, with these sites and all below them emitted
abbrev pub wider : List Site → Around → List ℕ → Around
wider sites ar ss = record { tested = ar.tested; joined = ar.joined; looped = ar.looped; brought = ar.brought; emitted = all_below sites ss ++ ar.emitted }

-- the sites that a rule tests
pub constraint_tested : (r : SetRule) (s : ℕ) (c : Constraint) → Contains r.constraints (s, c) → Contains (tested_sites r) s
constraint_tested r s c k = Contains-append_left (map (λ d. d.0) r.constraints) (flat_map (λ c. c) r.classes) s (in_map (λ d. d.0) r.constraints (s, c) k)

pub class_tested : (r : SetRule) (a b : ℕ) → joins_in r.classes a b ≡ true → Contains (tested_sites r) a
class_tested r a b j =
    let m = joined_in r.classes a b j in
    Contains-append_right (map (λ d. d.0) r.constraints) (flat_map (λ c. c) r.classes) a (in_flat_map (λ c. c) r.classes m.0 a m.1 m.2)

-- calls that rules go over are sites of the world
pub call_known : (clear : ClearWorld) (s : ℕ) → IsGoneOver clear.rules s → s < length clear.world.sites
call_known clear s g = (let b = (clear.gone_over g.0 g.1 s g.2).pure s (below_itself clear.world.sites s) in slice_get_within clear.world.sites s b.0 b.1)
