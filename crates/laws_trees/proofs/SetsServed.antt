-- Of accepted definitions, the sets mean what their rules do wherever a meaning serves these.
use Rattle.std.proofs.Common.{◌≡◌, ◌<◌, ℕ, Bool, true, false, List, [], Contains, All, sym, ap, subst, ◌∙◌, inl, inr, arith}
use Rattle.std.proofs.lemmas.Bool.{cases_lt}
use Rattle.std.proofs.lemmas.List.Elements.{All-contains}
use Rattle.model.specs.lists.Syntax.{Definition}
use Rattle.model.specs.lists.Elaborated.{TypedRules}
use Rattle.model.specs.rules.Program.{Program, is_multi, rules_of}
use Rattle.model.specs.sites.Sites.{SetRule, SiteSet}
use Rattle.model.specs.sites.Overlap.{BuiltRule, built_rules, Overlaps}
use Rattle.model.specs.sites.RuleSets.{IsRuleOf, IsBuilt}
use Rattle.model.specs.trees.Collects.{HasCollectedResults, IsCollectedRule, IsCollectedSet}
use Rattle.model.specs.trees.SetRuns.{OverlapInSet, HasNoWrongOverlap}
use Rattle.model.specs.claims.Environments.{types_read}
use Rattle.model.specs.claims.Layers.{own_program, IsAccepted, LoweredTerm, IsLoweredTerm, MeansItsSet, IsCheckable}
use Rattle.model.proofs.Members.{all_members}
use Rattle.laws_trees.proofs.picks.Calls.{unfold_once}
use Rattle.laws_typing.specs.WellTypedPrograms.{IsWellTypedProgram}
use Rattle.laws_typing.proofs.WellTypedRules.{read_programs_are_well_typed}
use Rattle.laws_sites.specs.BuiltLaws.{BuiltSetsAreTested, BuiltSetsAreCollected}
use Rattle.laws_trees.specs.MatchLaws.{RulesWithoutMultiGoOverNoCalls}
use Rattle.laws_trees.specs.OutcomeLaws.{BuiltSetsMeanTheirRules}
use Rattle.laws_trees.specs.ServeLaws.{ServedSetsServeTests, ServedMultiSetsServe}
use Rattle.laws_sites.specs.GateLaws.{MultiTermsHaveOnePriority}
use Rattle.laws_sites.proofs.built.BuiltGates.{one_rule}
use Rattle.laws_trees.proofs.BuiltMatches.{built_listed}
use Rattle.laws_sites.proofs.built.DistinctSites.{sites_stand_once_lem}
use Rattle.laws_trees.specs.TreeMeanings.{BestTreesMeanTheirSets}
use Rattle.laws_trees.proofs.headline.NoCalls.{set_goes_over_none}
use Rattle.laws_trees.proofs.headline.Places.{Pair, of_set_rule}
use Rattle.laws_trees.specs.SetsServed.{MeansItsSetWhereServed, LoweredSetsMeanTheirRules}

-- what it rests on
pub record SetLaws : Type 0 where
  pub mean : BestTreesMeanTheirSets
  pub tested : BuiltSetsAreTested
  pub serve : ServedSetsServeTests
  pub collected : BuiltSetsAreCollected
  pub serve_multi : ServedMultiSetsServe
  pub one_priority : MultiTermsHaveOnePriority
  pub no_calls : RulesWithoutMultiGoOverNoCalls
  pub rules : BuiltSetsMeanTheirRules

-- 1. rules that can be told apart overlap wrongly in no built set
module _ (p : Program) (t : ℕ) (set : SiteSet) (b : IsBuilt p t set) where
  of_rule : (i : ℕ) (x : Pair p t set i) → IsRuleOf p set.sites x.typed x.built
  of_rule i x = one_rule p t set x.typed x.built b x.one

  demands_overlap : (i j : ℕ) (x : Pair p t set i) (y : Pair p t set j) → OverlapInSet x.built y.built → Overlaps x.typed.demands y.typed.demands
  demands_overlap i j x y o u c d k l =
      let f = of_rule i x in
      let g = of_rule j y in
      let s = f.constraints.all_asked u c k in
      let z = g.constraints.all_asked u d l in
      let same = unfold_once set.sites b.sources s.0 z.0 (sites_stand_once_lem p t set b) (f.constraints.asked s.0 c s.1).0 (g.constraints.asked z.0 d z.1).0 (s.2 ∙ sym z.2) in
      o s.0 c d s.1 (subst (λ n. Contains y.built.constraints (n, d)) (sym same) z.1)

  never : IsCheckable p → is_multi p t ≡ false → (i j : ℕ) (x : Pair p t set i) (y : Pair p t set j) → i < j → x.built.prio ≡ y.built.prio → OverlapInSet x.built y.built → ⊥
  never check without i j x y l same o =
      check.overlaps t i j
      (record {
        first = x.typed;
        second = y.typed;
        one_result = without;
        here = x.here;
        there = y.here;
        before = l;
        one_priority = sym (of_rule i x).prio ∙ same ∙ (of_rule j y).prio;
        overlap = demands_overlap i j x y o;
      })

  none_wrong : IsCheckable p → is_multi p t ≡ false → HasNoWrongOverlap set.rules
  none_wrong check without i j r q ri qj same o =
      let x = of_set_rule p t set b i r ri in
      let y = of_set_rule p t set b j q qj in
      let prios : x.0.built.prio ≡ y.0.built.prio = ap (λ (k : SetRule). k.prio) x.1 ∙ same ∙ sym (ap (λ (k : SetRule). k.prio) y.1) in
      let over : OverlapInSet x.0.built y.0.built = subst (λ k. OverlapInSet k y.0.built) (sym x.1) (subst (OverlapInSet r) (sym y.1) o) in
      elim (cases_lt i j) [
        | inl l ↦ absurd (never check without i j x.0 y.0 l prios over)
        | inr l ↦
            elim (cases_lt j i) [
              | inl k ↦ absurd (never check without j i y.0 x.0 k (sym prios) (λ s c d a z. sym (over s d c z a)))
              | inr k ↦ omega (arith, l, k)
            ]
      ]

-- 2. the sets
-- accepted definitions, and a term that they are lowered to
record AcceptedTerm : Type 0 where
  defs : List Definition
  expand : Bool
  rules : TypedRules
  accepted : IsAccepted defs expand rules
  term : LoweredTerm
  lowered : IsLoweredTerm (own_program defs rules) term

module _ (laws : SetLaws) (a : AcceptedTerm) where
  abbrev l : LoweredTerm
  l = a.term

  abbrev p : Program
  p = own_program a.defs a.rules

  h : IsWellTypedProgram p
  h = read_programs_are_well_typed a.accepted.read

  built : IsBuilt p l.term l.set
  built = a.lowered.built

  meaning : MeansItsSet l.set l.tree
  meaning =
      laws.mean l.set l.tree
      (record { types = types_read a.defs; defs = a.defs; expand = a.expand; rules = a.rules; term = l.term; elaborated = a.accepted.read.elaborated; built = built })
      a.lowered.best

  none : is_multi p l.term ≡ false → All (λ r. r.iterators ≡ []) l.set.rules
  none without = set_goes_over_none laws.no_calls (record { program = p; term = l.term; set = l.set; built = built }) h without

  collected : is_multi p l.term ≡ true → All (HasCollectedResults p) (rules_of p l.term) → IsCollectedSet l.set
  collected multi results =
      laws.collected p l.term l.set h built multi
      (all_members (λ (k : BuiltRule). HasCollectedResults p k.rule) (built_rules p l.term) (λ k c. All-contains (HasCollectedResults p) (rules_of p l.term) k.rule results (built_listed p l.term k c)))

  quiet : IsCollectedSet l.set → All (λ r. r.impure ≡ []) l.set.rules
  quiet c = all_members (λ (r : SetRule). r.impure ≡ []) l.set.rules (λ r i. (All-contains (IsCollectedRule l.set.sites) l.set.rules r c.rules i).no_calls)

  means : MeansItsSetWhereServed p l
  means = record {
    chooses = λ without m args typed served apart.
        meaning.chooses (laws.tested p l.term l.set h built without (none without)) _ (laws.serve p l.term l.set h built m args typed served apart) without;
    once = λ without m args typed served apart.
        meaning.once (none_wrong p l.term l.set built a.accepted.checkable without) _ (laws.serve p l.term l.set h built m args typed served apart) without;
    collects = λ multi results m args typed served apart.
        (let c = collected multi results in
        meaning.collects (laws.one_priority p l.term l.set h built multi) c _ (laws.serve_multi p l.term l.set h built (quiet c) m args typed served apart) multi);
    straight = a.lowered.straight;
    rules = laws.rules p l.term l.set h built;
  }

pub lowered_sets_mean_their_rules_lem : SetLaws → LoweredSetsMeanTheirRules
lowered_sets_mean_their_rules_lem laws defs expand rules l accepted lowered =
    means laws (record { defs = defs; expand = expand; rules = rules; accepted = accepted; term = l; lowered = lowered })
