-- Built sets of a multi term whose rules make no impure call and leave no multi call unused meet what collecting asks.
use Rattle.std.proofs.Common.{◌≡◌, ℕ, suc, ◌<◌, true, List, [], ◌∷◌, ◌++◌, map, slice_get, length, flat_map, IsTrue, ap, ◌∙◌, subst, inl, inr, arith}
use Rattle.std.proofs.lemmas.Grind.{common_steps}
use Rattle.model.specs.rules.Program.{Program, is_multi}
use Rattle.model.specs.rules.Typed.{TypedRule}
use Rattle.model.specs.sites.Sites.{Constraint, SetRule, SiteSet, unfold_site}
use Rattle.model.specs.visits.Demands.{demands_of, visit_args, visit_start}
use Rattle.model.specs.sites.DemandedGates.{GatesDemanded, IsPureExpr}
use Rattle.model.specs.sites.Gates.{gate_demanded}
use Rattle.model.specs.sites.Overlap.{BuiltRule, built_rules}
use Rattle.model.specs.sites.RuleSets.{IsRuleOf}
use Rattle.model.specs.trees.Collects.{IsPureAt, HasCollectedResults, sites_of_rule, IsCollectedRule}
use Rattle.model.specs.trees.Places.{below, all_below}
use Rattle.laws_typing.specs.WellTypedPrograms.{IsWellTypedProgram}
use Rattle.model.proofs.Elements.{In, in_from_contains, contains_from_in, in_either, from_flat_map}
use Rattle.laws_sites.proofs.built.BuiltGates.{root_of_built, IsGood, below_good}
use Rattle.laws_sites.proofs.built.BuiltSets.{BuiltSet, RuleOfSet}
use Rattle.laws_sites.proofs.LoopedCalls.{none_left, pure_right_side}
use Rattle.laws_sites.proofs.built.DistinctSites.{sites_stand_once_lem}
use Rattle.laws_sites.proofs.built.ServedSets.{built_calls, built_result, gate_at}
use Rattle.laws_sites.proofs.built.WellBuiltSets.{all_from_in, in_from_all, each_tested, each_of_set, gates_of}
use Rattle.model.proofs.Mapped.{nothing_mapped}
use Rattle.laws_sites.specs.BuiltLaws.{BuiltSetsAreCollected}

-- what is asked of a rule whose results are collected: its term is multi, it makes no impure call, and leaves no call unused
record IsCollecting (p : Program) (t : ℕ) (r : TypedRule) : Type 0 where
  multi : is_multi p t ≡ true
  results : HasCollectedResults p r

module _ (s : BuiltSet) (h : IsWellTypedProgram s.program) (x : RuleOfSet s) (of : IsCollecting s.program s.term x.typed.rule) where
  abbrev p : Program
  p = s.program

  abbrev set : SiteSet
  set = s.set

  abbrev b : BuiltRule
  b = x.typed

  abbrev r : SetRule
  r = x.rule

  abbrev q : IsRuleOf p set.sites b r
  q = x.is

  right : true ≡ true → IsPureExpr p b.rule.rhs
  right e = pure_right_side p b.rule of.results.no_calls

  -- a site of the set at and below which all gates are demanded, and no impure call stands
  record IsCollectedSite (n : ℕ) : Type 0 where
    known : n < length set.sites
    good : GatesDemanded true true b.demands.constraints (demands_of p b.rule).iterators (unfold_site set.sites n)

  call_collected : (n : ℕ) → In r.iterators n → IsCollectedSite n
  call_collected n i =
      let k = q.iterators.gone_over n (contains_from_in r.iterators n i) in
      record {
        known = k.0;
        good = elim (built_calls s h x true right (unfold_site set.sites n) (in_from_contains (demands_of p b.rule).iterators (unfold_site set.sites n) k.1)) [
          | inl l ↦ absurd (none_left p b.rule.iflets (visit_args p 0 b.rule.args visit_start) (unfold_site set.sites n) of.results.no_call_unused l)
          | inr d ↦ d
        ];
      }

  result_collected : IsCollectedSite r.result
  result_collected = record {
    known = q.result.0;
    good = grind (arith, common_steps, built_result s h x true right (ap (is_multi p) (root_of_built p s.term b x.listed) ∙ of.multi), root_of_built p s.term b x.listed);
  }

  tested_collected : (n : ℕ) → In (map (λ (d : ℕ × Constraint). d.0) r.constraints ++ flat_map (λ (c : List ℕ). c) r.classes) n → IsCollectedSite n
  tested_collected n i = let k = each_tested s x (gates_of s h x) n i in record { known = k.known; good = k.good }

  each_collected : (n : ℕ) → In (sites_of_rule r) n → IsCollectedSite n
  each_collected n i =
      let tested = map (λ (d : ℕ × Constraint). d.0) r.constraints ++ flat_map (λ (c : List ℕ). c) r.classes in
      elim (in_either (tested ++ r.iterators) (r.result ∷ []) n i) [
        | inl j ↦ elim (in_either tested r.iterators n j) [ inl k ↦ tested_collected n k | inr k ↦ call_collected n k ]
        | inr j ↦ elim j [ inl e ↦ subst IsCollectedSite e result_collected | inr z ↦ absurd z ]
      ]

  below_collected : (u : ℕ) → In (all_below set.sites (sites_of_rule r)) u → IsGood true true set.sites r u
  below_collected u i =
      let m = from_flat_map (λ s. below (suc s) set.sites s) (sites_of_rule r) u i in
      let k = each_collected m.0 m.1 in
      below_good s x true true (suc m.0) m.0 k.known k.good u m.2

  rule_collected : IsCollectedRule set.sites r
  rule_collected = record {
    known = all_from_in (λ s. s < length set.sites) (sites_of_rule r) (λ s i. (each_collected s i).known);
    no_calls = nothing_mapped (unfold_site set.sites) r.impure (q.impure.1 ∙ of.results.no_calls);
    pure = all_from_in (IsPureAt set.sites) (all_below set.sites (sites_of_rule r)) (λ u i. let k = below_collected u i in (k.site, k.there, k.pure_site));
    gates = all_from_in (λ s. IsTrue (gate_demanded r (slice_get set.sites s))) (all_below set.sites (sites_of_rule r)) (λ u i. gate_at true set.sites r u (below_collected u i));
  }

pub are_collected_lem : BuiltSetsAreCollected
are_collected_lem p t set h b multi results =
    let s : BuiltSet = record { program = p; term = t; set = set; built = b } in
    record {
      once = sites_stand_once_lem p t set b;
      sources = b.sources;
      rules = each_of_set s (IsCollectedRule set.sites)
          (λ x. rule_collected s h x (record { multi = multi; results = in_from_all (λ (k : BuiltRule). HasCollectedResults p k.rule) (built_rules p t) results x.typed x.listed }));
    }
