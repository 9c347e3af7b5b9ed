-- Built sets of well-typed programs can be served: those who use them rest on that.
use Rattle.std.proofs.Common.{◌≡◌, ◌⊎◌, ℕ, suc, Bool, true, false, List, [], ◌∷◌, slice_get, IsTrue, sym, subst, inl, inr}
use Rattle.std.proofs.lemmas.Bool.{cases_Bool, false≢true}
use Rattle.model.specs.claims.SetMeanings.{calls_left_by, DemandsGatesOfCall}
use Rattle.model.specs.rules.Program.{Program, rules_of, is_multi}
use Rattle.model.specs.rules.Typed.{TypedRule}
use Rattle.model.specs.sites.Sites.{Site, SetRule, SiteSet, SiteTerm, unfold_site}
use Rattle.model.specs.visits.Demands.{demands_of, result_of}
use Rattle.model.specs.sites.DemandedGates.{GatesDemanded, IsPureExpr, HasNoPartialMulti}
use Rattle.model.specs.sites.Gates.{gate_demanded}
use Rattle.model.specs.sites.Overlap.{BuiltRule, built_rules}
use Rattle.model.specs.trees.Places.{below, all_below}
use Rattle.model.proofs.Elements.{In, in_from_contains, contains_from_in, from_flat_map}
use Rattle.laws_sites.proofs.BuiltRules.{reachable}
use Rattle.laws_sites.proofs.built.BuiltGates.{stands_for, was_built, WasBuilt, typed_built, IsGood, below_good}
use Rattle.laws_sites.proofs.built.BuiltSets.{BuiltSet, RuleOfSet, typed_rule}
use Rattle.model.specs.rules.CalledTerms.{CallsAlone}
use Rattle.laws_sites.specs.BuiltLaws.{BuiltSetsCanBeServed}
use Rattle.laws_typing.specs.WellTypedPrograms.{IsWellTypedRule, IsWellTypedProgram}
use Rattle.laws_typing.proofs.WellTypedPrograms.{pure_iflets, without_multi, without_partial}
use Rattle.laws_sites.proofs.ClosingGates.{closing_keeps_gates_lem}
use Rattle.laws_sites.proofs.built.ConstrainedOrEquated.{built_rules_constrain_or_equate_lem}
use Rattle.laws_sites.proofs.Exprs.{IsTotal}
use Rattle.laws_sites.proofs.Gates.{asking_of, AllIn, gates_stay}
use Rattle.laws_sites.proofs.LoopedCalls.{rule_calls, rule_result}
use Rattle.laws_sites.proofs.built.DistinctSites.{sites_stand_once_lem}
use Rattle.laws_sites.proofs.built.Priorities.{one_priority_lem}
use Rattle.laws_sites.proofs.RightSides.{IsSingle}
use Rattle.laws_sites.proofs.Rules.{formed_rules_demand_gates_lem}
use Rattle.laws_sites.proofs.built.WellBuiltSets.{all_from_in, built_rules_demand_gates_lem}

-- 1. rules of programs
-- closing keeps the constraints of a built rule
pub constraints_kept_built : (p : Program) (t : ℕ) (b : BuiltRule) → IsWellTypedProgram p → In (built_rules p t) b → AllIn (demands_of p b.rule).constraints b.demands.constraints
constraints_kept_built p t b h i =
    subst (λ (k : BuiltRule). AllIn (demands_of p k.rule).constraints k.demands.constraints) w.same
    (λ x c. (closing_keeps_gates_lem w.before (demands_of p w.rule) (reachable p w.before w.rule w.built) (formed_rules_demand_gates_lem p w.rule typed.formed (pure_iflets typed)).tested).0 x.0 x.1 c)
  where
    w : WasBuilt p (rules_of p t) b
    w = was_built p [] (rules_of p t) b i

    typed : IsWellTypedRule p w.rule
    typed = typed_rule p t w.rule h (contains_from_in (rules_of p t) w.rule w.listed)

right_calls : (p : Program) (r : TypedRule) → HasNoPartialMulti p → IsWellTypedRule p r → CallsAlone (IsTotal p) r.rhs ⊎ CallsAlone (IsSingle p) r.rhs
right_calls p r neither h = elim (cases_Bool (is_multi p r.root_term)) [ inl t ↦ inl (without_partial neither h t) | inr f ↦ inr (without_multi h f).right ]

-- 2. rules of sets
pub gate_at : (asked : Bool) (sites : List Site) (r : SetRule) (u : ℕ) → IsGood true asked sites r u → IsTrue (gate_demanded r (slice_get sites u))
gate_at pure sites r u k = subst (λ o. IsTrue (gate_demanded r o)) (sym k.there) k.gate

module _ (s : BuiltSet) (h : IsWellTypedProgram s.program) (x : RuleOfSet s) where
  abbrev p : Program
  p = s.program

  abbrev set : SiteSet
  set = s.set

  abbrev b : BuiltRule
  b = x.typed

  typed : IsWellTypedRule p b.rule
  typed = typed_built p s.term b h x.listed

  -- the gates of a site are demanded by the closed demands of the rule, and no impure call is made, where that matters
  abbrev Demanded : Bool → SiteTerm → Type 0
  Demanded pure u = GatesDemanded true pure b.demands.constraints (demands_of p b.rule).iterators u

  stays : (pure : Bool) (u : SiteTerm) → GatesDemanded true pure (demands_of p b.rule).constraints (demands_of p b.rule).iterators u → Demanded pure u
  stays pure =
      gates_stay (asking_of (demands_of p b.rule)) (record { constraints = b.demands.constraints; calls = (demands_of p b.rule).iterators })
      (record { constraints = constraints_kept_built p s.term b h x.listed; calls = λ u k. k }) true pure

  -- a call that a built rule goes over is left, or its gates are demanded
  pub built_calls : (pure : Bool) → (pure ≡ true → IsPureExpr p b.rule.rhs) → (u : SiteTerm) → In (demands_of p b.rule).iterators u → In (calls_left_by p b.rule) u ⊎ Demanded pure u
  built_calls pure right u j = elim (rule_calls pure p b.rule typed right (right_calls p b.rule h.not_both typed) u j) [ inl l ↦ inl l | inr g ↦ inr (stays pure u g) ]

  -- so are those of its result, in a multi term
  pub built_result : (pure : Bool) → (pure ≡ true → IsPureExpr p b.rule.rhs) → is_multi p b.rule.root_term ≡ true → Demanded pure (result_of p b.rule)
  built_result pure right m = stays pure (result_of p b.rule) (rule_result pure p b.rule typed right (without_partial h.not_both typed m))

  gates_of_call : (n : ℕ) → In x.rule.iterators n → DemandsGatesOfCall p set.sites b x.rule n
  gates_of_call n i =
      let k = x.is.iterators.gone_over n (contains_from_in x.rule.iterators n i) in
      elim (built_calls false (λ e. absurd (false≢true e)) (unfold_site set.sites n) (in_from_contains (demands_of p b.rule).iterators (unfold_site set.sites n) k.1)) [
        | inl l ↦ inl (contains_from_in (calls_left_by p b.rule) (unfold_site set.sites n) l)
        | inr g ↦
            inr (all_from_in (λ u. IsTrue (gate_demanded x.rule (slice_get set.sites u))) (all_below set.sites (n ∷ []))
            (λ u j.
            let m = from_flat_map (λ a. below (suc a) set.sites a) (n ∷ []) u j in
            let at = only m.0 m.1 in
            gate_at false set.sites x.rule u
            (below_good s x true false (suc n) n k.0 g u (subst (λ a. In (below (suc a) set.sites a) u) (sym at) m.2))))
      ]
    where
      only : (a : ℕ) → In (n ∷ []) a → n ≡ a
      only a (inl e) = e
      only a (inr z) = absurd z

pub can_be_served_lem : BuiltSetsCanBeServed
can_be_served_lem p t set h b =
    let s : BuiltSet = record { program = p; term = t; set = set; built = b } in
    record {
      once = sites_stand_once_lem p t set b;
      sources = b.sources;
      apart = built_rules_constrain_or_equate_lem p t set b;
      gates = built_rules_demand_gates_lem p t set h b;
      gates_of_calls = λ k r same. all_from_in (DemandsGatesOfCall p set.sites k r) r.iterators (gates_of_call s h (stands_for s k r same));
      one_priority = one_priority_lem p t set h b;
    }
