-- What is assumed of a source rule is assumed of the rule of the set, completed; and what is shown of the rule of the set is shown of the
-- source rule.
use Rattle.std.proofs.Common.{◌≡◌, ℕ, ◌≤◌, true, false, List, [], ◌∷◌, length, map, flat_map, Some, is_some, IsTrue, sym, subst, ◌∙◌, inl, inr, arith}
use Rattle.std.proofs.lemmas.Grind.{common_steps}
use Rattle.model.specs.rules.Program.{Program, arg_types}
use Rattle.model.specs.rules.Typed.{TypedRule}
use Rattle.model.specs.sites.Sites.{Constraint, SetRule, SiteSet, SiteTerm, pick_of, unfold_site}
use Rattle.model.specs.sites.Overlap.{BuiltRule}
use Rattle.model.specs.sites.RuleSets.{IsRuleOf, IsBuilt}
use Rattle.model.specs.trees.Places.{return_uses}
use Rattle.model.specs.trees.SetRuns.{tested_sites}
use Rattle.model.specs.visits.Demands.{Demands, demands_of}
use Rattle.model.proofs.Elements.{In, in_from_contains, contains_from_in, in_either, in_map, map_in, from_flat_map}
use Rattle.laws_typing.specs.WellTypedPrograms.{IsWellTypedRule, IsWellTypedProgram}
use Rattle.laws_sites.proofs.built.WellBuiltSets.{in_from_all}
use Rattle.laws_trees.specs.WholeDemands.{AsksWhatFollows}
use Rattle.laws_specs.specs.Words.{Denoted, DenotedList}
use Rattle.laws_specs.specs.Specs.{Specs, IsRequired, IsProvided}
use Rattle.laws_specs.specs.Conditions.{ToldContent, told, Valuation, IsMetAs, are_of_types, IsAnsweredAsSaid, IsTypedAs, is_impure_call, call_of, Condition, condition, IsAssumed, AreMade, IsShown, IsValid}
use Rattle.laws_specs.specs.SetConditions.{pairs_of, set_condition, IsNoneAboveInSet, IsValidBelowInSet}
use Rattle.laws_specs.proofs.sets.CompletedSites.{completed, stays, each_more, completed_held, completed_formed, calls_stay, picks_stay, nothing_completed}
use Rattle.laws_specs.proofs.sets.CallsMade.{CallsAre, AreMadeBelow, rule_makes_calls}
use Rattle.laws_specs.proofs.sets.JoinedSites.{closed_met, closed_equal, constrained_made, equated_made}
use Rattle.laws_specs.proofs.sets.SetNumbers.{all_calls_below, in_one_class, another_member, pair_members}

-- 1. of calls, facts of each made call are facts of calls at and below sites
module _ (p : Program) (specs : Specs) (c : Condition) (args : DenotedList) (f : Valuation) (a : IsAssumed p specs c args f) where
  abbrev g : Valuation
  g = completed f

  abbrev Made : SiteTerm → Type 0
  Made u = In c.made u

  pub call_answered : (s : SiteTerm) → CallsAre Made s → is_impure_call s ≡ false → IsAnsweredAsSaid specs g s s
  call_answered s h e = calls_stay specs args f a.held s (grind (arith, contains_from_in))

  pub pick_answered : (s : SiteTerm) → CallsAre Made s → is_impure_call s ≡ false → IsAnsweredAsSaid specs g s (pick_of s)
  pick_answered s h e = picks_stay specs args f a.held s (grind (arith, contains_from_in))

  pub call_typed : (s : SiteTerm) (h : ToldContent) → CallsAre Made s → is_impure_call s ≡ false → g s ≡ Some h → IsTypedAs p specs s h
  call_typed s h m e q = grind (arith, common_steps, contains_from_in)

  pub pick_typed : (s : SiteTerm) (h : ToldContent) → CallsAre Made s → is_impure_call s ≡ false → g (pick_of s) ≡ Some h → IsTypedAs p specs s h
  pick_typed s h m e q = grind (arith, common_steps, contains_from_in)

  -- 2. an impure call that was made was made under the completed valuation too
  still_there : (u : SiteTerm) → is_some (f u) ≡ true → is_some (g u) ≡ true
  still_there u e = grind (arith, common_steps, stays specs args f a.held u, stays)

  still_made : (us : List SiteTerm) → AreMade p specs f us → AreMade p specs g us
  still_made us m u i = grind (arith, common_steps, still_there u, calls_stay specs args f a.held (call_of u), still_there, calls_stay)

  -- what is shown under the completed valuation of a condition with the same impure calls and the same result
  pub shown_back : (b : Condition) → b.term ≡ c.term → b.impure ≡ c.impure → b.result ≡ c.result → IsShown p specs b args g → IsShown p specs c args f
  shown_back b term impure result shown = record {
    provides = λ h x m e r.
        subst (λ t. IsProvided specs t args x) term
        (shown.provides h x (subst (AreMade p specs g) (sym impure) (still_made c.impure m)) (subst (λ s. g s ≡ Some h) (sym result) (stays specs args f a.held c.result h e)) r);
    requires = λ before after u t n ss xs e m call at.
        shown.requires before after u t n ss xs (impure ∙ e) (still_made before m) call (each_more f g (stays specs args f a.held) ss xs at);
  }

-- 3. the rule of a set and its source rule
module _ (p : Program) (t : ℕ) (set : SiteSet) (built : IsBuilt p t set) (b : BuiltRule) (r : SetRule) (is : IsRuleOf p set.sites b r) (asks : AsksWhatFollows p set.sites b.rule r) (well : IsWellTypedProgram p) (typed : IsWellTypedRule p b.rule) (root : b.rule.root_term ≡ t) where
  abbrev q : TypedRule
  q = b.rule

  abbrev tree : ℕ → SiteTerm
  tree s = unfold_site set.sites s

  abbrev d : Demands
  d = demands_of p q

  abbrev c : Condition
  c = set_condition t set r

  result_same : c.result ≡ (condition p q).result
  result_same = is.result.1

  module _ (specs : Specs) (args : DenotedList) (f : Valuation) (a : IsAssumed p specs (condition p q) args f) where
    constraint_met : (s : SiteTerm) (k : Constraint) → In c.constraints (s, k) → IsMetAs specs (completed f) s k
    constraint_met s k i = grind (arith, common_steps, closed_met p q specs args f a well typed, contains_from_in r.constraints, in_map, closed_met, contains_from_in)

    pair_equal : (s u : SiteTerm) → In c.equalities (s, u) → (x : Denoted) × (completed f s ≡ Some (told x)) × (completed f u ≡ Some (told x))
    pair_equal s u i =
        let m = in_map (λ (e : ℕ × ℕ). (tree e.0, tree e.1)) (flat_map pairs_of r.classes) (s, u) i in
        let n = from_flat_map pairs_of r.classes m.0 m.1 in
        let k = pair_members n.0 m.0 n.2 in
        let e = (asks.classes m.0.0 m.0.1).0 (k.2, in_one_class r.classes n.0 m.0.0 m.0.1 n.1 k.0 k.1) in
        subst (λ (x : SiteTerm × SiteTerm). (y : Denoted) × (completed f x.0 ≡ Some (told y)) × (completed f x.1 ≡ Some (told y))) m.2
        (closed_equal p q specs args f a well typed (tree m.0.0) (tree m.0.1) e.2)

    tested_made : (s : ℕ) → In (tested_sites r) s → AreMadeBelow d (tree s)
    tested_made s i =
        elim (in_either (map (λ (e : ℕ × Constraint). e.0) r.constraints) (flat_map (λ k. k) r.classes) s i) [
          | inl j ↦
              let m = in_map (λ (e : ℕ × Constraint). e.0) r.constraints s j in
              subst (λ n. AreMadeBelow d (tree n)) m.2
              (constrained_made p q specs args f a well typed (tree m.0.0) m.0.1 ((asks.constraints m.0.0 m.0.1).0 (contains_from_in r.constraints m.0 m.1)).1)
          | inr j ↦
              let m = from_flat_map (λ (k : List ℕ). k) r.classes s j in
              let o = another_member r.classes is.classes.once m.0 m.1 (in_from_all (λ k. 2 ≤ length k) r.classes is.classes.many m.0 m.1) s m.2 in
              let e = (asks.classes s o.0).0 (o.2, in_one_class r.classes m.0 s o.0 m.1 m.2 o.1) in
              equated_made p q specs args f a well typed (tree s) (tree o.0) e.2
        ]

    returned_made : (s : ℕ) → In (return_uses (Some r)) s → AreMadeBelow d (tree s)
    returned_made s i = grind (arith, common_steps, rule_makes_calls p q, in_either r.impure (r.result ∷ []) s i, map_in tree r.impure s)

    site_made : (s : SiteTerm) → In c.made s → AreMadeBelow d s
    site_made s i = grind (arith, common_steps, in_either (tested_sites r) (return_uses (Some r)), in_map, all_calls_below, in_either, tested_made, returned_made)

    set_assumed : IsAssumed p specs c args (completed f)
    set_assumed = record {
      arguments = subst (λ n. IsTrue (are_of_types p.types specs (Some (arg_types p n)) args)) root a.arguments;
      formed_args = a.formed_args;
      required = subst (λ n. IsRequired specs n args) root a.required;
      unknowns = a.unknowns;
      held = completed_held specs args f a.held;
      formed = completed_formed specs args f a.held a.formed;
      constraints = λ s k i. constraint_met s k (in_from_contains c.constraints (s, k) i);
      equalities = λ s u i. pair_equal s u (in_from_contains c.equalities (s, u) i);
      calls = λ s i e. call_answered p specs (condition p q) args f a s (grind (arith, site_made, in_from_contains)) e;
      typed = λ s h i e k. call_typed p specs (condition p q) args f a s h (grind (arith, site_made, in_from_contains)) e k;
      picks = λ s i e. pick_answered p specs (condition p q) args f a s (grind (arith, site_made, in_from_contains)) e;
      typed_picks = λ s h i e k. pick_typed p specs (condition p q) args f a s h (grind (arith, site_made, in_from_contains)) e k;
    }

  pub asked_enough : (specs : Specs) → IsValid p specs c → IsValid p specs (condition p q)
  asked_enough specs valid args f a =
      shown_back p specs (condition p q) args f a c (sym root) is.impure.1 result_same (valid args (completed f) (set_assumed specs args f a))

  pub asked_enough_below : (specs : Specs) → IsValidBelowInSet p specs t set r → (args : DenotedList) (f : Valuation) → IsAssumed p specs (condition p q) args f → IsNoneAboveInSet specs t set r args f → IsShown p specs (condition p q) args f
  asked_enough_below specs valid args f a none =
      shown_back p specs (condition p q) args f a c (sym root) is.impure.1 result_same
      (valid args (completed f) (set_assumed specs args f a) (subst (IsNoneAboveInSet specs t set r args) (sym (nothing_completed specs args f a.held none.there)) none))
