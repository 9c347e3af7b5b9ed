-- Each result that a term whose rules make no impure call collects is as its spec says, where its rules' conditions are valid.
use Rattle.std.proofs.Common.{◌≡◌, ℕ, Bool, List, [], Some, is_some, All, Contains, sym, ap, subst, ◌∙◌, arith}
use Rattle.std.proofs.lemmas.Grind.{common_steps}
use Rattle.std.proofs.lemmas.List.Elements.{All-contains}
use Rattle.std.proofs.lemmas.List.Sorted.{All-permutation}
use Rattle.model.specs.rules.Values.{Value}
use Rattle.model.specs.rules.Meaning.{Content, Meaning}
use Rattle.model.specs.rules.RightSide.{Eval, result_content, outcome_of}
use Rattle.model.specs.rules.Program.{Program, is_partial, rules_of}
use Rattle.model.specs.rules.Picks.{Pick, SitedVars, matches_under, eval_under, right_side_under, picks, site_content, bag}
use Rattle.model.specs.rules.Typed.{TypedRule}
use Rattle.model.specs.trees.Collects.{HasCollectedResults}
use Rattle.model.specs.trees.Run.{run, world_of}
use Rattle.model.specs.visits.Demands.{demands_of, result_of}
use Rattle.model.specs.claims.Environments.{types_read}
use Rattle.model.specs.claims.Layers.{own_program}
use Rattle.model.proofs.Elements.{In, from_flat_map, in_from_contains, contains_from_in}
use Rattle.laws_sites.proofs.built.BuiltSets.{of_term}
use Rattle.laws_sites.proofs.built.WellBuiltSets.{all_from_in}
use Rattle.laws_trees.specs.MatchLaws.{IsTried}
use Rattle.laws_trees.proofs.Visits.{given, tried, visits_match_lem}
use Rattle.laws_trees.proofs.results.Held.{result_held}
use Rattle.laws_typing.specs.WellTypedPrograms.{IsWellTypedProgram}
use Rattle.laws_typing.proofs.WellTypedPrograms.{pure_iflets}
use Rattle.laws_typing.proofs.WellTypedRules.{elaborated_programs_are_well_typed_lem}
use Rattle.laws_specs.specs.Specs.{Specs, IsRequired, IsProvided}
use Rattle.laws_specs.specs.Meets.{Atoms, stands_for, content_as, IsResultAsSaid}
use Rattle.laws_specs.specs.ConditionLaws.{AreValid, IsCalled}
use Rattle.laws_specs.specs.CollectLaws.{MakesNoImpureCall, BagsAreAsSaid, CollectsAsSaid, LoweredTermsCollectAsSaid}
use Rattle.laws_specs.proofs.PlainOutcomes.{served}
use Rattle.laws_specs.proofs.Valuations.{Called, args_as, sites_as, told_site}
use Rattle.laws_specs.proofs.Assumptions.{assumed}
use Rattle.laws_specs.proofs.Answers.{result_is}

-- a result is one value, of a partial term Some of it
given_value : (partial : Bool) (ev : Eval) (c : Content) → In (outcome_of partial ev).results c → (v : Value) × (c ≡ result_content partial v)
given_value partial ev c i = grind (arith, common_steps)

module _ (p : Program) (specs : Specs) (t : ℕ) (d : Atoms) (m : Meaning) (args : List Value) (h : IsWellTypedProgram p) (quiet : MakesNoImpureCall p t) (valid : AreValid p specs t) (c : IsCalled p specs t d m args []) where
  -- the sites of a rule under a pick
  abbrev under : Pick → Called
  under k = record { program = p; specs = specs; atoms = d; meaning = m; args = args; pick = k; calls = []; denotes = c.denotes; meets = c.meets }

  of_match : (r : TypedRule) (k : Pick) (e : SitedVars) (x : Content) → Contains (rules_of p t) r → Contains (picks p m args r) k → matches_under p m k r args ≡ Some e → In (right_side_under p m k r e).results x → IsResultAsSaid p specs t d args x
  of_match r k e x listed pick matched i =
      let a : IsTried p t m args r k = record { typed = c.typed; served = c.serves; rule = listed; pick = pick } in
      let tr = tried p t m args r k h a in
      let root = (of_term p t r listed).1 in
      let none = quiet r listed in
      let held = result_held (given p m args k) r e tr.rule.formed (pure_iflets tr.rule) tr.typed h tr.answered none matched in
      let there : site_content m args k (result_of p r) ≡ Some x = grind (arith, common_steps) in
      let v = given_value (is_partial p r.root_term) (eval_under p m k r.rhs e []) x i in
      let holds = (visits_match_lem p t m args r k h a).matching.0 (ap is_some matched) in
      let all = assumed (under k) r (served p m args k (rules_of p t) r c.serves listed) tr.typed (subst (λ n. IsRequired specs n (args_as (under k))) (sym root) c.required) holds in
      let shown = valid r listed (args_as (under k)) (sites_as (under k)) all in (
        v.0,
        v.1 ∙ ap (λ n. result_content (is_partial p n) v.0) root,
        subst (λ n. IsProvided specs n (args_as (under k)) (stands_for d v.0)) root
            (shown.provides (content_as d (result_content (is_partial p r.root_term) v.0)) (stands_for d v.0) (λ u j. absurd (subst (λ l. In l u) none (in_from_contains (demands_of p r).impure u j)))
            (told_site (under k) (result_of p r) (result_content (is_partial p r.root_term) v.0) (there ∙ ap Some v.1)) (result_is d (is_partial p r.root_term) v.0)),
      )

  bag_as_said : All (IsResultAsSaid p specs t d args) (bag p m (rules_of p t) args)
  bag_as_said =
      all_from_in (IsResultAsSaid p specs t d args) (bag p m (rules_of p t) args) (λ x i. grind (arith, common_steps, from_flat_map, contains_from_in, of_match))

pub bags_are_as_said_lem : BagsAreAsSaid
bags_are_as_said_lem p specs t d m args h quiet valid c = bag_as_said p specs t d m args h quiet valid c

pub collects_as_said_lem : CollectsAsSaid
collects_as_said_lem p specs t d m args sites tree h multi results valid bags c apart =
    let quiet : MakesNoImpureCall p t = λ r i. (All-contains (HasCollectedResults p) (rules_of p t) r results i).no_calls in
    All-permutation (IsResultAsSaid p specs t d args) (bag p m (rules_of p t) args) (run tree (world_of p t sites m args)).results (bags multi results m args c.typed c.serves apart).same
    (bag_as_said p specs t d m args h quiet valid c)

pub lowered_terms_collect_as_said_lem : LoweredTermsCollectAsSaid
lowered_terms_collect_as_said_lem defs expand rules l specs d m args accepted lowered multi results valid c apart =
    let p = own_program defs rules in
    let h = elaborated_programs_are_well_typed_lem (types_read defs) defs expand rules accepted.read.elaborated in
    collects_as_said_lem p specs l.term d m args l.set.sites l.tree h multi results valid lowered.collects c apart
