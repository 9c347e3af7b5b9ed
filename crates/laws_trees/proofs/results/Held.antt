-- The result of a rule that makes no impure call is what its site holds.
use Rattle.std.proofs.Common.{◌≡◌, ℕ, Bool, true, [], map, Option, Some, None, refl, sym, ap, ◌∙◌, arith}
use Rattle.std.proofs.lemmas.Grind.{common_steps}
use Rattle.model.specs.rules.Values.{Value, args_well_typed}
use Rattle.model.specs.rules.Meaning.{Content}
use Rattle.model.specs.rules.Outcome.{then_option}
use Rattle.model.specs.rules.Program.{arg_types, is_partial}
use Rattle.model.specs.rules.RightSide.{gives, outcome_of}
use Rattle.model.specs.rules.Typed.{TypedRule}
use Rattle.model.specs.rules.Picks.{SitedVars, matches_under, value_under, right_side_under}
use Rattle.model.specs.trees.Run.{as_value, from_value}
use Rattle.model.specs.trees.Collects.{as_list}
use Rattle.model.specs.sites.Sites.{SiteTerm, unfold_site}
use Rattle.model.specs.visits.Demands.{demands_of, Valued, visit_expr, visit_rule, finished, result_of}
use Rattle.model.specs.sites.DemandedGates.{ArePureIfLets}
use Rattle.model.specs.sites.Overlap.{built_rules}
use Rattle.model.specs.lists.Formed.{is_formed_rule}
use Rattle.model.specs.lists.Setting.{expr_type}
use Rattle.model.proofs.Elements.{contains_from_in, in_slice}
use Rattle.laws_trees.specs.MatchLaws.{IsTried, BuiltSetsHoldResults}
use Rattle.laws_sites.proofs.LoopedCalls.{pure_right_side}
use Rattle.laws_sites.proofs.built.BuiltGates.{one_rule}
use Rattle.laws_trees.proofs.BuiltMatches.{built_listed}
use Rattle.laws_trees.proofs.Contents.{Given, content_of, IsAnswered, is_value}
use Rattle.laws_trees.proofs.Demanded.{bound_vars}
use Rattle.laws_trees.proofs.Exprs.{expr_valued}
use Rattle.laws_sites.proofs.GrowingVisits.{finished_adds}
use Rattle.laws_trees.proofs.Rules.{rule_parts, before_result, rule_past, unwrapped_present}
use Rattle.laws_typing.specs.WellTypedPrograms.{IsWellTypedProgram}
use Rattle.laws_typing.proofs.WellTypedPrograms.{pure_iflets}
use Rattle.laws_trees.proofs.Variables.{IsValued}
use Rattle.laws_trees.proofs.Visits.{given, tried}
use Rattle.laws_trees.proofs.results.PureRuns.{pure_runs}

-- 1. what has a value holds it, and what has none holds nothing
pub valued_holds : (g : Given) (own s : SiteTerm) (o : Option Value) (ty : ℕ) → IsValued g own o ty s → content_of g s ≡ from_value o
valued_holds g own s o ty h = by (content_of g s) refl
  where
    by : (c : Option Content) → content_of g s ≡ c → content_of g s ≡ from_value o
    by None e = e ∙ ap from_value (sym (h.value ∙ ap (λ x. then_option x as_value) e))
    by (Some c) e =
        let v = h.reached (unwrapped_present g s c e) in
        is_value (content_of g s) v.0 (sym h.value ∙ v.1) ∙ ap from_value (sym v.1)

-- in a partial term, Some of it
finished_holds : (g : Given) (partial : Bool) (a : Valued) (o : Option Value) → content_of g a.site ≡ from_value o → (outcome_of partial (gives o [])).results ≡ as_list (content_of g (finished partial a).site)
finished_holds g partial a o e = grind (arith, common_steps)

-- 2. rules
pub result_held : (g : Given) (r : TypedRule) (e : SitedVars) → is_formed_rule g.program r ≡ true → ArePureIfLets g.program r.iflets → args_well_typed g.program.types (arg_types g.program r.root_term) g.args ≡ true
    → IsWellTypedProgram g.program → IsAnswered g (demands_of g.program r) → (demands_of g.program r).impure ≡ [] → matches_under g.program g.meaning g.pick r g.args ≡ Some e
    → (right_side_under g.program g.meaning g.pick r e).results ≡ as_list (content_of g (result_of g.program r))
result_held g r e f y t well h quiet q =
    let p = g.program in
    let a = rule_parts p r f in
    let w = before_result p r in
    let x = visit_expr p r.rhs w in
    let pure = pure_right_side p r quiet in
    let bound = (rule_past g r a y t well h).agree e q in
    let v = expr_valued g (visit_rule p r).visit h well r.rhs w a.vars e a.right pure (bound_vars g a.vars e w.vars bound) (finished_adds (is_partial p r.root_term) x).grown in
    ap (λ o. (outcome_of (is_partial p r.root_term) o).results) (pure_runs p g.meaning g.pick r.rhs a.vars e a.right pure)
    ∙ finished_holds g (is_partial p r.root_term) x (value_under p g.meaning g.pick r.rhs e) (valued_holds g _ x.site (value_under p g.meaning g.pick r.rhs e) (expr_type r.rhs) v)

-- 3. rules of built sets
pub results_are_held_lem : BuiltSetsHoldResults
results_are_held_lem p t set h built m args typed served apart b r k vars one quiet pick matched =
    let q = one_rule p t set b r built one in
    let listed = built_listed p t b (contains_from_in (built_rules p t) b (in_slice (built_rules p t) one.place b one.typed)) in
    let a : IsTried p t m args b.rule k = record { typed = typed; served = served; rule = listed; pick = pick } in
    let c = tried p t m args b.rule k h a in
    let none : (demands_of p b.rule).impure ≡ [] = sym q.impure.1 ∙ ap (λ l. map (unfold_site set.sites) l) quiet in
    result_held (given p m args k) b.rule vars c.rule.formed (pure_iflets c.rule) c.typed h c.answered none matched ∙ ap (λ s. as_list (content_of (given p m args k) s)) (sym q.result.1)
