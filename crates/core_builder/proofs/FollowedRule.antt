-- The builder's visit of a rule follows the visit of sites, and so does the result that it makes at the end.
use Rattle.std.proofs.Common.{◌≡◌, ◌<◌, ℕ, Bool, true, false, List, [], ◌∷◌, length, sym, subst, arith}
use Rattle.std.specs.Prelude.{Result, Ok, IfErr, IfOk}
use Rattle.std.proofs.lemmas.Grind.{common_steps}
use Rattle.core_syntax.specs.declared.visit_fault.VisitFault.{VisitFault}
use Rattle.model.specs.lists.Formed.{is_formed_rule}
use Rattle.model.specs.lists.Tables.{TermEntry}
use Rattle.model.specs.rules.Program.{Program, is_partial}
use Rattle.model.specs.rules.Typed.{TypedRule}
use Rattle.model.specs.sites.Sites.{SiteTerm, some_made, unfold_site}
use Rattle.model.specs.visits.Demands.{Valued, Visit, finished, valued, value_of_rule, visit_rule, visit_start}
use Rattle.model.specs.visits.RuleRuns.{RuleRun}
use Rattle.laws_sites.proofs.Continued.{continues_making, continues_now}
use Rattle.laws_sites.specs.VisitLaws.{Continues}
use Rattle.laws_sites.proofs.FollowedRules.{visits_follow_lem}
use Rattle.laws_sites.specs.Followers.{Gives}
use Rattle.core_typed.specs.VisitorSteps.{expr_steps, no_memory, pattern_steps, rule_steps}
use Rattle.core_builder.specs.contracts.builder_patterns.RuleSetBuilderPatternVisitor.TheImpl as Patterns
use Rattle.core_builder.specs.contracts.builder_exprs.RuleSetBuilderExprVisitor.TheImpl as Exprs
use Rattle.core_builder.specs.contracts.builder_rules.RuleSetBuilderRuleVisitor.TheImpl as Rules
use Rattle.core_builder.specs.declared.ruleset_builder.RuleSetBuilder.{RuleSetBuilder}
use Rattle.core_builder.specs.VisitedSites.{EndsAtLimit, EndsBefore, EndsVisit, BuilderStandsAt, ValuesTo, built_sites}
use Rattle.core_builder.proofs.BuilderFields.{goes_further}
use Rattle.core_builder.proofs.BuilderFollows.{builder_follows, follower, went}
use Rattle.core_builder.proofs.EndedRules.{visit_ends}
use Rattle.core_builder.proofs.EndedSteps.{ends_further, ends_visit}

-- what is finished goes on from its value
finish_continues : (partial : Bool) (a : Valued) → Continues a.visit (finished partial a).visit
finish_continues false a = continues_now a.visit
finish_continues true a = continues_making (some_made a.site ∷ []) a.visit a.visit (continues_now a.visit)

module _ (p : Program) (before : List SiteTerm) (r : TypedRule) where
  -- the builder's visit
  pub rule_seen : (s t : RuleSetBuilder) {terms : List TermEntry} → p.terms ≡ terms → is_formed_rule p r ≡ true → BuilderStandsAt before s visit_start
      → (a : Result ℕ VisitFault) → RuleRun no_memory (rule_steps Rules.ghosts) (pattern_steps Patterns.ghosts) (expr_steps Exprs.ghosts) terms r s a t → Gives (follower before) s a t (value_of_rule p r)
  rule_seen s t same formed h a run =
      visits_follow_lem VisitFault RuleSetBuilder ℕ (follower before) no_memory (rule_steps Rules.ghosts) (pattern_steps Patterns.ghosts) (expr_steps Exprs.ghosts) (builder_follows before) p r s a t formed h
      (subst (λ ts. RuleRun no_memory (rule_steps Rules.ghosts) (pattern_steps Patterns.ghosts) (expr_steps Exprs.ghosts) ts r s a t) (sym same) run)

  pub rule_ends : (t : RuleSetBuilder) (e : VisitFault) → EndsVisit before t (value_of_rule p r).visit e → EndsAtLimit p before r t e
  rule_ends t e h =
      let k = finish_continues (is_partial p r.root_term) (value_of_rule p r) in
      visit_ends p before r t e (ends_further before (value_of_rule p r).visit (visit_rule p r).visit k t e h)

  -- its result, in a partial term one that is there
  module _ (old mid new : RuleSetBuilder) (value : ℕ) where
    pub rule_finished : (partial : Bool) (result : Result ℕ VisitFault) → partial ≡ is_partial p r.root_term → Gives (follower before) old (Ok value) mid (value_of_rule p r)
        → ((w : Visit) → BuilderStandsAt before mid w → value < length (built_sites mid) → IfOk result (ValuesTo before mid new (finished partial (valued (unfold_site (built_sites mid) value) w))))
        → IfOk result (ValuesTo before old new (visit_rule p r))
    rule_finished partial result is v finish = grind (arith, common_steps, goes_further before old mid new, went before old mid)

    pub rule_full : (partial : Bool) (result : Result ℕ VisitFault) → partial ≡ is_partial p r.root_term → Gives (follower before) old (Ok value) mid (value_of_rule p r)
        → ((w : Visit) → BuilderStandsAt before mid w → value < length (built_sites mid) → IfErr result (EndsBefore before new (finished partial (valued (unfold_site (built_sites mid) value) w)).visit))
        → IfErr result (EndsAtLimit p before r new)
    rule_full partial result is v finish = grind (arith, common_steps, visit_ends p before r new, ends_visit before new, continues_now)
