use Rattle.std.proofs.Common.{ℕ, ◌≡◌, List, Result, Ok, Err, sym, ap, ◌∙◌, length, [], map, subst}
use Rattle.core_types.specs.declared.ids.TypeId.{TypeId}
use Rattle.model.specs.lists.Tables.{TermEntry}
use Rattle.core_typed.specs.declared.patterns.Pattern.{Pattern}
use Rattle.core_typed.specs.declared.rules.IfLet.{IfLet}
use Rattle.core_syntax.specs.declared.visit_fault.VisitFault.{VisitFault}
use Rattle.model.specs.visits.Visitors.{PatternSteps, ExprSteps, RuleSteps}
use Rattle.model.specs.visits.RuleRuns.{ArgsRun, IfLetsRun}
use Rattle.std.proofs.lemmas.List.{length-map}
use Rattle.core_terms.specs.TermViews.{term_view}
use Rattle.core_typed.specs.PatternViews.{pattern_view, pattern_views}
use Rattle.core_typed.specs.RuleViews.{iflet_view, rule_view}
use Rattle.model.specs.lists.Visitable.{bound_after_list, bound_after_iflets}
use Rattle.core_typed.specs.VisitAnswers.{type_numbers}
use Rattle.model.specs.visits.Runs.{BoundIds, bound_vars}
use Rattle.core_typed.specs.VisitorSteps.{expr_steps, no_memory, pattern_steps, rule_steps}
use Rattle.core_typed.proofs.BoundVars.{expr_same}
use Rattle.core_typed.proofs.PatternRunSteps.{err_is}
use Rattle.core_typed.proofs.RuleRunSteps.{parts_of_rule, known_root, counts_root, args_bind, iflets_bind, iflets_same, iflets_after_same, runs_rule, stops_iflets}
use Rattle.core_typed.proofs.rules.Rule.visit.Goals as goal

pub used_term-requires : goal.used_term-requires
used_term-requires g c = known_root (g.E.UsedTerms.term_entries c.args.termenv.now) (rule_view c.args.self.now) c.requires.visitable

pub visit_args-requires : goal.visit_args-requires
visit_args-requires g c =
    let terms = g.E.UsedTerms.term_entries c.args.termenv.now in
    let parts = parts_of_rule terms (rule_view c.args.self.now) c.requires.visitable in
    record {
      visitable = rw c.deref.ensures.value parts.args;
      count = ap length c.as_slice-tys.ensures.value
          ∙ sym (length-map c.used_term.result.now.arg_tys.items (λ (ty : TypeId). ty.0))
          ∙ counts_root terms (rule_view c.args.self.now) (term_view c.used_term.result.now) c.requires.visitable c.used_term.ensures
          ∙ length-map c.args.self.now.args.items pattern_view
          ∙ sym (ap length c.deref.ensures.value);
    }

-- the arguments' run, of the rule itself
args_ran : {S L M X P E : Type 0} (v : RuleSteps VisitFault S L M X P E) (p : PatternSteps VisitFault L P) (q : ExprSteps VisitFault M E) (terms : List TermEntry)
    (qs ps : List Pattern) (tys : List ℕ) (s : S) (r : Result (BoundIds P) VisitFault) (t : S) →
    qs ≡ ps → ArgsRun no_memory v p q terms (pattern_views qs) tys 0 [] s r t → ArgsRun no_memory v p q terms (pattern_views ps) tys 0 [] s r t
args_ran v p q terms qs ps tys s r t e h = subst (λ zs. ArgsRun no_memory v p q terms (pattern_views zs) tys 0 [] s r t) e h

iflets_ran : {S L M X P E : Type 0} (v : RuleSteps VisitFault S L M X P E) (p : PatternSteps VisitFault L P) (q : ExprSteps VisitFault M E) (terms : List TermEntry)
    (gs fs : List IfLet) (vs : BoundIds P) (s : S) (r : Result (BoundIds P) VisitFault) (t : S) →
    gs ≡ fs → IfLetsRun no_memory v p q terms (map iflet_view gs) vs s r t → IfLetsRun no_memory v p q terms (map iflet_view fs) vs s r t
iflets_ran v p q terms gs fs vs s r t e h = subst (λ zs. IfLetsRun no_memory v p q terms (map iflet_view zs) vs s r t) e h

pub visit_iflets-requires : goal.visit_iflets-requires
visit_iflets-requires g c =
    let v = rule_steps g.V.RuleVisitor in
    let p = pattern_steps g.V.PatternVisitor.PatternVisitor in
    let q = expr_steps g.V.ExprVisitor.ExprVisitor in
    let terms = g.E.UsedTerms.term_entries c.args.termenv.now in
    let rule = rule_view c.args.self.now in
    rw c.deref-2.ensures.value
    (iflets_same terms rule.iflets (bound_vars c.in_ok-vars.vars) (bound_after_list rule.args [])
    (args_bind v p q terms rule.args (type_numbers c.as_slice-tys.result.now) 0 [] c.args.visitor.now c.in_ok-vars.vars c.visit_args.new.visitor
    (args_ran v p q terms c.deref.result.now c.args.self.now.args.items (type_numbers c.as_slice-tys.result.now) c.args.visitor.now (Ok c.in_ok-vars.vars) c.visit_args.new.visitor c.deref.ensures.value c.in_ok-vars.ensures))
    ∙ (parts_of_rule terms rule c.requires.visitable).iflets)

pub visit_value-requires : goal.visit_value-requires
visit_value-requires g c =
    let v = rule_steps g.V.RuleVisitor in
    let p = pattern_steps g.V.PatternVisitor.PatternVisitor in
    let q = expr_steps g.V.ExprVisitor.ExprVisitor in
    let terms = g.E.UsedTerms.term_entries c.args.termenv.now in
    let rule = rule_view c.args.self.now in
    let first = args_bind v p q terms rule.args (type_numbers c.as_slice-tys.result.now) 0 [] c.args.visitor.now c.in_ok-vars.vars c.visit_args.new.visitor
    (args_ran v p q terms c.deref.result.now c.args.self.now.args.items (type_numbers c.as_slice-tys.result.now) c.args.visitor.now (Ok c.in_ok-vars.vars) c.visit_args.new.visitor c.deref.ensures.value c.in_ok-vars.ensures) in
    let second = iflets_bind v p q terms rule.iflets c.in_ok-vars.vars c.visit_args.new.visitor c.in_ok-bound.bound c.visit_iflets.new.visitor
    (iflets_ran v p q terms c.deref-2.result.now c.args.self.now.iflets.items
    c.in_ok-vars.vars c.visit_args.new.visitor (Ok c.in_ok-bound.bound) c.visit_iflets.new.visitor c.deref-2.ensures.value c.in_ok-bound.ensures) in
    expr_same terms rule.rhs (bound_vars c.in_ok-bound.bound) (bound_after_iflets rule.iflets (bound_after_list rule.args []))
    (λ y. second y ∙ iflets_after_same rule.iflets (bound_vars c.in_ok-vars.vars) (bound_after_list rule.args []) first y)
    ∙ (parts_of_rule terms rule c.requires.visitable).rhs

pub returns-in_err-bound : goal.returns-in_err-bound
returns-in_err-bound g c =
    let v = rule_steps g.V.RuleVisitor in
    let p = pattern_steps g.V.PatternVisitor.PatternVisitor in
    let q = expr_steps g.V.ExprVisitor.ExprVisitor in
    let terms = g.E.UsedTerms.term_entries c.args.termenv.now in
    record {
      run = rw (err_is c.from_residual-in_err-bound.result c.in_err-bound.field-0.0 c.from_residual-in_err-bound.ensures)
          (stops_iflets v p q terms (rule_view c.args.self.now) (term_view c.used_term.result.now) c.as_slice-tys.result.now c.in_ok-vars.vars
          c.args.visitor.now c.visit_args.new.visitor c.in_err-bound.field-0.0 c.visit_iflets.new.visitor c.used_term.ensures (ap type_numbers (sym c.as_slice-tys.ensures.value))
          (args_ran v p q terms c.deref.result.now c.args.self.now.args.items (type_numbers c.as_slice-tys.result.now) c.args.visitor.now (Ok c.in_ok-vars.vars) c.visit_args.new.visitor c.deref.ensures.value c.in_ok-vars.ensures)
          (iflets_ran v p q terms c.deref-2.result.now c.args.self.now.iflets.items
          c.in_ok-vars.vars c.visit_args.new.visitor (Err c.in_err-bound.field-0.0) c.visit_iflets.new.visitor c.deref-2.ensures.value c.in_err-bound.ensures));
    }

pub returns : goal.returns
returns g c =
    let v = rule_steps g.V.RuleVisitor in
    let p = pattern_steps g.V.PatternVisitor.PatternVisitor in
    let q = expr_steps g.V.ExprVisitor.ExprVisitor in
    let terms = g.E.UsedTerms.term_entries c.args.termenv.now in
    record {
      run = runs_rule v p q terms (rule_view c.args.self.now) (term_view c.used_term.result.now) c.as_slice-tys.result.now c.in_ok-vars.vars c.in_ok-bound.bound
          c.args.visitor.now c.visit_args.new.visitor c.visit_iflets.new.visitor _ _ c.used_term.ensures (ap type_numbers (sym c.as_slice-tys.ensures.value))
          (args_ran v p q terms c.deref.result.now c.args.self.now.args.items (type_numbers c.as_slice-tys.result.now) c.args.visitor.now (Ok c.in_ok-vars.vars) c.visit_args.new.visitor c.deref.ensures.value c.in_ok-vars.ensures)
          (iflets_ran v p q terms c.deref-2.result.now c.args.self.now.iflets.items
          c.in_ok-vars.vars c.visit_args.new.visitor (Ok c.in_ok-bound.bound) c.visit_iflets.new.visitor c.deref-2.ensures.value c.in_ok-bound.ensures)
          c.visit_value.ensures;
    }
