use Rattle.std.proofs.Common.{◌≡◌, ◌∷◌, option_map, rules, refl, sym, ap, ◌∙◌}
use Rattle.model.specs.rules.Outcome.{then_option}
use Rattle.model.specs.rules.Program.{kind}
use Rattle.model.specs.rules.Matching.{pure_lets, pure_term, pure_value}
use Rattle.core_typed.specs.ExprViews.{expr_view, let_parts, let_views}
use Rattle.core_typed.proofs.ExprRunForms.{seen_call, seen_let}
use Rattle.run_terms.specs.ValueViews.{value_views}
use Rattle.run_terms.proofs.EnvSteps.{after_nil}
use Rattle.model.specs.rules.Meaning.{total}
use Rattle.run_terms.specs.SourceViews.{of_terms, vars_view}
use Rattle.run_terms.proofs.VarSteps.{pushed}
use Rattle.run_terms.proofs.ExprSteps.{lets_done, lets_more, pure_all, pure_missing, pure_more}
use Rattle.run_terms.proofs.exprs.+pure.Goals as goal

pub pure_values-loop-expr-init : goal.pure_values-loop-expr-init
pure_values-loop-expr-init g t c = rw (c.new-out.ensures.items, after_nil) refl

pub pure_values-returns-in-None : goal.pure_values-returns-in-None
pure_values-returns-in-None g t c =
    let m = total (g.E.Externs.functions c.args.source.now.externs.now) in
    pure_missing (of_terms c.args.source.now.terms.now) m (vars_view c.args.vars.now) c.loop-expr.out.items c.args.exprs.now c.loop-expr.expr-index c.expr-item.result (search rules) c.expr-item.is (search rules) c.loop-expr.invariant

pub pure_values-loop-expr-preserved : goal.pure_values-loop-expr-preserved
pure_values-loop-expr-preserved g t c =
    let m = total (g.E.Externs.functions c.args.source.now.externs.now) in
    pure_more (of_terms c.args.source.now.terms.now) m (vars_view c.args.vars.now) c.loop-expr.out.items c.push.new.self.items c.in-Some.value c.args.exprs.now c.loop-expr.expr-index c.expr-item.result (search rules) c.expr-item.is (search rules)
    c.in_ok-push-in-Some.ensures.items c.loop-expr.invariant

pub pure_values-returns : goal.pure_values-returns
pure_values-returns g t c =
    let m = total (g.E.Externs.functions c.args.source.now.externs.now) in
    pure_all (of_terms c.args.source.now.terms.now) m (vars_view c.args.vars.now) c.loop-expr.out.items c.args.exprs.now c.loop-expr.expr-index (search rules) c.loop-expr.invariant

pub pure_lets-loop-binding-preserved : goal.pure_lets-loop-binding-preserved
pure_lets-loop-binding-preserved g t c =
    let m = total (g.E.Externs.functions c.args.source.now.externs.now) in
    lets_more (of_terms c.args.source.now.terms.now) m c.args.bindings.now c.binding-item.result c.loop-binding.binding-index (vars_view c.loop-binding.vars.items) (vars_view c.push.new.self.items) _ (search rules) c.binding-item.is
    (pushed c.loop-binding.vars.items c.push.new.self.items c.binding-item.result.0 c.in_ok-value.value c.in_ok-push.ensures.items ∙ ap (λ o. (c.binding-item.result.0.0, o) ∷ vars_view c.loop-binding.vars.items)
    (c.in_ok-value.ensures ∙ ap (λ x. pure_value (of_terms c.args.source.now.terms.now) m (expr_view x) (vars_view c.deref-in-loop-binding.result.now)) c.deref.ensures
    ∙ ap (λ l. pure_value (of_terms c.args.source.now.terms.now) m (expr_view c.binding-item.result.2.value) (vars_view l)) c.deref-in-loop-binding.ensures.value)) c.loop-binding.invariant

pub pure_lets-returns : goal.pure_lets-returns
pure_lets-returns g t c =
    let m = total (g.E.Externs.functions c.args.source.now.externs.now) in
    lets_done (of_terms c.args.source.now.terms.now) m c.args.bindings.now c.loop-binding.binding-index (vars_view c.loop-binding.vars.items) _ (search rules) c.loop-binding.invariant

pub pure_value-returns-in_ok-pure_term-in-Some : goal.pure_value-returns-in_ok-pure_term-in-Some
pure_value-returns-in_ok-pure_term-in-Some g t c =
    let program = of_terms c.args.source.now.terms.now in
    let m = total (g.E.Externs.functions c.args.source.now.externs.now) in
    let p = c.in-Term in
    c.in_ok-pure_term-in-Some.ensures
    ∙ ap (λ o. then_option o (λ vs. pure_term (kind program p.term.0) m p.term.0 vs)) (ap (option_map (λ v. value_views v.items)) (sym c.in-Some.is) ∙ c.in_ok-values-in-Term.ensures)
    ∙ sym (ap (λ x. pure_value program m x (vars_view c.args.vars.now)) (seen_call c.args.expr.now p.field-0 p.term p.args c.deref.result.now p.is c.deref.ensures.value))

pub pure_value-returns-in-None : goal.pure_value-returns-in-None
pure_value-returns-in-None g t c =
    let program = of_terms c.args.source.now.terms.now in
    let m = total (g.E.Externs.functions c.args.source.now.externs.now) in
    let p = c.in-Term in
    ap (λ o. then_option o (λ vs. pure_term (kind program p.term.0) m p.term.0 vs)) (ap (option_map (λ v. value_views v.items)) (sym c.in-None.is) ∙ c.in_ok-values-in-Term.ensures)
    ∙ sym (ap (λ x. pure_value program m x (vars_view c.args.vars.now)) (seen_call c.args.expr.now p.field-0 p.term p.args c.deref.result.now p.is c.deref.ensures.value))

pub pure_value-returns-in_ok-pure_value-in-Let : goal.pure_value-returns-in_ok-pure_value-in-Let
pure_value-returns-in_ok-pure_value-in-Let g t c =
    let program = of_terms c.args.source.now.terms.now in
    let m = total (g.E.Externs.functions c.args.source.now.externs.now) in
    let p = c.in-Let in
    let ds = c.deref-in-Let.result.now in
    let body = c.deref-in-Let-2.result.now in
    c.in_ok-pure_value-in-Let.ensures
    ∙ ap (λ l. pure_value program m (expr_view body) (vars_view l)) c.deref-in-Let-3.ensures.value
    ∙ ap (pure_value program m (expr_view body)) c.in_ok-pure_lets-in-Let.ensures
    ∙ ap (λ e. pure_value program m (expr_view body) (pure_lets program m (let_parts (let_views ds)) e)) c.in_ok-inner-in-Let.ensures
    ∙ sym (ap (λ x. pure_value program m x (vars_view c.args.vars.now)) (seen_let c.args.expr.now p.ty p.bindings p.body ds body p.is c.deref-in-Let.ensures.value c.deref-in-Let-2.ensures))
