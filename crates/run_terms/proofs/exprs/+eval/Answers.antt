use Rattle.std.proofs.Common.{◌≡◌, ◌∷◌, ◌∙◌, Some, option_map, refl, rules, sym, ap}
use Rattle.model.specs.rules.RightSide.{then_body, apply, eval_all, eval, eval_lets}
use Rattle.model.specs.rules.Program.{kind}
use Rattle.core_typed.specs.ExprViews.{expr_parts, expr_view, expr_views, let_parts, let_views}
use Rattle.core_typed.proofs.ExprRunForms.{seen_call, seen_let}
use Rattle.run_terms.specs.RunViews.{call_views}
use Rattle.run_terms.specs.ValueViews.{value_view}
use Rattle.model.specs.rules.Meaning.{total}
use Rattle.run_terms.specs.SourceViews.{of_terms, evaluated_all_view, evaluated_view, vars_view}
use Rattle.run_terms.proofs.VarSteps.{pushed}
use Rattle.run_terms.proofs.ExprSteps.{ahead, ahead_nothing, all_evaluated, defs_more, ended_there, ends_there, given_more, goes_on}
use Rattle.run_terms.proofs.exprs.+eval.Goals as goal

-- a term
pub eval-returns-in-GivesAll : goal.eval-returns-in-GivesAll
eval-returns-in-GivesAll g t c =
    let program = of_terms c.args.source.now.terms.now in
    let m = total (g.E.Externs.functions c.args.source.now.externs.now) in
    let p = c.in-Term in
    c.in_ok-applied-in-GivesAll.ensures
    ∙ ap (apply (kind program p.term.0) m p.term.0) (ap (λ r. evaluated_all_view r (call_views c.eval_all.new.calls.items)) (sym c.in-GivesAll.is) ∙ c.in_ok-values-in-Term.ensures)
    ∙ sym (ap (λ x. eval program m x (vars_view c.args.vars.now) (call_views c.args.calls.now.items)) (seen_call c.args.expr.now p.field-0 p.term p.args c.deref.result.now p.is c.deref.ensures.value))

pub eval-returns-in-Term : goal.eval-returns-in-Term
eval-returns-in-Term g t c =
    let program = of_terms c.args.source.now.terms.now in
    let m = total (g.E.Externs.functions c.args.source.now.externs.now) in
    let p = c.in-Term in
    ap (apply (kind program p.term.0) m p.term.0) (ap (λ r. evaluated_all_view r (call_views c.eval_all.new.calls.items)) (sym c.in-EndsAll.is) ∙ c.in_ok-values-in-Term.ensures)
    ∙ sym (ap (λ x. eval program m x (vars_view c.args.vars.now) (call_views c.args.calls.now.items)) (seen_call c.args.expr.now p.field-0 p.term p.args c.deref.result.now p.is c.deref.ensures.value))

-- a let
pub eval-returns-then-goes_on : goal.eval-returns-then-goes_on
eval-returns-then-goes_on g t c =
    let program = of_terms c.args.source.now.terms.now in
    let m = total (g.E.Externs.functions c.args.source.now.externs.now) in
    let p = c.in-Let in
    let ds = c.deref-in-Let.result.now in
    let body = c.deref-then-goes_on.result.now in
    let lets = c.eval_lets.new in
    c.in_ok-eval-in-Let.ensures
    ∙ ap (λ l. eval program m (expr_view body) (vars_view l) (call_views lets.calls.items)) c.deref-then-goes_on-2.ensures.value
    ∙ ap (λ r. then_body r (λ e calls. eval program m (expr_view body) e calls))
    (goes_on c.in_ok-goes_on-in-Let.goes_on (vars_view lets.vars.items) (call_views lets.calls.items) _ c.in_ok-goes_on-in-Let.ensures c.if-goes_on.true
    ∙ ap (λ e. eval_lets program m (let_parts (let_views ds)) e (call_views c.args.calls.now.items)) c.in_ok-inner-in-Let.ensures)
    ∙ sym (ap (λ x. eval program m x (vars_view c.args.vars.now) (call_views c.args.calls.now.items)) (seen_let c.args.expr.now p.ty p.bindings p.body ds body p.is c.deref-in-Let.ensures.value c.deref-then-goes_on.ensures))

pub eval-returns : goal.eval-returns
eval-returns g t c =
    let program = of_terms c.args.source.now.terms.now in
    let m = total (g.E.Externs.functions c.args.source.now.externs.now) in
    let p = c.in-Let in
    let ds = c.deref-in-Let.result.now in
    let lets = c.eval_lets.new in
    ap (λ r. then_body r (λ e calls. eval program m (expr_view p.body.value) e calls))
    (ends_there c.in_ok-goes_on-in-Let.goes_on (vars_view lets.vars.items) (call_views lets.calls.items) _ c.in_ok-goes_on-in-Let.ensures c.if-goes_on.false
    ∙ ap (λ e. eval_lets program m (let_parts (let_views ds)) e (call_views c.args.calls.now.items)) c.in_ok-inner-in-Let.ensures)
    ∙ sym (ap (λ x. eval program m x (vars_view c.args.vars.now) (call_views c.args.calls.now.items)) (seen_let c.args.expr.now p.ty p.bindings p.body ds p.body.value p.is c.deref-in-Let.ensures.value refl))

-- arguments
pub eval_all-loop-expr-init : goal.eval_all-loop-expr-init
eval_all-loop-expr-init g t c =
    let m = total (g.E.Externs.functions c.args.source.now.externs.now) in
    let whole = eval_all (of_terms c.args.source.now.terms.now) m (expr_parts (expr_views c.args.exprs.now)) (vars_view c.args.vars.now) (call_views c.args.calls.now.items) in
    ap (λ l. ahead (Some l) whole) c.new.ensures.items ∙ ahead_nothing whole

pub eval_all-loop-expr-preserved : goal.eval_all-loop-expr-preserved
eval_all-loop-expr-preserved g t c =
    let m = total (g.E.Externs.functions c.args.source.now.externs.now) in
    given_more (of_terms c.args.source.now.terms.now) m (vars_view c.args.vars.now) (option_map (λ v. v.items) c.loop-expr.given) (option_map (λ v. v.items) c.in_ok-more-in-Gives.more) c.in-Gives.value c.args.exprs.now c.loop-expr.expr-index
    c.expr-item.result (call_views c.loop-expr.calls.items) (call_views c.eval.new.calls.items) _ (search rules) c.expr-item.is
    (ap (λ r. evaluated_view r (call_views c.eval.new.calls.items)) (sym c.in-Gives.is) ∙ c.in_ok-value.ensures) c.in_ok-more-in-Gives.ensures c.loop-expr.invariant

pub eval_all-returns-in-Ends : goal.eval_all-returns-in-Ends
eval_all-returns-in-Ends g t c =
    let m = total (g.E.Externs.functions c.args.source.now.externs.now) in
    ended_there (of_terms c.args.source.now.terms.now) m (vars_view c.args.vars.now) (option_map (λ v. v.items) c.loop-expr.given) c.args.exprs.now c.loop-expr.expr-index c.expr-item.result
    (call_views c.loop-expr.calls.items) (call_views c.eval.new.calls.items) _ (search rules) c.expr-item.is
    (ap (λ r. evaluated_view r (call_views c.eval.new.calls.items)) (sym c.in-Ends.is) ∙ c.in_ok-value.ensures) c.loop-expr.invariant

pub eval_all-returns : goal.eval_all-returns
eval_all-returns g t c =
    let m = total (g.E.Externs.functions c.args.source.now.externs.now) in
    all_evaluated (of_terms c.args.source.now.terms.now) m (vars_view c.args.vars.now) c.loop-expr.given c.args.exprs.now c.loop-expr.expr-index (call_views c.loop-expr.calls.items) _ (search rules) c.loop-expr.invariant

-- a let's definitions
pub eval_lets-loop-binding-preserved : goal.eval_lets-loop-binding-preserved
eval_lets-loop-binding-preserved g t c =
    let program = of_terms c.args.source.now.terms.now in
    let m = total (g.E.Externs.functions c.args.source.now.externs.now) in
    let d = c.binding-item.result in
    defs_more program m c.args.bindings.now d c.loop-binding.binding-index (vars_view c.loop-binding.vars.items) (vars_view c.push.new.self.items) (option_map value_view c.in-Gives.value) (call_views c.loop-binding.calls.items)
    (call_views c.eval.new.calls.items) _ (search rules) c.binding-item.is
    (ap (λ r. evaluated_view r (call_views c.eval.new.calls.items)) (sym c.in-Gives.is) ∙ c.in_ok-value.ensures
    ∙ ap (λ x. eval program m (expr_view x) (vars_view c.deref-in-loop-binding.result.now) (call_views c.loop-binding.calls.items)) c.deref.ensures
    ∙ ap (λ l. eval program m (expr_view d.2.value) (vars_view l) (call_views c.loop-binding.calls.items)) c.deref-in-loop-binding.ensures.value)
    (pushed c.loop-binding.vars.items c.push.new.self.items d.0 c.in-Gives.value c.in_ok-push-in-Gives.ensures.items) c.loop-binding.invariant
