use Rattle.std.proofs.Common.{Decides, drop, subst}
use Rattle.std.proofs.lemmas.List.{drop_all}
use Rattle.model.specs.rules.CalledTerms.{CallsAlone, CallAlone, LetsCallAlone}
use Rattle.core_terms.specs.TermViews.{term_views}
use Rattle.core_typed.specs.ExprViews.{expr_view, expr_views, expr_parts, let_parts, let_views}
use Rattle.core_typed.proofs.ExprBridges.{row_exprs-hidden, row_lets-hidden}
use Rattle.core_rules.specs.Constructors.{IsMadeTerm}
use Rattle.core_rules.proofs.Deciding.{decided_next, decided_wrong, decided_last, decided_not, decided_so, refuted, both_decided, first_refuted}
use Rattle.core_rules.proofs.term_env.TermEnv.+calls_made.Goals as goal

pub all_call_made-loop-expr-preserved : goal.all_call_made-loop-expr-preserved
all_call_made-loop-expr-preserved t c =
    decided_next (λ es. CallAlone (IsMadeTerm (term_views c.args.self.now.terms.items)) (expr_parts (expr_views es))) (λ x. CallsAlone (IsMadeTerm (term_views c.args.self.now.terms.items)) (expr_view x)) tt (λ x xs a b. (a, b)) (λ x xs h. h.0) (λ x xs h. h.1) c.args.exprs.now c.loop-expr.expr-index c.expr-item.result c.loop-expr-test.true c.expr-item.is (c.calls_made.ensures.0 c.if-not-calls_made.false) c.loop-expr.invariant

pub all_call_made-returns-then-not-calls_made : goal.all_call_made-returns-then-not-calls_made
all_call_made-returns-then-not-calls_made t c =
    decided_not (decided_wrong (λ es. CallAlone (IsMadeTerm (term_views c.args.self.now.terms.items)) (expr_parts (expr_views es))) (λ x. CallsAlone (IsMadeTerm (term_views c.args.self.now.terms.items)) (expr_view x)) tt (λ x xs a b. (a, b)) (λ x xs h. h.0) (λ x xs h. h.1) c.args.exprs.now c.loop-expr.expr-index c.expr-item.result c.loop-expr-test.true c.expr-item.is (refuted c.calls_made.result _ c.calls_made.ensures c.if-not-calls_made.true) c.loop-expr.invariant)

pub all_call_made-returns : goal.all_call_made-returns
all_call_made-returns t c =
    decided_so (decided_last (λ es. CallAlone (IsMadeTerm (term_views c.args.self.now.terms.items)) (expr_parts (expr_views es))) (λ x. CallsAlone (IsMadeTerm (term_views c.args.self.now.terms.items)) (expr_view x)) tt (λ x xs a b. (a, b)) (λ x xs h. h.0) (λ x xs h. h.1) c.args.exprs.now (drop c.loop-expr.expr-index c.args.exprs.now) (drop_all c.loop-expr.expr-index c.args.exprs.now c.loop-expr-test.false) c.loop-expr.invariant)

pub lets_call_made-loop-binding-preserved : goal.lets_call_made-loop-binding-preserved
lets_call_made-loop-binding-preserved t c =
    decided_next (λ ds. LetsCallAlone (IsMadeTerm (term_views c.args.self.now.terms.items)) (let_parts (let_views ds))) (λ d. CallsAlone (IsMadeTerm (term_views c.args.self.now.terms.items)) (expr_view d.2.value)) tt (λ x xs a b. (a, b)) (λ x xs h. h.0) (λ x xs h. h.1) c.args.bindings.now c.loop-binding.binding-index c.binding-item.result c.loop-binding-test.true c.binding-item.is ((subst (λ x. Decides c.calls_made.result (CallsAlone (IsMadeTerm (term_views c.args.self.now.terms.items)) (expr_view x))) c.deref.ensures c.calls_made.ensures).0 c.if-not-calls_made.false) c.loop-binding.invariant

pub lets_call_made-returns-then-not-calls_made : goal.lets_call_made-returns-then-not-calls_made
lets_call_made-returns-then-not-calls_made t c =
    decided_not (decided_wrong (λ ds. LetsCallAlone (IsMadeTerm (term_views c.args.self.now.terms.items)) (let_parts (let_views ds))) (λ d. CallsAlone (IsMadeTerm (term_views c.args.self.now.terms.items)) (expr_view d.2.value)) tt (λ x xs a b. (a, b)) (λ x xs h. h.0) (λ x xs h. h.1) c.args.bindings.now c.loop-binding.binding-index c.binding-item.result c.loop-binding-test.true c.binding-item.is (refuted c.calls_made.result _ (subst (λ x. Decides c.calls_made.result (CallsAlone (IsMadeTerm (term_views c.args.self.now.terms.items)) (expr_view x))) c.deref.ensures c.calls_made.ensures) c.if-not-calls_made.true) c.loop-binding.invariant)

pub lets_call_made-returns : goal.lets_call_made-returns
lets_call_made-returns t c =
    decided_so (decided_last (λ ds. LetsCallAlone (IsMadeTerm (term_views c.args.self.now.terms.items)) (let_parts (let_views ds))) (λ d. CallsAlone (IsMadeTerm (term_views c.args.self.now.terms.items)) (expr_view d.2.value)) tt (λ x xs a b. (a, b)) (λ x xs h. h.0) (λ x xs h. h.1) c.args.bindings.now (drop c.loop-binding.binding-index c.args.bindings.now) (drop_all c.loop-binding.binding-index c.args.bindings.now c.loop-binding-test.false) c.loop-binding.invariant)

pub calls_made-returns-then-is_made : goal.calls_made-returns-then-is_made
calls_made-returns-then-is_made t c =
    let rest = subst (λ es. Decides c.all_call_made.result (CallAlone (IsMadeTerm (term_views c.args.self.now.terms.items)) (expr_parts (expr_views es)))) c.deref.ensures.value c.all_call_made.ensures in
    rw (c.in-Term.is, row_exprs-hidden c.in-Term.args) (both_decided c.is_made.result c.all_call_made.result _ _ c.if-is_made.true c.is_made.ensures rest)

pub calls_made-returns-then-lets_call_made : goal.calls_made-returns-then-lets_call_made
calls_made-returns-then-lets_call_made t c =
    let defs = subst (λ ds. Decides c.lets_call_made.result (LetsCallAlone (IsMadeTerm (term_views c.args.self.now.terms.items)) (let_parts (let_views ds)))) c.deref-in-Let.ensures.value c.lets_call_made.ensures in
    let body = subst (λ x. Decides c.calls_made.result (CallsAlone (IsMadeTerm (term_views c.args.self.now.terms.items)) (expr_view x))) c.deref-then-lets_call_made.ensures c.calls_made.ensures in
    rw (c.in-Let.is, row_lets-hidden c.in-Let.bindings) (both_decided c.lets_call_made.result c.calls_made.result _ _ c.if-lets_call_made.true defs body)

pub calls_made-returns-else-lets_call_made : goal.calls_made-returns-else-lets_call_made
calls_made-returns-else-lets_call_made t c =
    let defs = subst (λ ds. Decides c.lets_call_made.result (LetsCallAlone (IsMadeTerm (term_views c.args.self.now.terms.items)) (let_parts (let_views ds)))) c.deref-in-Let.ensures.value c.lets_call_made.ensures in
    rw (c.in-Let.is, row_lets-hidden c.in-Let.bindings) (first_refuted c.lets_call_made.result _ _ c.if-lets_call_made.false defs)
