use Rattle.std.proofs.Common.{[], ◌∷◌, Ok, Err, alloc_error, sym, ap, ◌∙◌, refl, arith, get_or, append-nil, IsTrue, subst}
use Rattle.core_syntax.specs.declared.visit_fault.VisitFault.TheVariants.{Memory}
use Rattle.core_typed.specs.ExprViews.{expr_view, let_views, let_parts}
use Rattle.model.specs.visits.ExprRuns.{LetsRun}
use Rattle.model.specs.lists.Visitable.{is_visitable_expr, are_visitable_lets, is_made_of}
use Rattle.core_typed.specs.VisitAnswers.{typed_inputs}
use Rattle.model.specs.visits.Runs.{bound_vars}
use Rattle.core_typed.specs.VisitorSteps.{expr_steps, no_memory}
use Rattle.core_typed.proofs.PatternRunSteps.{err_is}
use Rattle.core_typed.proofs.ExprRunSteps.{after_these, input_step, input_stop, input_refused, input_end, inputs_step, one_more, let_step, let_stop, let_refused, arg_visitable, let_visitable, lets_visitable}
use Rattle.core_typed.proofs.ExprRunForms.{seen_call, seen_let, asks_args, makes_call, counts_args, asks_defs, asks_body, runs_call, stops_call, runs_let, stops_let}
use Rattle.core_typed.proofs.VisitSizes.{expr_size, smaller_expr, smaller_value}
use Rattle.core_typed.proofs.+visit_expr.Goals as goal

pub expr_visits::visit_inputs-visit-requires : goal.expr_visits::visit_inputs-visit-requires
expr_visits::visit_inputs-visit-requires g t c κs within =
    let less = smaller_expr c.args.args.now c.loop-i.i c.index-args-i.result c.loop-i-test.true in (
      omega (arith, c.decreases, less, ap (λ q. expr_size (expr_view q)) c.index-args-i.is),
      (
        within.0,
        (
          within.1.0,
          (
            within.1.1,
            rw c.index-args-i.is
                (arg_visitable (g.E.UsedTerms.term_entries c.args.termenv.now) c.args.args.now c.loop-i.i c.index-args-i.result (bound_vars c.args.vars.now) c.loop-i-test.true c.loop-i.invariant.1.0).0,
          ),
        ),
      ),
    )

pub expr_visits::visit_inputs-returns-in_err-value-clause-run : goal.expr_visits::visit_inputs-returns-in_err-value-clause-run
expr_visits::visit_inputs-returns-in_err-value-clause-run g t c =
    rw (err_is c.from_residual.result c.in_err-value.field-0.0 c.from_residual.ensures)
    (c.loop-i.invariant.0 (Err c.in_err-value.field-0.0) c.visit.new.visitor
    (input_stop (expr_steps g.V.ExprVisitor) (g.E.UsedTerms.term_entries c.args.termenv.now) c.args.args.now c.args.tys.now c.loop-i.i c.index-args-i.result (record { 0 = 0 }) c.args.vars.now
    c.loop-i.visitor c.in_err-value.field-0.0 c.visit.new.visitor c.loop-i-test.true (omega (arith, c.loop-i-test.true, c.requires.count)) (rw (sym c.index-args-i.is) c.in_err-value.ensures.run)))

pub expr_visits::visit_inputs-returns-in_err-push-clause-run : goal.expr_visits::visit_inputs-returns-in_err-push-clause-run
expr_visits::visit_inputs-returns-in_err-push-clause-run g t c =
    rw (err_is c.from_residual-in_err-push.result (Memory alloc_error) c.from_residual-in_err-push.ensures)
    (c.loop-i.invariant.0 (Err (Memory alloc_error)) c.visit.new.visitor
    (input_refused (expr_steps g.V.ExprVisitor) (g.E.UsedTerms.term_entries c.args.termenv.now) c.args.args.now c.args.tys.now c.loop-i.i c.index-args-i.result (record { 0 = 0 }) c.args.vars.now
    c.in_ok-value.value c.loop-i.visitor c.visit.new.visitor c.loop-i-test.true (omega (arith, c.loop-i-test.true, c.requires.count)) (rw (sym c.index-args-i.is) c.in_ok-value.ensures.run)))

pub expr_visits::visit_inputs-loop-i-preserved : goal.expr_visits::visit_inputs-loop-i-preserved
expr_visits::visit_inputs-loop-i-preserved g t c = (
  λ r u h.
      rw (sym (inputs_step c.loop-i.inputs.items c.push.new.self.items c.in_ok-value.value (get_or c.args.tys.now c.loop-i.i (record { 0 = 0 })) (get_or c.args.tys.now c.loop-i.i (record { 0 = 0 })) r c.in_ok-push.ensures.items refl))
      (c.loop-i.invariant.0 (after_these ((c.in_ok-value.value, (get_or c.args.tys.now c.loop-i.i (record { 0 = 0 })).0) ∷ []) r) u
      (input_step (expr_steps g.V.ExprVisitor) (g.E.UsedTerms.term_entries c.args.termenv.now) c.args.args.now c.args.tys.now c.loop-i.i c.index-args-i.result (record { 0 = 0 }) c.args.vars.now
      c.in_ok-value.value c.loop-i.visitor c.visit.new.visitor r u c.loop-i-test.true (omega (arith, c.loop-i-test.true, c.requires.count)) (rw (sym c.index-args-i.is) c.in_ok-value.ensures.run) h)),
  (
    (arg_visitable (g.E.UsedTerms.term_entries c.args.termenv.now) c.args.args.now c.loop-i.i c.index-args-i.result (bound_vars c.args.vars.now) c.loop-i-test.true c.loop-i.invariant.1.0).1,
    one_more c.loop-i.inputs.items c.push.new.self.items (c.in_ok-value.value, get_or c.args.tys.now c.loop-i.i (record { 0 = 0 })) c.loop-i.i c.in_ok-push.ensures.items c.loop-i.invariant.1.1,
  ),
)

pub expr_visits::visit_inputs-returns-clause-run : goal.expr_visits::visit_inputs-returns-clause-run
expr_visits::visit_inputs-returns-clause-run g t c =
    rw (sym (append-nil (typed_inputs c.loop-i.inputs.items)))
    (c.loop-i.invariant.0 (Ok []) c.loop-i.visitor
    (input_end (expr_steps g.V.ExprVisitor) (g.E.UsedTerms.term_entries c.args.termenv.now) c.args.args.now c.args.tys.now c.loop-i.i c.args.vars.now c.loop-i.visitor
    (omega (arith, c.loop-i-test.false)) (omega (arith, c.loop-i-test.false, c.requires.count))))

pub expr_visits::visit_lets-visit-requires : goal.expr_visits::visit_lets-visit-requires
expr_visits::visit_lets-visit-requires g t c κs within =
    let less = smaller_value c.args.bindings.now c.loop-binding.binding-index c.binding-item.result c.loop-binding-test.true in
    let same = c.deref.ensures ∙ ap (λ d. d.2.value) c.binding-item.is in (
      omega (arith, c.decreases, less, ap (λ q. expr_size (expr_view q)) same),
      (
        within.0,
        (
          within.1.0,
          (
            within.1.1,
            subst (λ e. IsTrue (is_visitable_expr (g.E.UsedTerms.term_entries c.args.termenv.now) (expr_view e) (bound_vars c.loop-binding.vars))) (sym same)
                (let_visitable (g.E.UsedTerms.term_entries c.args.termenv.now) c.args.bindings.now c.loop-binding.binding-index c.binding-item.result (bound_vars c.loop-binding.vars) c.loop-binding-test.true c.loop-binding.invariant.1),
          ),
        ),
      ),
    )

pub expr_visits::visit_lets-returns-in_err-bind : goal.expr_visits::visit_lets-returns-in_err-bind
expr_visits::visit_lets-returns-in_err-bind g t c =
    rw (err_is c.from_residual-in_err-bind.result c.in_err-bind.field-0.0 c.from_residual-in_err-bind.ensures)
    (c.loop-binding.invariant.0 _ _
    (let_refused (expr_steps g.V.ExprVisitor) (g.E.UsedTerms.term_entries c.args.termenv.now) c.args.bindings.now c.loop-binding.binding-index c.binding-item.result c.loop-binding.vars c.bind.new.self c.in_ok-value.value
    c.loop-binding.visitor c.in_err-bind.field-0.0 c.visit.new.visitor c.loop-binding-test.true (rw (sym c.binding-item.is, sym c.deref.ensures) c.in_ok-value.ensures.run) (rw (sym c.binding-item.is) c.in_err-bind.ensures)))

pub expr_visits::visit_lets-loop-binding-preserved : goal.expr_visits::visit_lets-loop-binding-preserved
expr_visits::visit_lets-loop-binding-preserved g t c = (
  λ r u h.
      c.loop-binding.invariant.0 r u
      (let_step (expr_steps g.V.ExprVisitor) (g.E.UsedTerms.term_entries c.args.termenv.now) c.args.bindings.now c.loop-binding.binding-index c.binding-item.result c.loop-binding.vars c.bind.new.self c.in_ok-value.value tt
      c.loop-binding.visitor c.visit.new.visitor r u c.loop-binding-test.true (rw (sym c.binding-item.is, sym c.deref.ensures) c.in_ok-value.ensures.run) (rw (sym c.binding-item.is) c.in_ok-bind.ensures) h),
  lets_visitable (g.E.UsedTerms.term_entries c.args.termenv.now) c.args.bindings.now c.loop-binding.binding-index c.binding-item.result c.loop-binding.vars c.bind.new.self c.in_ok-value.value tt
      c.loop-binding-test.true c.loop-binding.invariant.1 (rw (sym c.binding-item.is) c.in_ok-bind.ensures),
)

pub exprs::Expr::visit-visit_inputs-requires : goal.exprs::Expr::visit-visit_inputs-requires
exprs::Expr::visit-visit_inputs-requires g t c κs within =
    let form = seen_call c.args.self.now c.in-Term.ty c.in-Term.term c.in-Term.args c.deref.result.now c.in-Term.is c.deref.ensures.value in (
      omega (arith, c.decreases, ap expr_size form),
      (
        within.0,
        (
          within.1.0,
          (
            within.1.1,
            (
              asks_args (g.E.UsedTerms.term_entries c.args.termenv.now) c.args.self.now c.in-Term.ty c.in-Term.term c.in-Term.args c.deref.result.now (bound_vars c.args.vars.now)
                  c.in-Term.is c.deref.ensures.value c.requires.visitable,
              counts_args (g.E.UsedTerms.term_entries c.args.termenv.now) c.in-Term.term _ c.used_term.result.now c.as_slice-tys.result.now c.used_term.ensures c.as_slice-tys.ensures.value
                  (makes_call (g.E.UsedTerms.term_entries c.args.termenv.now) c.args.self.now c.in-Term.ty c.in-Term.term c.in-Term.args c.deref.result.now (bound_vars c.args.vars.now)
                  c.in-Term.is c.deref.ensures.value c.requires.visitable),
            ),
          ),
        ),
      ),
    )

pub exprs::Expr::visit-returns-in_err-inputs-in-Term : goal.exprs::Expr::visit-returns-in_err-inputs-in-Term
exprs::Expr::visit-returns-in_err-inputs-in-Term g t c =
    record {
      run = rw (err_is c.from_residual.result c.in_err-inputs-in-Term.field-0.0 c.from_residual.ensures)
          (stops_call (expr_steps g.V.ExprVisitor) (g.E.UsedTerms.term_entries c.args.termenv.now) c.args.self.now c.in-Term.ty c.in-Term.term c.in-Term.args c.deref.result.now c.used_term.result.now c.as_slice-tys.result.now
          c.args.vars.now c.args.visitor.now c.in_err-inputs-in-Term.field-0.0 c.visit_inputs.new.visitor c.in-Term.is c.deref.ensures.value c.used_term.ensures c.as_slice-tys.ensures.value c.in_err-inputs-in-Term.ensures.run);
    }

pub exprs::Expr::visit-make-requires : goal.exprs::Expr::visit-make-requires
exprs::Expr::visit-make-requires g t c =
    subst (λ n. IsTrue (is_made_of (g.E.UsedTerms.term_entries c.args.termenv.now) c.in-Term.term.0 n))
    (omega (arith, c.in_ok-inputs-in-Term.ensures.count, c.in_ok-inputs-in-Term.inputs.ok.0))
    (makes_call (g.E.UsedTerms.term_entries c.args.termenv.now) c.args.self.now c.in-Term.ty c.in-Term.term c.in-Term.args c.deref.result.now (bound_vars c.args.vars.now)
    c.in-Term.is c.deref.ensures.value c.requires.visitable)

pub exprs::Expr::visit-returns-in_ok-inputs-in-Term : goal.exprs::Expr::visit-returns-in_ok-inputs-in-Term
exprs::Expr::visit-returns-in_ok-inputs-in-Term g t c =
    record {
      run = runs_call (expr_steps g.V.ExprVisitor) (g.E.UsedTerms.term_entries c.args.termenv.now) c.args.self.now c.in-Term.ty c.in-Term.term c.in-Term.args c.deref.result.now c.used_term.result.now c.as_slice-tys.result.now
          (typed_inputs c.in_ok-inputs-in-Term.inputs.items) c.args.vars.now c.args.visitor.now c.visit_inputs.new.visitor _ _ c.in-Term.is c.deref.ensures.value c.used_term.ensures c.as_slice-tys.ensures.value
          c.in_ok-inputs-in-Term.ensures.run c.make.ensures;
    }

pub exprs::Expr::visit-visit_lets-requires : goal.exprs::Expr::visit-visit_lets-requires
exprs::Expr::visit-visit_lets-requires g t c κs within =
    let terms = g.E.UsedTerms.term_entries c.args.termenv.now in
    let form = seen_let c.args.self.now c.in-Let.ty c.in-Let.bindings c.in-Let.body c.deref-in-Let.result.now c.in-Let.body.value c.in-Let.is c.deref-in-Let.ensures.value refl in (
      omega (arith, c.decreases, ap expr_size form),
      (
        within.0,
        (
          within.1.0,
          (
            within.1.1,
            subst (λ es. IsTrue (are_visitable_lets terms (let_parts (let_views c.deref-in-Let.result.now)) (bound_vars es))) (sym c.in_ok-inner-in-Let.ensures.ok)
                (asks_defs terms c.args.self.now c.in-Let.ty c.in-Let.bindings c.in-Let.body c.deref-in-Let.result.now (bound_vars c.args.vars.now) c.in-Let.is c.deref-in-Let.ensures.value c.requires.visitable),
          ),
        ),
      ),
    )

pub exprs::Expr::visit-returns-in_err-visit_lets-in-Let : goal.exprs::Expr::visit-returns-in_err-visit_lets-in-Let
exprs::Expr::visit-returns-in_err-visit_lets-in-Let g t c =
    let terms = g.E.UsedTerms.term_entries c.args.termenv.now in
    record {
      run = rw (err_is c.from_residual-in_err-visit_lets-in-Let.result c.in_err-visit_lets-in-Let.field-0.0 c.from_residual-in_err-visit_lets-in-Let.ensures)
          (stops_let (expr_steps g.V.ExprVisitor) terms c.args.self.now c.in-Let.ty c.in-Let.bindings c.in-Let.body c.deref-in-Let.result.now c.args.vars.now c.args.visitor.now
          c.in_err-visit_lets-in-Let.field-0.0 c.visit_lets.new.visitor c.in-Let.is c.deref-in-Let.ensures.value
          (subst (λ es. LetsRun no_memory (expr_steps g.V.ExprVisitor) terms (let_parts (let_views c.deref-in-Let.result.now)) es c.args.visitor.now (Err c.in_err-visit_lets-in-Let.field-0.0) c.visit_lets.new.visitor)
          c.in_ok-inner-in-Let.ensures.ok c.in_err-visit_lets-in-Let.ensures));
    }

pub exprs::Expr::visit-visit-requires : goal.exprs::Expr::visit-visit-requires
exprs::Expr::visit-visit-requires g t c κs within =
    let terms = g.E.UsedTerms.term_entries c.args.termenv.now in
    let form = seen_let c.args.self.now c.in-Let.ty c.in-Let.bindings c.in-Let.body c.deref-in-Let.result.now c.deref-in-Let-2.result.now c.in-Let.is c.deref-in-Let.ensures.value c.deref-in-Let-2.ensures in (
      omega (arith, c.decreases, ap expr_size form),
      (
        within.0,
        (
          within.1.0,
          (
            within.1.1,
            asks_body terms (expr_steps g.V.ExprVisitor) c.args.self.now c.in-Let.ty c.in-Let.bindings c.in-Let.body c.deref-in-Let.result.now c.deref-in-Let-2.result.now c.args.vars.now c.visit_lets.new.vars
                c.args.visitor.now c.visit_lets.new.visitor c.in-Let.is c.deref-in-Let.ensures.value c.deref-in-Let-2.ensures c.requires.visitable
                (subst (λ es. LetsRun no_memory (expr_steps g.V.ExprVisitor) terms (let_parts (let_views c.deref-in-Let.result.now)) es c.args.visitor.now (Ok c.visit_lets.new.vars) c.visit_lets.new.visitor)
                c.in_ok-inner-in-Let.ensures.ok c.in_ok-visit_lets-in-Let.ensures),
          ),
        ),
      ),
    )

pub exprs::Expr::visit-returns-in_ok-visit_lets-in-Let : goal.exprs::Expr::visit-returns-in_ok-visit_lets-in-Let
exprs::Expr::visit-returns-in_ok-visit_lets-in-Let g t c =
    let terms = g.E.UsedTerms.term_entries c.args.termenv.now in
    record {
      run = runs_let (expr_steps g.V.ExprVisitor) terms c.args.self.now c.in-Let.ty c.in-Let.bindings c.in-Let.body c.deref-in-Let.result.now c.deref-in-Let-2.result.now c.args.vars.now c.visit_lets.new.vars
          c.args.visitor.now c.visit_lets.new.visitor _ _ c.in-Let.is c.deref-in-Let.ensures.value c.deref-in-Let-2.ensures
          (subst (λ es. LetsRun no_memory (expr_steps g.V.ExprVisitor) terms (let_parts (let_views c.deref-in-Let.result.now)) es c.args.visitor.now (Ok c.visit_lets.new.vars) c.visit_lets.new.visitor)
          c.in_ok-inner-in-Let.ensures.ok c.in_ok-visit_lets-in-Let.ensures)
          c.visit.ensures.run;
    }

pub expr_visits::visit_lets-returns-in_err-value : goal.expr_visits::visit_lets-returns-in_err-value
expr_visits::visit_lets-returns-in_err-value g t c =
    rw (err_is c.from_residual.result c.in_err-value.field-0.0 c.from_residual.ensures)
    (c.loop-binding.invariant.0 _ _
    (let_stop (expr_steps g.V.ExprVisitor) (g.E.UsedTerms.term_entries c.args.termenv.now) c.args.bindings.now c.loop-binding.binding-index c.binding-item.result c.loop-binding.vars
    c.loop-binding.visitor c.in_err-value.field-0.0 c.visit.new.visitor c.loop-binding-test.true (rw (sym c.binding-item.is, sym c.deref.ensures) c.in_err-value.ensures.run)))
