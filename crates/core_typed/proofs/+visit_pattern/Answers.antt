use Rattle.std.proofs.Common.{sym, ap, arith, get_or}
use Rattle.core_typed.specs.PatternViews.{pattern_view}
use Rattle.model.specs.visits.Runs.{bound_vars}
use Rattle.core_typed.specs.VisitorSteps.{pattern_steps}
use Rattle.core_typed.proofs.PatternRunSteps.{err_is, run_binds, parts_step, parts_stop, each_step, each_stop, rest_visitable, next_visitable}
use Rattle.core_typed.proofs.PatternRunForms.{seen_term, seen_and, seen_bind, asks_term, asks_and, asks_bind, runs_term, stops_term, runs_and, runs_bind, runs_var}
use Rattle.core_typed.proofs.VisitSizes.{pattern_size, smaller_pattern}
use Rattle.core_typed.proofs.+visit_pattern.Goals as goal

pub pattern_visits::visit_each-returns-in_err-visit : goal.pattern_visits::visit_each-returns-in_err-visit
pattern_visits::visit_each-returns-in_err-visit g t c =
    rw (err_is c.from_residual.result c.in_err-visit.field-0.0 c.from_residual.ensures)
    (c.loop-part.invariant.0 _ _
    (each_stop (pattern_steps g.V.PatternVisitor) (g.E.UsedTerms.term_entries c.args.termenv.now) c.args.parts.now c.loop-part.part-index c.part-item.result c.args.input
    (c.loop-part.visitor, c.loop-part.vars) c.in_err-visit.field-0.0 (c.visit.new.visitor, c.visit.new.vars)
    c.loop-part-test.true (rw (sym c.part-item.is) c.in_err-visit.ensures.run)))

pub pattern_visits::visit_each-loop-part-preserved : goal.pattern_visits::visit_each-loop-part-preserved
pattern_visits::visit_each-loop-part-preserved g t c = (
  λ r u h.
      c.loop-part.invariant.0 r u
      (each_step (pattern_steps g.V.PatternVisitor) (g.E.UsedTerms.term_entries c.args.termenv.now) c.args.parts.now c.loop-part.part-index c.part-item.result c.args.input
      (c.loop-part.visitor, c.loop-part.vars) (c.visit.new.visitor, c.visit.new.vars) r u
      c.loop-part-test.true (rw (sym c.part-item.is) c.in_ok-visit.ensures.run) h),
  rest_visitable (g.E.UsedTerms.term_entries c.args.termenv.now) c.args.parts.now c.loop-part.part-index c.part-item.result (bound_vars c.loop-part.vars) (bound_vars c.visit.new.vars)
      c.loop-part-test.true c.loop-part.invariant.1
      (run_binds (pattern_steps g.V.PatternVisitor) (g.E.UsedTerms.term_entries c.args.termenv.now) (pattern_view (get_or c.args.parts.now c.loop-part.part-index c.part-item.result)) c.args.input
      (c.loop-part.visitor, c.loop-part.vars) tt (c.visit.new.visitor, c.visit.new.vars) (rw (sym c.part-item.is) c.in_ok-visit.ensures.run)),
)

pub pattern_visits::visit_parts-returns-in_err-visit : goal.pattern_visits::visit_parts-returns-in_err-visit
pattern_visits::visit_parts-returns-in_err-visit g t c =
    rw (err_is c.from_residual.result c.in_err-visit.field-0.0 c.from_residual.ensures)
    (c.loop-i.invariant.0 _ _
    (parts_stop (pattern_steps g.V.PatternVisitor) (g.E.UsedTerms.term_entries c.args.termenv.now) c.args.parts.now c.args.ids.now c.loop-i.i c.index-parts-i.result c.index-ids-i.result
    (c.loop-i.visitor, c.loop-i.vars) c.in_err-visit.field-0.0 (c.visit.new.visitor, c.visit.new.vars)
    c.loop-i-test.true (omega (arith, c.loop-i-test.true, c.requires.count)) (rw (sym c.index-parts-i.is, sym c.index-ids-i.is) c.in_err-visit.ensures.run)))

pub pattern_visits::visit_parts-loop-i-preserved : goal.pattern_visits::visit_parts-loop-i-preserved
pattern_visits::visit_parts-loop-i-preserved g t c = (
  λ r u h.
      c.loop-i.invariant.0 r u
      (parts_step (pattern_steps g.V.PatternVisitor) (g.E.UsedTerms.term_entries c.args.termenv.now) c.args.parts.now c.args.ids.now c.loop-i.i c.index-parts-i.result c.index-ids-i.result
      (c.loop-i.visitor, c.loop-i.vars) (c.visit.new.visitor, c.visit.new.vars) r u
      c.loop-i-test.true (omega (arith, c.loop-i-test.true, c.requires.count)) (rw (sym c.index-parts-i.is, sym c.index-ids-i.is) c.in_ok-visit.ensures.run) h),
  rest_visitable (g.E.UsedTerms.term_entries c.args.termenv.now) c.args.parts.now c.loop-i.i c.index-parts-i.result (bound_vars c.loop-i.vars) (bound_vars c.visit.new.vars)
      c.loop-i-test.true c.loop-i.invariant.1
      (run_binds (pattern_steps g.V.PatternVisitor) (g.E.UsedTerms.term_entries c.args.termenv.now) (pattern_view (get_or c.args.parts.now c.loop-i.i c.index-parts-i.result)) c.index-ids-i.result
      (c.loop-i.visitor, c.loop-i.vars) tt (c.visit.new.visitor, c.visit.new.vars) (rw (sym c.index-parts-i.is) c.in_ok-visit.ensures.run)),
)

pub patterns::Pattern::visit-returns-in_err-ids-in-Term : goal.patterns::Pattern::visit-returns-in_err-ids-in-Term
patterns::Pattern::visit-returns-in_err-ids-in-Term g t c =
    record {
      run = rw (err_is c.from_residual-in_err-ids-in-Term.result c.in_err-ids-in-Term.field-0.0 c.from_residual-in_err-ids-in-Term.ensures)
          (stops_term (pattern_steps g.V.PatternVisitor) (g.E.UsedTerms.term_entries c.args.termenv.now) c.args.self.now c.in-Term.ty c.in-Term.term c.in-Term.parts c.deref-in-Term.result.now c.args.input
          c.args.visitor.now c.part_ids.new.visitor c.args.vars.now c.in_err-ids-in-Term.field-0.0 c.in-Term.is c.deref-in-Term.ensures.value c.in_err-ids-in-Term.ensures.steps);
    }

pub patterns::Pattern::visit-returns-in_ok-bind-in-BindPattern : goal.patterns::Pattern::visit-returns-in_ok-bind-in-BindPattern
patterns::Pattern::visit-returns-in_ok-bind-in-BindPattern g t c =
    record {
      run = runs_bind (pattern_steps g.V.PatternVisitor) (g.E.UsedTerms.term_entries c.args.termenv.now) c.args.self.now c.in-BindPattern.field-0 c.in-BindPattern.var c.in-BindPattern.of c.deref.result.now c.args.input
          c.args.visitor.now c.args.vars.now c.bind.new.self tt _ _ c.in-BindPattern.is c.deref.ensures c.in_ok-bind-in-BindPattern.ensures c.visit.ensures.run;
    }

pub patterns::Pattern::visit-returns-in-Var : goal.patterns::Pattern::visit-returns-in-Var
patterns::Pattern::visit-returns-in-Var g t c =
    record {
      run = runs_var (pattern_steps g.V.PatternVisitor) (g.E.UsedTerms.term_entries c.args.termenv.now) c.args.self.now c.in-Var.ty c.in-Var.var c.args.input c.id_of.result
          c.args.visitor.now c.add_match_equal.new.self c.args.vars.now _ c.in-Var.is c.id_of.ensures c.add_match_equal.ensures;
    }

pub patterns::Pattern::visit-returns-in_ok-ids-in-Term : goal.patterns::Pattern::visit-returns-in_ok-ids-in-Term
patterns::Pattern::visit-returns-in_ok-ids-in-Term g t c =
    record {
      run = runs_term (pattern_steps g.V.PatternVisitor) (g.E.UsedTerms.term_entries c.args.termenv.now) c.args.self.now c.in-Term.ty c.in-Term.term c.in-Term.parts c.deref-in-Term.result.now c.args.input
          c.in_ok-ids-in-Term.ids.items c.args.visitor.now c.part_ids.new.visitor c.args.vars.now _ _ c.in-Term.is c.deref-in-Term.ensures.value c.in_ok-ids-in-Term.ensures.steps
          (rw (c.deref-in-Term.ensures.value, sym c.deref-in-Term-2.ensures.value, sym c.deref-in-Term-3.ensures.value) c.visit_parts.ensures);
    }

pub patterns::Pattern::visit-returns-in-And : goal.patterns::Pattern::visit-returns-in-And
patterns::Pattern::visit-returns-in-And g t c =
    record {
      run = runs_and (pattern_steps g.V.PatternVisitor) (g.E.UsedTerms.term_entries c.args.termenv.now) c.args.self.now c.in-And.field-0 c.in-And.parts c.deref-in-And.result.now c.args.input
          (c.args.visitor.now, c.args.vars.now) _ _ c.in-And.is c.deref-in-And.ensures.value c.visit_each.ensures;
    }

pub patterns::Pattern::visit-visit-requires : goal.patterns::Pattern::visit-visit-requires
patterns::Pattern::visit-visit-requires g t c κs within =
    let form = seen_bind c.args.self.now c.in-BindPattern.field-0 c.in-BindPattern.var c.in-BindPattern.of c.deref.result.now c.in-BindPattern.is c.deref.ensures in (
      omega (arith, c.decreases, ap pattern_size form),
      (
        within.0,
        (
          within.1.0,
          (
            within.1.1,
            asks_bind (g.E.UsedTerms.term_entries c.args.termenv.now) c.args.self.now c.in-BindPattern.field-0 c.in-BindPattern.var c.in-BindPattern.of c.deref.result.now
                c.args.vars.now c.bind.new.self c.args.input tt c.in-BindPattern.is c.deref.ensures c.in_ok-bind-in-BindPattern.ensures c.requires.visitable,
          ),
        ),
      ),
    )

pub patterns::Pattern::visit-visit_each-requires : goal.patterns::Pattern::visit-visit_each-requires
patterns::Pattern::visit-visit_each-requires g t c κs within =
    let form = seen_and c.args.self.now c.in-And.field-0 c.in-And.parts c.deref-in-And.result.now c.in-And.is c.deref-in-And.ensures.value in (
      omega (arith, c.decreases, ap pattern_size form),
      (
        within.0,
        (
          within.1.0,
          (
            within.1.1,
            asks_and (g.E.UsedTerms.term_entries c.args.termenv.now) c.args.self.now c.in-And.field-0 c.in-And.parts c.deref-in-And.result.now (bound_vars c.args.vars.now)
                c.in-And.is c.deref-in-And.ensures.value c.requires.visitable,
          ),
        ),
      ),
    )

pub patterns::Pattern::visit-visit_parts-requires : goal.patterns::Pattern::visit-visit_parts-requires
patterns::Pattern::visit-visit_parts-requires g t c κs within =
    let form = seen_term c.args.self.now c.in-Term.ty c.in-Term.term c.in-Term.parts c.deref-in-Term-2.result.now c.in-Term.is c.deref-in-Term-2.ensures.value in (
      omega (arith, c.decreases, ap pattern_size form),
      (
        within.0,
        (
          within.1.0,
          (
            within.1.1,
            (
              asks_term (g.E.UsedTerms.term_entries c.args.termenv.now) c.args.self.now c.in-Term.ty c.in-Term.term c.in-Term.parts c.deref-in-Term-2.result.now (bound_vars c.args.vars.now)
                  c.in-Term.is c.deref-in-Term-2.ensures.value c.requires.visitable,
              omega (arith, c.deref-in-Term-3.ensures.len, c.in_ok-ids-in-Term.ensures.count, c.deref-in-Term.ensures.len, c.deref-in-Term-2.ensures.len),
            ),
          ),
        ),
      ),
    )

pub pattern_visits::visit_parts-visit-requires : goal.pattern_visits::visit_parts-visit-requires
pattern_visits::visit_parts-visit-requires g t c κs within =
    let less = smaller_pattern c.args.parts.now c.loop-i.i c.index-parts-i.result c.loop-i-test.true in (
      omega (arith, c.decreases, less, ap (λ q. pattern_size (pattern_view q)) c.index-parts-i.is),
      (
        within.0,
        (
          within.1.0,
          (
            within.1.1,
            rw c.index-parts-i.is
                (next_visitable (g.E.UsedTerms.term_entries c.args.termenv.now) c.args.parts.now c.loop-i.i c.index-parts-i.result (bound_vars c.loop-i.vars) c.loop-i-test.true c.loop-i.invariant.1),
          ),
        ),
      ),
    )

pub pattern_visits::visit_each-visit-requires : goal.pattern_visits::visit_each-visit-requires
pattern_visits::visit_each-visit-requires g t c κs within =
    let less = smaller_pattern c.args.parts.now c.loop-part.part-index c.part-item.result c.loop-part-test.true in (
      omega (arith, c.decreases, less, ap (λ q. pattern_size (pattern_view q)) c.part-item.is),
      (
        within.0,
        (
          within.1.0,
          (
            within.1.1,
            rw c.part-item.is
                (next_visitable (g.E.UsedTerms.term_entries c.args.termenv.now) c.args.parts.now c.loop-part.part-index c.part-item.result (bound_vars c.loop-part.vars) c.loop-part-test.true c.loop-part.invariant.1),
          ),
        ),
      ),
    )
