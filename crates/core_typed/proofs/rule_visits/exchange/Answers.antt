use Rattle.std.proofs.Common.{◌+◌, [], ◌∷◌, Ok, Err, alloc_error, drop, sym, ap, append-nil}
use Rattle.std.proofs.lemmas.List.{drop_all}
use Rattle.core_typed.specs.BoundEntries.{by_number}
use Rattle.core_typed.specs.VisitorSteps.{rule_steps}
use Rattle.core_syntax.specs.declared.visit_fault.VisitFault.TheVariants.{Memory}
use Rattle.core_typed.proofs.BoundPlaces.{next_entry}
use Rattle.core_typed.proofs.PatternRunSteps.{err_is}
use Rattle.core_typed.proofs.ExprRunSteps.{after_these}
use Rattle.core_typed.proofs.RuleRunSteps.{exchange_step, exchange_stop, exchange_refused, exchanged_more, exchange_end, binds_fault}
use Rattle.core_typed.proofs.rule_visits.exchange.Goals as goal

pub returns-in_err-value : goal.returns-in_err-value
returns-in_err-value g c =
    let vs = c.entries-entry-items.result.now in
    let i = c.loop-entry.entry-index in
    let e = c.entry-item.result in
    rw (err_is c.from_residual.result c.in_err-value.field-0.0 c.from_residual.ensures)
    (c.loop-entry.invariant.0 (Err c.in_err-value.field-0.0) c.pattern_as_expr.new.self
    (exchange_stop (rule_steps g.V.RuleVisitor) (by_number (drop i vs)) (by_number (drop (i + 1) vs)) e.0.0 e.1
    c.loop-entry.visitor c.in_err-value.field-0.0 c.pattern_as_expr.new.self (next_entry vs i e c.loop-entry-test.true c.entry-item.is) c.in_err-value.ensures))

pub returns-in_err-bind : goal.returns-in_err-bind
returns-in_err-bind g c =
    let vs = c.entries-entry-items.result.now in
    let i = c.loop-entry.entry-index in
    let e = c.entry-item.result in
    rw (
      err_is c.from_residual-in_err-bind.result c.in_err-bind.field-0.0 c.from_residual-in_err-bind.ensures,
      binds_fault e.0.0 c.in_ok-value.value c.loop-entry.values c.bind.new.self c.in_err-bind.field-0.0 c.in_err-bind.ensures,
    )
    (c.loop-entry.invariant.0 (Err (Memory alloc_error)) c.pattern_as_expr.new.self
    (exchange_refused (rule_steps g.V.RuleVisitor) (by_number (drop i vs)) (by_number (drop (i + 1) vs)) e.0.0 e.1 c.in_ok-value.value
    c.loop-entry.visitor c.pattern_as_expr.new.self (next_entry vs i e c.loop-entry-test.true c.entry-item.is) c.in_ok-value.ensures))

pub loop-entry-preserved : goal.loop-entry-preserved
loop-entry-preserved g c =
    let vs = c.entries-entry-items.result.now in
    let i = c.loop-entry.entry-index in
    let e = c.entry-item.result in (
      λ r u h.
          rw (sym (exchanged_more (rule_steps g.V.RuleVisitor) c.loop-entry.values c.bind.new.self (by_number (drop i vs)) (by_number (drop (i + 1) vs)) c.args.vars.now
          e.0.0 e.1 c.in_ok-value.value tt r
          c.loop-entry.invariant.1 (next_entry vs i e c.loop-entry-test.true c.entry-item.is) c.entries-entry-items.ensures.ascending c.in_ok-bind.ensures).0)
          (c.loop-entry.invariant.0 (after_these ((e.0.0, c.in_ok-value.value) ∷ []) r) u
          (exchange_step (rule_steps g.V.RuleVisitor) (by_number (drop i vs)) (by_number (drop (i + 1) vs)) e.0.0 e.1 c.in_ok-value.value
          c.loop-entry.visitor c.pattern_as_expr.new.self r u (next_entry vs i e c.loop-entry-test.true c.entry-item.is) c.in_ok-value.ensures h)),
      (exchanged_more (rule_steps g.V.RuleVisitor) c.loop-entry.values c.bind.new.self (by_number (drop i vs)) (by_number (drop (i + 1) vs)) c.args.vars.now
          e.0.0 e.1 c.in_ok-value.value tt (Ok [])
          c.loop-entry.invariant.1 (next_entry vs i e c.loop-entry-test.true c.entry-item.is) c.entries-entry-items.ensures.ascending c.in_ok-bind.ensures).1,
    )

pub returns : goal.returns
returns g c =
    rw (sym (append-nil c.loop-entry.values))
    (c.loop-entry.invariant.0 (Ok []) c.loop-entry.visitor (exchange_end (rule_steps g.V.RuleVisitor) (by_number (drop c.loop-entry.entry-index c.entries-entry-items.result.now)) c.loop-entry.visitor (ap by_number (drop_all c.loop-entry.entry-index c.entries-entry-items.result.now c.loop-entry-test.false))))
