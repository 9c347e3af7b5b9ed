use Rattle.std.proofs.Common.{length}
use Rattle.model.specs.sites.Sites.{each_term, unfold_site}
use Rattle.core_builder.specs.VisitedSites.{built_sites}
use Rattle.core_builder.proofs.BuilderCalls.{below_all, call_ends, call_valued, making_ends}
use Rattle.core_rule_sets.proofs.FullTables.{passed_on}
use Rattle.core_builder.proofs.ruleset_builder.RuleSetBuilder.construct.Goals as goal

pub returns-in_err-call-clause-full : goal.returns-in_err-call-clause-full
returns-in_err-call-clause-full c before v flags h all pure partial multi =
    passed_on c.from_residual.result c.in_err-call.field-0.0 _ c.from_residual.ensures
    (call_ends before c.args.self.now v flags c.args.pure pure c.args.term.0 (each_term (unfold_site (built_sites c.args.self.now)) c.args.parameters.items) c.instance-instance.result h
    (c.instance-instance.ensures.number before v h) c.make.new.self c.in_err-call.field-0.0 (c.in_err-call.ensures.full before v h (below_all (length (built_sites c.args.self.now)) c.args.parameters.items all)))

pub returns-in_err-value-clause-full : goal.returns-in_err-value-clause-full
returns-in_err-value-clause-full c before v flags h all pure partial multi =
    passed_on c.from_residual-in_err-value.result c.in_err-value.field-0.0 _ c.from_residual-in_err-value.ensures
    (making_ends before c.args.self.now v flags c.args.pure pure c.args.term.0 (each_term (unfold_site (built_sites c.args.self.now)) c.args.parameters.items) c.instance-instance.result h
    (c.instance-instance.ensures.number before v h) c.make.new.self c.in_ok-call.call
    (c.in_ok-call.ensures.made before v h (below_all (length (built_sites c.args.self.now)) c.args.parameters.items all)) c.make_value.new.self c.in_err-value.field-0.0
    (λ w g k. c.in_err-value.ensures.full before w flags g k partial multi))

pub returns-clause-constructed : goal.returns-clause-constructed
returns-clause-constructed c before v flags h all pure partial multi =
    call_valued before c.args.self.now v flags c.args.pure pure c.args.term.0 (each_term (unfold_site (built_sites c.args.self.now)) c.args.parameters.items) c.instance-instance.result h
    (c.instance-instance.ensures.number before v h) c.make.new.self c.in_ok-call.call
    (c.in_ok-call.ensures.made before v h (below_all (length (built_sites c.args.self.now)) c.args.parameters.items all)) c.make_value.new.self c.go_over.new.self c.note_call.new.self
    c.in_ok-value.value (λ w g k. c.in_ok-value.ensures.made before w flags g k partial multi) (λ w g k. c.in_ok-go_over.ensures.gone_over before w flags g k multi)
    (c.in_ok-note_call.ensures.called before)
