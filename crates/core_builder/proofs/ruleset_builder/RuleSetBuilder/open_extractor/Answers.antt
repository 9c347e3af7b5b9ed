use Rattle.std.proofs.Common.{ℕ}
use Rattle.model.specs.sites.Sites.{SiteTerm, extractor_call, unfold_site}
use Rattle.core_builder.specs.VisitedSites.{built_sites}
use Rattle.core_builder.specs.declared.ruleset_builder.RuleSetBuilder.{RuleSetBuilder}
use Rattle.core_builder.proofs.BuilderFields.{below_one, call_opens, open_call_ends, answer_ends, outputs_end}
use Rattle.core_rule_sets.proofs.FullTables.{passed_on}
use Rattle.core_builder.proofs.ruleset_builder.RuleSetBuilder.open_extractor.Goals as goal

-- the call of an extractor for a site
abbrev call_for : RuleSetBuilder → ℕ → ℕ → SiteTerm
call_for b term input = extractor_call term (unfold_site (built_sites b) input)

pub returns-clause-opened : goal.returns-clause-opened
returns-clause-opened c before v flags args h l is e =
    call_opens before v flags c.args.multi c.args.infallible is (call_for c.args.self.now c.args.term.0 c.args.input) c.args.self.now c.make.new.self c.in_ok-call.call
    (c.in_ok-call.ensures.made before v h (below_one c.args.self.now c.args.input l)) c.open_answer.new.self c.in_ok-site.site (c.in_ok-site.ensures.opened before) c.open_outputs.new.self
    c.open_outputs.result args c.args.count (λ g k. c.open_outputs.ensures.opened before _ args g k e)

pub returns-clause-full : goal.returns-clause-full
returns-clause-full c before v flags args h l is e =
    outputs_end before v flags c.args.multi c.args.infallible is (call_for c.args.self.now c.args.term.0 c.args.input) c.args.self.now c.make.new.self c.in_ok-call.call
    (c.in_ok-call.ensures.made before v h (below_one c.args.self.now c.args.input l)) c.open_answer.new.self c.in_ok-site.site (c.in_ok-site.ensures.opened before) c.open_outputs.new.self
    c.open_outputs.result args c.args.count (λ g k. c.open_outputs.ensures.full before _ args g k e)

pub returns-in_err-call-clause-full : goal.returns-in_err-call-clause-full
returns-in_err-call-clause-full c before v flags args h l is e =
    passed_on c.from_residual.result c.in_err-call.field-0.0 _ c.from_residual.ensures
    (open_call_ends before v flags c.args.multi c.args.infallible is (call_for c.args.self.now c.args.term.0 c.args.input) args c.args.count c.make.new.self c.in_err-call.field-0.0
    (c.in_err-call.ensures.full before v h (below_one c.args.self.now c.args.input l)))

pub returns-in_err-site-clause-full : goal.returns-in_err-site-clause-full
returns-in_err-site-clause-full c before v flags args h l is e =
    passed_on c.from_residual-in_err-site.result c.in_err-site.field-0.0 _ c.from_residual-in_err-site.ensures
    (answer_ends before v flags c.args.multi c.args.infallible is (call_for c.args.self.now c.args.term.0 c.args.input) c.args.self.now c.make.new.self c.in_ok-call.call
    (c.in_ok-call.ensures.made before v h (below_one c.args.self.now c.args.input l)) args c.args.count c.open_answer.new.self c.in_err-site.field-0.0 (c.in_err-site.ensures.full before))
