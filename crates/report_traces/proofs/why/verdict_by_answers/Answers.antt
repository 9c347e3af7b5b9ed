use Rattle.std.proofs.Common.{◌≡◌, ◌∙◌, [], IfOk, ap, subst}
use Rattle.cranelift_isle.specs.Envs.{constant_at}
use Rattle.cranelift_isle.specs.RuleViews.{rule_view, rule_views}
use Rattle.model.specs.rules.Meaning.{total}
use Rattle.run_terms.specs.RunViews.{arg_views}
use Rattle.run_terms.specs.SourceViews.{of_terms}
use Rattle.report_traces.specs.KnownAnswers.{answered}
use Rattle.report_traces.specs.RuleVerdicts.{verdict_on, verdict_view}
use Rattle.report_traces.specs.RunAnswers.{answered_in}
use Rattle.report_traces.proofs.why.verdict_by_answers.Goals as goal

pub returns : goal.returns
returns c =
    let l = c.args.lowered.now in
    let known = c.answered-answered.result in
    let functions = answered (constant_at known.tyenv.now) known.extracted.now known.called.now known.made.now in
    let rule = rule_view c.args.rule.now in
    let args = arg_views c.args.args.now in
    let same : verdict_on (of_terms c.deref.result.now) (total functions) (rule_views c.deref-2.result.now) rule args
    ≡ verdict_on (of_terms l.termenv.terms.items) (total (answered_in l c.args.runs.now [])) (rule_views l.termenv.rules.items) rule args =
    ap (λ ts. verdict_on (of_terms ts) (total functions) (rule_views c.deref-2.result.now) rule args) c.deref.ensures.value
    ∙ ap (λ f. verdict_on (of_terms l.termenv.terms.items) (total f) (rule_views c.deref-2.result.now) rule args) c.answered-answered.ensures
    ∙ ap (λ rs. verdict_on (of_terms l.termenv.terms.items) (total (answered_in l c.args.runs.now [])) (rule_views rs) rule args) c.deref-2.ensures.value
    in
    subst (λ v. IfOk c.verdict_on.result (λ r. verdict_view r ≡ v)) same c.verdict_on.ensures
