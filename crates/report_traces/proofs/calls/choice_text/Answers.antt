use Rattle.std.proofs.Common.{◌≡◌, ◌∙◌, ◌==◌, false, IfOk, ap, string_bytes, subst}
use Rattle.std.specs.List.{filter}
use Rattle.cranelift_isle.specs.Choice.{choice}
use Rattle.cranelift_isle.specs.Envs.{constant_at}
use Rattle.cranelift_isle.specs.Meaning.{total}
use Rattle.cranelift_isle.specs.RuleViews.{rule_views}
use Rattle.cranelift_isle.specs.TermViews.{term_views}
use Rattle.run_terms.specs.RunViews.{arg_views, outcome_view}
use Rattle.run_terms.specs.SourceViews.{of_terms}
use Rattle.report_traces.specs.Echoes.{echoes}
use Rattle.report_traces.specs.CallAnswers.{choice_by_echoes}
use Rattle.report_traces.specs.OutcomeTexts.{names_in, outcome_words}
use Rattle.report_traces.proofs.calls.choice_text.Goals as goal

pub returns : goal.returns
returns c =
    let l = c.args.lowered.now in
    let args = arg_views c.args.args.now in
    let echo = echoes (constant_at c.echo_in-echo.result.tyenv.now) (term_views c.echo_in-echo.result.terms.now) in
    let same : outcome_view c.in_ok-outcome.outcome ≡ choice_by_echoes l c.args.term.0 args =
    c.in_ok-outcome.ensures
    ∙ ap (λ ts. choice (of_terms ts) (total echo) (filter (λ r. r.root_term == c.args.term.0) (rule_views c.deref-2.result.now)) args) c.deref.ensures.value
    ∙ ap (λ rs. choice (of_terms l.termenv.terms.items) (total echo) (filter (λ r. r.root_term == c.args.term.0) (rule_views rs)) args) c.deref-2.ensures.value
    ∙ ap (λ f. choice (of_terms l.termenv.terms.items) (total f) (filter (λ r. r.root_term == c.args.term.0) (rule_views l.termenv.rules.items)) args) c.echo_in-echo.ensures
    in
    subst (λ o. IfOk c.outcome_text.result (λ text. string_bytes text ≡ outcome_words (names_in l) false o)) same c.outcome_text.ensures
