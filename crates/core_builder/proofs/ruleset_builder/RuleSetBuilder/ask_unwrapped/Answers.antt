use Rattle.std.proofs.Common.{◌≡◌, rules, ap, ◌∙◌, sym, subst}
use Rattle.std.specs.Bool.{◌==◌}
use Rattle.core_syntax.specs.Stable.{contains}
use Rattle.core_builder.specs.VisitedSites.{AreUnwrapped, built_sites}
use Rattle.core_builder.proofs.AskedAnswers.{answers_asked, stands_with}
use Rattle.core_builder.proofs.BuilderSteps.{nothing_answered}
use Rattle.core_builder.proofs.ruleset_builder.RuleSetBuilder.ask_unwrapped.Goals as goal

pub returns : goal.returns
returns c before v h there nothing_else =
    let old = c.args.self.now in
    let none = c.replace-walked.new.dest in
    let calls = c.deref.result.now in
    let same : calls ≡ c.in_ok-calls.calls.items = search (rules, c.deref.ensures) in
    let found = subst (λ w. AreUnwrapped (built_sites old) c.args.site w c.unwrapped_calls.new.walked c.in_ok-calls.calls.items) c.replace-walked.ensures.value (c.in_ok-calls.ensures h.table there) in
    let a = subst (AreUnwrapped (built_sites old) c.args.site old.answered c.unwrapped_calls.new.walked) (sym same) found in
    let empty = nothing_answered (built_sites old) v none (λ s. ap (λ w. contains ◌==◌ w s) c.replace-walked.ensures.after ∙ c.new.ensures.none s) in
    answers_asked before old c.ask_answers.new.self v c.args.site none c.unwrapped_calls.new.walked calls h nothing_else a
    (c.in_ok-ask_answers.ensures before v (stands_with before old v none h empty) a.within)
