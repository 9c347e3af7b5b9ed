use Rattle.std.proofs.Common.{◌∙◌, ap, sym}
use Rattle.model_questions.specs.Steps as S
use Rattle.spec_cases.specs.Asking.{fact_in}
use Rattle.spec_cases.specs.Steps.{said_view, said_views, step_view}
use Rattle.spec_cases.proofs.arena.Formulas.fact_of.Goals as goal

pub returns-in_ok-perhaps_said-in-Assumed : goal.returns-in_ok-perhaps_said-in-Assumed
returns-in_ok-perhaps_said-in-Assumed c = λ v w names apart all.
    let made = c.in_ok-perhaps_said-in-Assumed.ensures v w names apart all in
    (made.0, made.1 ∙ ap (λ x. fact_in v c.args.asking.now (step_view v w x)) (sym c.in-Assumed.is))

pub returns-in_ok-under_fact-in-AssumedUnder : goal.returns-in_ok-under_fact-in-AssumedUnder
returns-in_ok-under_fact-in-AssumedUnder c = λ v w names apart all.
    let made = c.in_ok-under_fact-in-AssumedUnder.ensures v w names apart all in
    (made.0, made.1 ∙ ap (λ l. fact_in v c.args.asking.now (S.assumed_under (said_views v w l) (said_view v w c.in-AssumedUnder.said))) c.deref.ensures.value ∙ ap (λ x. fact_in v c.args.asking.now (step_view v w x)) (sym c.in-AssumedUnder.is))

pub returns-in_ok-surely_said-in-Shown : goal.returns-in_ok-surely_said-in-Shown
returns-in_ok-surely_said-in-Shown c = λ v w names apart all.
    let made = c.in_ok-surely_said-in-Shown.ensures v w names apart all in
    (made.0, made.1 ∙ ap (λ x. fact_in v c.args.asking.now (step_view v w x)) (sym c.in-Shown.is))
