use Rattle.std.proofs.Common.{◌∙◌, ap}
use Rattle.model_questions.specs.Formulas as M
use Rattle.spec_cases.specs.Asking.{all_surely_in}
use Rattle.spec_cases.specs.Namings.{fact_of}
use Rattle.spec_cases.specs.Steps.{said_views}
use Rattle.spec_cases.proofs.arena.Formulas.under_fact.Goals as goal

pub returns : goal.returns
returns c = λ v w names apart all.
    let last = c.in_ok-one_of.ensures v names in
    let here = c.in_ok-here.ensures v w last.0 apart all in
    let not = c.in_ok-not.ensures v here.0 in
    let each = c.in_ok-all.ensures v w not.0 apart all in (
      each.0,
      last.1
          ∙ ap (λ x. M.one_of x (fact_of v c.in_ok-here.here)) (not.1 ∙ ap M.none_of each.1)
          ∙ ap (λ x. M.one_of (M.none_of (all_surely_in v c.args.asking.now (said_views v w c.args.under.now))) x) here.1,
    )
